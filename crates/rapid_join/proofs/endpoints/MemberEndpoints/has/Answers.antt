use Rattle.std.proofs.Common.{sym, subst}
use Rattle.std.specs.List.Sorted.{IsSorted}
use Rattle.rapid_model.specs.Process.{bytes_cmp}
use Rattle.rapid_join.proofs.Holding.{endpoint_found, endpoint_missed}
use Rattle.rapid_join.proofs.endpoints.MemberEndpoints.has.Goals as goal

pub returns-in-Ok : goal.returns-in-Ok
returns-in-Ok c =
    rw (← c.self.view_is, ← c.as_slice.ensures.value) (sym (endpoint_found c.as_slice.result.now c.args.endpoint.now c.in-Ok._place c.in-Ok.ensures.bound c.in-Ok.ensures.position))

pub returns-in-Err : goal.returns-in-Err
returns-in-Err c =
    let up : IsSorted bytes_cmp c.as_slice.result.now = subst (IsSorted bytes_cmp) (sym c.as_slice.ensures.value) c.self.invariant in
    rw (← c.self.view_is, ← c.as_slice.ensures.value) (sym (endpoint_missed c.as_slice.result.now c.args.endpoint.now c.in-Err._next up c.in-Err.ensures.position))
