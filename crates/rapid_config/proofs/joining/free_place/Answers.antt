use Rattle.std.proofs.Common.{ℕ, List, subst}
use Rattle.std.specs.Prelude.{Ok, Err}
use Rattle.std.specs.List.Sorted.{IsBinarySearchResult}
use Rattle.rapid_model.specs.Process.{identifier, bytes_cmp}
use Rattle.rapid_config.proofs.Insertions.{held_at, none_held, place_of_joiner}
use Rattle.rapid_config.proofs.joining.free_place.Goals as goal

pub returns-in-Ok : goal.returns-in-Ok
returns-in-Ok c =
    let k = subst (λ (x : List ℕ). IsBinarySearchResult (λ y. bytes_cmp (identifier y) x) c.args.members.now (Ok c.in-Ok._place)) c.id.ensures c.in-Ok.ensures.place in
    held_at c.args.members.now c.args.joiner.now c.in-Ok._place c.in-Ok.ensures.within k

pub returns-in-Err : goal.returns-in-Err
returns-in-Err c =
    let k = subst (λ (x : List ℕ). IsBinarySearchResult (λ y. bytes_cmp (identifier y) x) c.args.members.now (Err c.in-Err.place)) c.id.ensures c.in-Err.ensures.place in (
      c.in-Err.ensures.within,
      none_held c.args.members.now c.args.joiner.now c.in-Err.place c.requires k,
      place_of_joiner c.args.members.now c.args.joiner.now c.in-Err.place c.requires c.in-Err.ensures.within k,
    )
