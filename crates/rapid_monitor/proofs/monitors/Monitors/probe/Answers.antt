use Rattle.std.proofs.Common.{◌<◌, length, sym, ap, ◌∙◌, arith, List, Option}
use Rattle.rapid_model.specs.Edge.{Edge}
use Rattle.rapid_model.specs.Monitors.{edge_at}
use Rattle.rapid_monitor.proofs.Windows.{slot_at, slot_so_far}
use Rattle.rapid_monitor.proofs.monitors.Monitors.probe.Goals as goal

pub returns-clause-so_far : goal.returns-clause-so_far
returns-clause-so_far c oks is =
    let within : c.from-place.result < length c.self.inside.edges.items = omega arith in
    slot_so_far c.index_mut.result.now c.args.ok oks c.probe_slot.result c.probe_slot.ensures.verdict (
    c.index_mut.ensures.value
    ∙ sym (slot_at c.self.inside.edges.items c.from-place.result c.index_mut.result.now within)
    ∙ ap (λ k. edge_at c.self.inside.edges.items k) c.from-place.ensures
    ∙ ap (λ (m : List (Option Edge)). edge_at m c.args.ring) c.self.view_is
    ∙ is
    )
