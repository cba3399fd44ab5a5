use Rattle.std.proofs.Common.{ap, ap₂, sym, ◌∙◌, false, []}
use Rattle.rapid_model.specs.Configuration as configurations
use Rattle.rapid_model.specs.Ring as rings
use Rattle.rapid_monitor.specs.Probes.{book_when, part_of}
use Rattle.rapid_rounds.proofs.observed_edges.ObservedEdges.part.Goals as goal

pub returns-in-Some-clause-part : goal.returns-in-Some-clause-part
unfolding configurations.configuration_id rings.observers_of
returns-in-Some-clause-part c =
    ap₂ (λ id book. (id, book)) (c.in-Some.ensures.part.0 ∙ c.id.ensures)
    (c.in-Some.ensures.part.1 ∙ c.in_ok-book.ensures ∙ ap (λ edges. book_when (part_of c.args.part c.args.parts edges) false []) (sym c.args.self.now.observed))
