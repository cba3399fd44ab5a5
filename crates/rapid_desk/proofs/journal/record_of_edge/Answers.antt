use Rattle.std.proofs.Common.{◌∙◌, sym}
use Rattle.rapid_model.specs.Node.{configuration_of}
use Rattle.rapid_node.specs.Steps.{event_of}
use Rattle.rapid_desk.proofs.Placing.{edge_is}
use Rattle.rapid_desk.proofs.journal.record_of_edge.Goals as goal

pub returns-in-Some-clause-value : goal.returns-in-Some-clause-value
returns-in-Some-clause-value c =
    edge_is (configuration_of c.args.entry.now) (event_of c.args.event) c.in-Some.which c.in-Some.place c.in-Some.ring (sym c.edge_in.ensures ∙ c.in-Some.is)
