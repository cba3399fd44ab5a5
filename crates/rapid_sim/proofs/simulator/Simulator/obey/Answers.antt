use Rattle.std.proofs.Common.{ap}
use Rattle.std.proofs.lemmas.Result.{on_ok_weaker}
use Rattle.rapid_model.specs.SimLine as line
use Rattle.rapid_world.specs.Events.{event_of}
use Rattle.rapid_sim.specs.Commands.{command_of}
use Rattle.rapid_sim.proofs.Progress.{answered_as}
use Rattle.rapid_sim.proofs.simulator.Simulator.obey.Goals as goal

pub returns-in-Events : goal.returns-in-Events
returns-in-Events c = on_ok_weaker c.repeat.result (λ d. answered_as _ _ (command_of c.args.command.now) (line.Events (event_of c.in-Events.event) c.in-Events.count) _ _ _ _ (ap command_of c.in-Events.is) d) c.repeat.ensures

pub returns-in-Lose : goal.returns-in-Lose
returns-in-Lose c = on_ok_weaker c.lose.result (λ d. answered_as _ _ (command_of c.args.command.now) (line.Lose c.in-Lose.id) _ _ _ _ (ap command_of c.in-Lose.is) d) c.lose.ensures

pub returns-in-Deliver : goal.returns-in-Deliver
returns-in-Deliver c = on_ok_weaker c.deliver.result (λ d. answered_as _ _ (command_of c.args.command.now) (line.Deliver c.in-Deliver.packet) _ _ _ _ (ap command_of c.in-Deliver.is) d) c.deliver.ensures

pub returns-in-Flow : goal.returns-in-Flow
returns-in-Flow c = on_ok_weaker c.flow.result (λ d. answered_as _ _ (command_of c.args.command.now) (line.Flow) _ _ _ _ (ap command_of c.in-Flow.is) d) c.flow.ensures
