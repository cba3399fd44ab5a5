use Rattle.std.proofs.Common.{◌∙◌, ap, not, arith}
use Rattle.std.specs.List.{find, range_with_len}
use Rattle.std.specs.FinSet as set
use Rattle.rapid_sim.proofs.Settling.{least_found, none_found}
use Rattle.rapid_sim.proofs.settled.Settled.least.Goals as goal

pub returns-then-self-sent-clause-least : goal.returns-then-self-sent-clause-least
returns-then-self-sent-clause-least c =
    least_found c.self.inside.all_to c.args.sent c.self.inside.above (omega arith) (omega arith) c.self.invariant
    ∙ ap (λ s. find (λ k. not (set.contains s k)) (range_with_len 1 c.args.sent)) c.self.view_is

pub returns-else-self-sent-clause-least : goal.returns-else-self-sent-clause-least
returns-else-self-sent-clause-least c =
    none_found c.self.inside.all_to c.args.sent c.self.inside.above (omega arith)
    ∙ ap (λ s. find (λ k. not (set.contains s k)) (range_with_len 1 c.args.sent)) c.self.view_is
