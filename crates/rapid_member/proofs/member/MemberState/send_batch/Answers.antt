use Rattle.std.proofs.Common.{sym, ◌∙◌, rules}
use Rattle.rapid_member.proofs.Flushing.{sends_some}
use Rattle.rapid_member.proofs.member.MemberState.send_batch.Goals as goal

pub returns-clause-state : goal.returns-clause-state
returns-clause-state c = rw (sends_some c.args.self.now c.in-Some.batch (sym c.in-Some.is ∙ c.in_ok-batch.ensures.batch)) (search rules)

pub returns-clause-out : goal.returns-clause-out
returns-clause-out c = rw (sends_some c.args.self.now c.in-Some.batch (sym c.in-Some.is ∙ c.in_ok-batch.ensures.batch)) (search rules)

pub returns-clause-decided : goal.returns-clause-decided
returns-clause-decided c = rw (sends_some c.args.self.now c.in-Some.batch (sym c.in-Some.is ∙ c.in_ok-batch.ensures.batch)) (search rules)
