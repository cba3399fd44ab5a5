use Rattle.std.proofs.Common.{ap, sym, ◌∙◌}
use Rattle.std.specs.FinSet as set
use Rattle.rapid_fast.proofs.Deciding.{decision-known, after_vote-known, decided_now, heard_now, round_kept}
use Rattle.rapid_fast.proofs.round.FastRound.count_vote.Goals as goal

pub returns-then-contains-clause-decided : goal.returns-then-contains-clause-decided
returns-then-contains-clause-decided c =
    decision-known c.args.self.now.round c.args.position c.args.cut.now
    (ap (λ r. set.contains r.round.heard c.args.position) (sym c.self.view_is) ∙ sym c.contains.ensures.value ∙ c.if-contains.true)

pub returns-then-contains-clause-heard : goal.returns-then-contains-clause-heard
returns-then-contains-clause-heard c =
    after_vote-known c.args.self.now c.args.position c.args.cut.now
    (ap (λ r. set.contains r.round.heard c.args.position) (sym c.self.view_is) ∙ sym c.contains.ensures.value ∙ c.if-contains.true)

pub invariant_of-self-2 : goal.invariant_of-self-2
invariant_of-self-2 c =
    round_kept c.args.self.now c.self.inside.size c.self.inside.position c.self.inside.heard c.self.inside.counts c.self.view_is c.args.position c.args.cut.now (sym c.contains.ensures.value ∙ c.if-contains.false)
    c.insert.new.self c.add.new.self c.insert.ensures c.in_ok-decided.ensures.ok c.self.invariant

pub returns-clause-decided : goal.returns-clause-decided
returns-clause-decided c =
    decided_now c.args.self.now c.self.inside.size c.self.inside.position c.self.inside.heard c.self.inside.counts c.self.view_is c.args.position c.args.cut.now (sym c.contains.ensures.value ∙ c.if-contains.false)
    c.fast_size.result c.in_ok-decided.decided c.fast_size.ensures c.in_ok-decided.ensures.reached

pub returns-clause-heard : goal.returns-clause-heard
returns-clause-heard c =
    heard_now c.args.self.now c.self.inside.size c.self.inside.position c.self.inside.heard c.self.inside.counts c.self.view_is c.args.position c.args.cut.now (sym c.contains.ensures.value ∙ c.if-contains.false)
    c.insert.new.self c.add.new.self c.insert.ensures c.in_ok-decided.ensures.ok
