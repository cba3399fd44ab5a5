use Rattle.std.proofs.Common.{◌≡◌, None, ap, sym, subst, ◌∙◌}
use Rattle.rapid_model.proofs.Orders.{same_bytes_decides}
use Rattle.rapid_model.specs.Configuration.{configuration_id}
use Rattle.rapid_model.specs.FastRound.{FastRound, fast_decision}
use Rattle.rapid_model.specs.Node.{MemberState}
use Rattle.rapid_message.specs.Bodies.{body_of}
use Rattle.rapid_member.specs.declared.member.parts.Votes.{Votes}
use Rattle.rapid_member.proofs.Quiet.{message_says_nothing}
use Rattle.rapid_member.proofs.member.MemberState.is_quiet_at.Goals as goal

pub returns-then-eq : goal.returns-then-eq
returns-then-eq c = λ two ds.
    let own = (same_bytes_decides c.in-FastVote.id c.id.result).0 (sym c.eq.ensures ∙ c.if-eq.true) ∙ c.id.ensures ∙ ap configuration_id c.configuration.ensures in
    let round : c.deref.result.now.round.round ≡ c.args.self.now.fast = ap (λ (x : Votes). x.round.round) c.deref.ensures ∙ ap (λ (s : MemberState). s.fast) c.self.view_is in
    message_says_nothing c.args.self.now c.args.message.now.sender c.args.message.now.body c.in-FastVote.id c.in-FastVote.field-1 (sym c.body.ensures.value ∙ ap body_of c.in-FastVote.is) own
    (λ p v. subst (λ (f : FastRound). fast_decision f p v ≡ None) round (c.needs_two_votes.ensures two p v)) ds
