use Rattle.std.proofs.lemmas.Result.{IfOk-weaker}
use Rattle.rapid_member.proofs.Hosts.{confirms_give}
use Rattle.rapid_member.proofs.member.MemberState.confirms.Goals as goal

pub returns-clause-given : goal.returns-clause-given
returns-clause-given c = IfOk-weaker c.confirms.result _ _ (λ answers e. confirms_give c.args.next.now _ _ e) c.confirms.ensures.answers
