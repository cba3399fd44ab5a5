use Rattle.std.proofs.Common.{All, sym, ap, subst, ◌∙◌}
use Rattle.rapid_model.specs.Configuration.{configuration_id}
use Rattle.rapid_message.specs.Bodies.{IsFrom, CanSay, body_of}
use Rattle.rapid_repeats.specs.Parts.{Judges}
use Rattle.rapid_repeats.proofs.Judging.{not_sought}
use Rattle.rapid_repeats.proofs.Judged.{spoken, nothing_else}
use Rattle.rapid_repeats.proofs.repeats.Repeats.judge.Goals as goal

pub admits_batch-requires : goal.admits_batch-requires
admits_batch-requires c =
    subst (λ p. All (IsFrom p c.in-Batch.id) c.in-Batch.batch) (sym c.sender-sender.ensures) (subst (CanSay c.args.message.now.sender) c.in-Batch.is c.body.ensures.said)

pub returns-in-Batch : goal.returns-in-Batch
returns-in-Batch c =
    let said = sym (ap body_of c.in-Batch.is) ∙ c.body.ensures.value in
    subst (λ m. Judges c.args.self.now m c.admits_batch.result c.admits_batch.new.self) (sym (spoken c.args.message.now _ _ c.sender-sender.ensures said)) c.admits_batch.ensures

pub returns-in-FastVote : goal.returns-in-FastVote
returns-in-FastVote c =
    let said = sym (ap body_of c.in-FastVote.is) ∙ c.body.ensures.value in
    subst (λ m. Judges c.args.self.now m c.admits_vote.result c.admits_vote.new.self) (sym (spoken c.args.message.now _ _ c.sender-sender.ensures said)) c.admits_vote.ensures

pub returns-in-JoinRequest : goal.returns-in-JoinRequest
returns-in-JoinRequest c =
    let said = sym (ap body_of c.in-JoinRequest.is) ∙ c.body.ensures.value in
    subst (λ m. Judges c.args.self.now m c.admits_request.result c.admits_request.new.self) (sym (spoken c.args.message.now _ _ c.shared_sender.ensures said)) c.admits_request.ensures

pub returns-in-PreJoin : goal.returns-in-PreJoin
returns-in-PreJoin c =
    let said = sym (ap body_of c.in-PreJoin.is) ∙ c.body.ensures.value in
    subst (λ m. Judges c.args.self.now m c.admits_asked.result c.admits_asked.new.self) (sym (spoken c.args.message.now _ _ c.shared_sender-in-PreJoin.ensures said)) c.admits_asked.ensures

pub returns-in_default : goal.returns-in_default
returns-in_default c =
    let arm = c.in_default in
    not_sought c.args.self.now c.args.message.now c.tell.ensures
    (λ b sought. nothing_else (configuration_id c.args.self.now.configuration) c.args.message.now c.body.result.now b c.body.ensures.value arm.not-Batch arm.not-FastVote arm.not-JoinRequest arm.not-PreJoin sought.body)
