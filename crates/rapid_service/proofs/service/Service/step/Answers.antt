use Rattle.std.proofs.Common.{refl, inl, inr, ap, ◌∙◌}
use Rattle.std.proofs.lemmas.Result.{IfErr-weaker}
use Rattle.rapid_service.specs.Stepping.{Fails}
use Rattle.rapid_signals.specs.declared.fault.RunningFault.TheVariants.{OutOfMemory}
use Rattle.rapid_node.specs.Steps.{event_of}
use Rattle.rapid_text.proofs.Streams.{handed_on}
use Rattle.rapid_service.proofs.Handing.{on_ok, stepped}
use Rattle.rapid_service.proofs.service.Service.step.Goals as goal

-- What is sent, and a view that is entered, leave what the step made of the desk.
pub returns-clause-step : goal.returns-clause-step
returns-clause-step g c =
    on_ok c.follow.result (stepped c.args.self.now.desk c.at_desk.new.self.desk _ _ _ (c.follow.ensures.desk.0 ∙ ap (λ d. d.state) c.send_all.ensures.desk) (c.follow.ensures.desk.1 ∙ ap (λ d. d.subscriptions) c.send_all.ensures.desk) c.in_ok-sent.ensures.stepped c.in_ok-sent.ensures.told)

-- So they do if memory runs out for them.
pub returns-clause-fault : goal.returns-clause-fault
returns-clause-fault g c =
    IfErr-weaker c.follow.result _ _ (λ _ memory. inr (memory, stepped c.args.self.now.desk c.at_desk.new.self.desk _ _ _ (c.follow.ensures.desk.0 ∙ ap (λ d. d.state) c.send_all.ensures.desk) (c.follow.ensures.desk.1 ∙ ap (λ d. d.subscriptions) c.send_all.ensures.desk) c.in_ok-sent.ensures.stepped c.in_ok-sent.ensures.told)) c.follow.ensures.fault

pub returns-in_err-sent-clause-fault : goal.returns-in_err-sent-clause-fault
returns-in_err-sent-clause-fault g c =
    handed_on (Fails c.args.self.now.desk (event_of c.args.event) c.at_desk.new.self.desk) c.in_err-sent.field-0.0 c.from_residual.result c.from_residual.ensures.1 (inl (c.in_err-sent.ensures.refused, c.in_err-sent.ensures.closed))

pub returns-in_err-send_all-clause-fault : goal.returns-in_err-send_all-clause-fault
returns-in_err-send_all-clause-fault g c =
    handed_on (Fails c.args.self.now.desk (event_of c.args.event) c.send_all.new.self.desk) OutOfMemory c.from_residual-in_err-send_all.result c.from_residual-in_err-send_all.ensures.1
    (inr (refl, stepped c.args.self.now.desk c.at_desk.new.self.desk _ _ _ (ap (λ d. d.state) c.send_all.ensures.desk) (ap (λ d. d.subscriptions) c.send_all.ensures.desk) c.in_ok-sent.ensures.stepped c.in_ok-sent.ensures.told))
