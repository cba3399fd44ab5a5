use Rattle.std.proofs.Common.{◌≡◌, ap, sym, subst, ◌∙◌}
use Rattle.std.specs.Prelude.{IfOk, IfErr, IfSome}
use Rattle.rapid_model.specs.Outbox.{Outbox, Raising}
use Rattle.rapid_alerts.specs.Alerts.{alert_of, alerts_in}
use Rattle.rapid_model.specs.Process.{Process}
use Rattle.rapid_alerts.specs.Outboxes.{Index, index_of, verdict}
use Rattle.rapid_alerts.specs.Marks.{IsOn, answer_on}
use Rattle.rapid_alerts.specs.Refusals.{Refuses}
use Rattle.rapid_alerts.proofs.Raisings.{raising_is, raising_along, outbox_along}
use Rattle.rapid_alerts.proofs.outbox.Outbox.judge.Goals as goal

pub returns-clause-answer : goal.returns-clause-answer
returns-clause-answer g c =
    let observers = g.T.ObserverTable.observers in
    let a = alert_of c.args.alert.now in
    let o : Outbox = record { raised = alerts_in c.self.inside.raised; flushed = c.self.inside.flushed } in
    let is = ap (λ (p : Process). verdict (observers c.self.inside.table) p c.self.inside.index a) c.observer.ensures ∙ sym (raising_is (observers c.self.inside.table) c.self.inside.raised.observer o c.self.inside.index a c.self.invariant.0) ∙ raising_along observers a c.self.view_is in
    subst (λ (x : Raising). IfOk c.verdict_of.result (λ found. x ≡ answer_on found)) is c.verdict_of.ensures.answer

pub returns-clause-marks : goal.returns-clause-marks
returns-clause-marks g c =
    subst (λ (i : Index). IfOk c.verdict_of.result (λ found. IfSome found (IsOn i c.args.alert.now.subject)))
    (c.self.invariant.0.index ∙ ap (λ (x : Outbox). index_of x.raised) (outbox_along c.self.view_is)) c.verdict_of.ensures.marks

pub returns-clause-refused : goal.returns-clause-refused
returns-clause-refused g c =
    let observers = g.T.ObserverTable.observers in
    let a = alert_of c.args.alert.now in
    let o : Outbox = record { raised = alerts_in c.self.inside.raised; flushed = c.self.inside.flushed } in
    let is = ap (λ (p : Process). verdict (observers c.self.inside.table) p c.self.inside.index a) c.observer.ensures ∙ sym (raising_is (observers c.self.inside.table) c.self.inside.raised.observer o c.self.inside.index a c.self.invariant.0) ∙ raising_along observers a c.self.view_is in
    subst (λ (x : Raising). IfErr c.verdict_of.result (Refuses x)) is c.verdict_of.ensures.refused
