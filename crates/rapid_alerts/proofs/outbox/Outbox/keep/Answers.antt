use Rattle.std.proofs.Common.{[], ◌∷◌, ◌++◌, List, ap, sym, subst, ◌∙◌}
use Rattle.std.proofs.lemmas.Option.{slice_get_within}
use Rattle.rapid_model.specs.Alert.{Alert}
use Rattle.rapid_model.specs.Outbox.{Outbox}
use Rattle.rapid_alerts.specs.Alerts.{ListedAlerts, alert_of, alerts_in}
use Rattle.rapid_model.specs.Process.{Process}
use Rattle.rapid_alerts.specs.Outboxes.{Index, IsOutbox, index_of}
use Rattle.rapid_alerts.specs.Marks.{IsOn}
use Rattle.rapid_alerts.proofs.Listing.{last_at, subject_is}
use Rattle.rapid_alerts.proofs.Raisings.{raised_parts, raised_ring, raised_last, kept_seen, raising_along, outbox_along}
use Rattle.rapid_alerts.proofs.outbox.Outbox.keep.Goals as goal

pub subject-subject-requires : goal.subject-subject-requires
subject-subject-requires g c =
    let observers = g.T.ObserverTable.observers in
    let a = alert_of c.args.alert.now in
    let old = c.self.inside.raised in
    let new = c.push_near.new.self in
    let last = raised_last (observers c.self.inside.table) old new c.self.inside.flushed c.self.inside.index a c.self.invariant.0 c.self.invariant.1 (raising_along observers a c.self.view_is ∙ c.requires.raised) c.in_ok-place.ensures.pushed in
    slice_get_within (alerts_in new) c.len-at.result a (last_at (alerts_in old) (alerts_in new) a c.len-at.result last c.len-at.ensures.alerts)

pub add-requires-clause-ring : goal.add-requires-clause-ring
add-requires-clause-ring g c =
    let observers = g.T.ObserverTable.observers in
    let a = alert_of c.args.alert.now in
    let o : Outbox = record { raised = alerts_in c.self.inside.raised; flushed = c.self.inside.flushed } in
    raised_ring (observers c.self.inside.table) c.self.inside.raised.observer o c.self.inside.index a c.self.invariant.0 (raising_along observers a c.self.view_is ∙ c.requires.raised) c.params.ensures.rules.params.few

pub add-requires-clause-marks : goal.add-requires-clause-marks
add-requires-clause-marks g c =
    subst (λ (i : Index). IsOn i c.args.alert.now.subject c.args.marks)
    (sym (c.self.invariant.0.index ∙ ap (λ (x : Outbox). index_of x.raised) (outbox_along c.self.view_is))) c.requires.marks

pub add-requires-clause-room : goal.add-requires-clause-room
add-requires-clause-room g c =
    let observers = g.T.ObserverTable.observers in
    let a = alert_of c.args.alert.now in
    let o : Outbox = record { raised = alerts_in c.self.inside.raised; flushed = c.self.inside.flushed } in
    (raised_parts (observers c.self.inside.table) c.self.inside.raised.observer o c.self.inside.index a c.self.invariant.0 (raising_along observers a c.self.view_is ∙ c.requires.raised)).2

pub add-requires-clause-subject : goal.add-requires-clause-subject
add-requires-clause-subject g c =
    let observers = g.T.ObserverTable.observers in
    let a = alert_of c.args.alert.now in
    let old = c.self.inside.raised in
    let new = c.push_near.new.self in
    let last = raised_last (observers c.self.inside.table) old new c.self.inside.flushed c.self.inside.index a c.self.invariant.0 c.self.invariant.1 (raising_along observers a c.self.view_is ∙ c.requires.raised) c.in_ok-place.ensures.pushed in
    subject_is (alerts_in new) c.len-at.result a c.subject-subject.result.now c.subject-subject.ensures
    (last_at (alerts_in old) (alerts_in new) a c.len-at.result last c.len-at.ensures.alerts)

pub invariant_of-self-in-Ok : goal.invariant_of-self-in-Ok
invariant_of-self-in-Ok g c =
    let observers = g.T.ObserverTable.observers in
    let t = observers c.self.inside.table in
    let a = alert_of c.args.alert.now in
    let o : Outbox = record { raised = alerts_in c.self.inside.raised; flushed = c.self.inside.flushed } in
    let raised = raising_along observers a c.self.view_is ∙ c.requires.raised in
    let pushed = c.in_ok-place.ensures.pushed in
    let xs = alerts_in c.push_near.new.self in (
      subst (λ (p : Process). IsOutbox t p (record { raised = xs; flushed = c.self.inside.flushed }) c.add.new.self) (sym (ap (λ (l : ListedAlerts). l.observer) pushed))
          (kept_seen t c.self.inside.raised.observer o c.self.inside.index c.add.new.self a xs c.self.invariant.0 raised
          (raised_last t c.self.inside.raised c.push_near.new.self c.self.inside.flushed c.self.inside.index a c.self.invariant.0 c.self.invariant.1 raised pushed)
          c.in-Ok.ensures.added),
      ap (λ (l : ListedAlerts). l.config) pushed ∙ c.self.invariant.1,
    )

pub returns-in-Ok-clause-kept : goal.returns-in-Ok-clause-kept
returns-in-Ok-clause-kept g c =
    let observers = g.T.ObserverTable.observers in
    let a = alert_of c.args.alert.now in
    let old = c.self.inside.raised in
    let raised = raising_along observers a c.self.view_is ∙ c.requires.raised in
    ap (λ (xs : List Alert). let p : Outbox = record { raised = xs; flushed = c.self.inside.flushed } in p)
    (raised_last (observers c.self.inside.table) old c.push_near.new.self c.self.inside.flushed c.self.inside.index a c.self.invariant.0 c.self.invariant.1 raised c.in_ok-place.ensures.pushed)
    ∙ ap (λ (x : Outbox). let p : Outbox = record { raised = x.raised ++ a ∷ []; flushed = x.flushed } in p) (outbox_along c.self.view_is)
