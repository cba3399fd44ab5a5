use Rattle.std.proofs.Common.{◌≡◌, ◌∙◌, ◌+◌, ◌≤◌, ap, sym, subst, cond}
use Rattle.rapid_model.specs.Reports.{report_of}
use Rattle.rapid_alerts.specs.Alerts.{alert_of_ref}
use Rattle.rapid_cut.proofs.Fresh.{includes_when}
use Rattle.rapid_cut.proofs.Taking.{taking_more, taking_all, into_more, into_all, drop_at, drop_past}
use Rattle.rapid_cut.proofs.taken.take_all.Goals.{then-branch, else-branch}
use Rattle.rapid_cut.proofs.taken.take_all.Goals as goal

pub loop-place-preserved : goal.loop-place-preserved
loop-place-preserved g c =
    let t = g.T.ObserverTable.observers c.args.table.now in
    let counted : c.if-branch.count ≡ cond c.in_ok-take.field-0 (c.loop-place.count + 1) c.loop-place.count =
    elim c.if-branch.branch [
      | then-branch w ↦ w.count-is ∙ sym (ap (λ b. cond b (c.loop-place.count + 1) c.loop-place.count) w.if-branch.true)
      | else-branch w ↦ w.count-is ∙ sym (ap (λ b. cond b (c.loop-place.count + 1) c.loop-place.count) w.if-branch.false)
    ] in
    let at = drop_at (g.A.InTurn.alerts c.args.alerts.now) c.loop-place.place (alert_of_ref c.at-turn.result.alert) c.at-turn.ensures.alert in
    record {
      known =
          includes_when c.in_ok-take.field-0 c.loop-place.known.reports.all c.loop-place.known.reports.direct c.take.new.known.reports.all c.take.new.known.reports.direct (report_of (alert_of_ref c.at-turn.result.alert))
          c.in_ok-take.ensures.all c.in_ok-take.ensures.direct c.loop-place.invariant.known;
      grown = c.in_ok-take.ensures.grown c.args.known.now.reports.direct c.loop-place.invariant.grown;
      before = c.take.ensures.before ∙ c.loop-place.invariant.before;
      taking =
          taking_more t c.args.known.now.reports.direct (g.A.InTurn.alerts c.args.alerts.now) c.loop-place.place c.loop-place.known.reports.direct c.take.new.known.reports.direct
          c.loop-place.joiners c.take.new.joiners c.loop-place.count c.if-branch.count (alert_of_ref c.at-turn.result.alert) c.in_ok-take.field-0
          at c.in_ok-take.ensures.taken c.in_ok-take.ensures.direct c.in_ok-take.ensures.joiners counted c.loop-place.invariant.taking;
      into =
          into_more t c.args.known.now.reports.direct (g.A.InTurn.alerts c.args.alerts.now) c.loop-place.place c.loop-place.known.reports.direct c.take.new.known.reports.direct c.args.known.now.reports.all c.loop-place.known.reports.all c.take.new.known.reports.all
          (alert_of_ref c.at-turn.result.alert) c.in_ok-take.field-0 at c.in_ok-take.ensures.taken c.in_ok-take.ensures.direct c.in_ok-take.ensures.all c.loop-place.invariant.into;
    }

pub returns-clause-direct : goal.returns-clause-direct
returns-clause-direct g c =
    (taking_all (g.T.ObserverTable.observers c.args.table.now) c.args.known.now.reports.direct (g.A.InTurn.alerts c.args.alerts.now) c.loop-place.place c.loop-place.known.reports.direct c.loop-place.joiners c.loop-place.count
    (drop_past (g.A.InTurn.alerts c.args.alerts.now) c.loop-place.place (subst (λ n. n ≤ c.loop-place.place) c.count-place-end.ensures c.loop-place-test.false)) c.loop-place.invariant.taking).0

pub returns-clause-all : goal.returns-clause-all
returns-clause-all g c =
    into_all (g.T.ObserverTable.observers c.args.table.now) c.args.known.now.reports.direct (g.A.InTurn.alerts c.args.alerts.now) c.loop-place.place c.loop-place.known.reports.direct c.args.known.now.reports.all c.loop-place.known.reports.all
    (drop_past (g.A.InTurn.alerts c.args.alerts.now) c.loop-place.place (subst (λ n. n ≤ c.loop-place.place) c.count-place-end.ensures c.loop-place-test.false)) c.loop-place.invariant.into
