use Rattle.std.proofs.Common.{◌∙◌, sym, subst}
use Rattle.std.specs.List.Sorted.{IsStrictlySortedBy}
use Rattle.rapid_model.specs.Process.{process_cmp}
use Rattle.rapid_model.specs.Detector.{taken}
use Rattle.rapid_cut.specs.Growing.{HaveGrown}
use Rattle.rapid_cut.proofs.Active.{none_grown, sorted_active, grown_in_order, in_order_ascends, active_same, known_still, known_between, closure_includes, low_among, come_since}
use Rattle.rapid_cut.proofs.detector.take_batch.Goals as goal

pub take_all-requires-clause-known : goal.take_all-requires-clause-known
take_all-requires-clause-known g c =
    closure_includes (g.T.ObserverTable.observers c.args.table.now) c.args.known.now.reports.direct c.args.known.now.reports.all c.requires.detecting.rules c.requires.detecting.closure

pub settle-requires-clause-known : goal.settle-requires-clause-known
settle-requires-clause-known g c =
    let t = g.T.ObserverTable.observers c.args.table.now in
    let old = c.args.known.now.reports in
    let new = c.take_all.new.known.reports in
    known_between t old.direct old.all new.direct new.all (taken t old.direct (g.A.InTurn.alerts c.args.alerts.now)) c.requires.detecting.rules c.requires.detecting.closure
    c.in_ok-joiners.ensures.all c.in_ok-joiners.ensures.direct

pub settle-requires-clause-low : goal.settle-requires-clause-low
settle-requires-clause-low g c q =
    let t = g.T.ObserverTable.observers c.args.table.now in
    let old = c.args.known.now.reports.direct in
    let new = c.take_all.new.known.reports.direct in
    low_among t old new c.args.active.now c.deref.result.now c.requires.detecting.rules c.requires.active
    (subst (HaveGrown t old new) (sym c.deref.ensures.value) (grown_in_order t old new c.in_ok-joiners.field-0.grown.items c.ascending-grown.result.items c.ascending-grown.ensures c.in_ok-joiners.ensures.grown)) q

pub settle-requires-clause-active : goal.settle-requires-clause-active
settle-requires-clause-active g c =
    subst (IsStrictlySortedBy process_cmp) (sym c.requires.active) (sorted_active (g.T.ObserverTable.observers c.args.table.now) c.args.known.now.reports.direct)

pub settle-requires-clause-grown : goal.settle-requires-clause-grown
settle-requires-clause-grown g c =
    subst (IsStrictlySortedBy process_cmp) (sym c.deref.ensures.value) (in_order_ascends c.in_ok-joiners.field-0.grown.items c.ascending-grown.result.items c.ascending-grown.ensures)

pub settle-requires-clause-come : goal.settle-requires-clause-come
settle-requires-clause-come g c =
    let t = g.T.ObserverTable.observers c.args.table.now in
    let old = c.args.known.now.reports in
    let new = c.take_all.new.known.reports in
    come_since t old.direct old.all new.direct new.all c.deref.result.now (taken t old.direct (g.A.InTurn.alerts c.args.alerts.now)) c.requires.detecting.rules c.requires.detecting.closure c.in_ok-joiners.ensures.all
    (subst (HaveGrown t old.direct new.direct) (sym c.deref.ensures.value) (grown_in_order t old.direct new.direct c.in_ok-joiners.field-0.grown.items c.ascending-grown.result.items c.ascending-grown.ensures c.in_ok-joiners.ensures.grown))

pub settle-requires-clause-closed : goal.settle-requires-clause-closed
settle-requires-clause-closed g c none =
    let t = g.T.ObserverTable.observers c.args.table.now in
    let old = c.args.known.now.reports in
    let new = c.take_all.new.known.reports in
    known_still t old.direct old.all new.direct new.all (taken t old.direct (g.A.InTurn.alerts c.args.alerts.now)) c.requires.detecting.rules c.requires.detecting.closure
    c.in_ok-joiners.ensures.all c.in_ok-joiners.ensures.direct
    (none_grown t old.direct new.direct c.ascending-grown.result.items (sym c.deref.ensures.value ∙ none)
    (grown_in_order t old.direct new.direct c.in_ok-joiners.field-0.grown.items c.ascending-grown.result.items c.ascending-grown.ensures c.in_ok-joiners.ensures.grown))

pub settle-requires-clause-listed : goal.settle-requires-clause-listed
settle-requires-clause-listed g c none =
    let t = g.T.ObserverTable.observers c.args.table.now in
    let old = c.args.known.now.reports.direct in
    let new = c.take_all.new.known.reports.direct in
    active_same t old new c.args.active.now c.requires.detecting.rules c.requires.active
    (none_grown t old new c.ascending-grown.result.items (sym c.deref.ensures.value ∙ none)
    (grown_in_order t old new c.in_ok-joiners.field-0.grown.items c.ascending-grown.result.items c.ascending-grown.ensures c.in_ok-joiners.ensures.grown))
