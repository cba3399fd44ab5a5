use Rattle.std.proofs.Common.{◌≡◌, ◌∙◌, refl, sym, subst, true, Some}
use Rattle.rapid_model.specs.Reports.{reaches_low}
use Rattle.rapid_cut.specs.Closing.{AddsImplied}
use Rattle.rapid_cut.proofs.Passing.{passing_low, passing_one, passing_all, drop_next, drop_end}
use Rattle.rapid_cut.proofs.closure.close.Goals as goal

pub loop-subject-init : goal.loop-subject-init
loop-subject-init g c =
    record {
      direct = refl;
      passing = c.requires.passing;
      before = refl;
    }

pub add_implied-requires : goal.add_implied-requires
add_implied-requires g c =
    let t = g.T.ObserverTable.observers c.args.table.now in
    record {
      low =
          subst (λ d. reaches_low t d (Some c.subject-item.result) ≡ true) (sym c.loop-subject.invariant.direct)
          (passing_low t c.args.known.now.reports.direct c.loop-subject.known.reports.all _ _ c.subject-item.result
          (drop_next c.args.subjects.now c.loop-subject.subject-index c.subject-item.result c.loop-subject-test.true c.subject-item.is) c.loop-subject.invariant.passing);
    }

pub loop-subject-preserved : goal.loop-subject-preserved
loop-subject-preserved g c =
    let t = g.T.ObserverTable.observers c.args.table.now in
    record {
      direct = c.in_ok-add_implied.ensures.direct ∙ c.loop-subject.invariant.direct;
      passing =
          passing_one t c.args.known.now.reports.direct c.loop-subject.known.reports.all c.add_implied.new.known.reports.all _ _ c.subject-item.result
          (drop_next c.args.subjects.now c.loop-subject.subject-index c.subject-item.result c.loop-subject-test.true c.subject-item.is)
          (subst (λ d. AddsImplied t d c.subject-item.result c.loop-subject.known.reports.all c.add_implied.new.known.reports.all) c.loop-subject.invariant.direct c.in_ok-add_implied.ensures.added)
          c.loop-subject.invariant.passing;
      before = c.add_implied.ensures.before ∙ c.loop-subject.invariant.before;
    }

pub returns-clause-all : goal.returns-clause-all
returns-clause-all g c =
    passing_all (g.T.ObserverTable.observers c.args.table.now) c.args.known.now.reports.direct c.loop-subject.known.reports.all _ c.requires.rules (drop_end c.args.subjects.now c.loop-subject.subject-index c.loop-subject-test.false) c.loop-subject.invariant.passing
