use Rattle.std.proofs.Common.{◌∙◌, ap, arith, sym}
use Rattle.rapid_monitor.specs.Boards.{Owned}
use Rattle.rapid_monitor.specs.Probes.{judged, goes_down}
use Rattle.rapid_monitor.proofs.Rounds.{judged_next, judged_all, told_next, told_all}
use Rattle.rapid_monitor.proofs.probe_round.judge_all.Goals as goal

pub loop-i-preserved : goal.loop-i-preserved
loop-i-preserved g c =
    let i = c.loop-i.invariant in
    record {
      seats =
          judged_next c.loop-i.i c.args.seats.now c.loop-i.seats c.args.probings.now c.index-seats-i.result c.judge-goes_down.new.seat c.index-probings-i.result c.requires c.loop-i-test.true
          i.seats c.index-seats-i.is c.index-probings-i.is (c.judge-goes_down.ensures.seat ∙ ap (λ (s : Owned). judged s c.index-probings-i.result.answered) (sym c.index-seats-i.is));
      told =
          told_next g.S.EdgeSink.probed g.S.EdgeSink.went_down c.loop-i.i (g.S.EdgeSink.state c.args.sink.now) (g.S.EdgeSink.state c.loop-i.sink) (g.S.EdgeSink.state c.tell.new.sink)
          c.args.seats.now c.loop-i.seats c.args.probings.now c.index-seats-i.result c.index-probings-i.result c.judge-goes_down.result c.requires c.loop-i-test.true
          i.seats c.index-seats-i.is c.index-probings-i.is (c.judge-goes_down.ensures.down ∙ ap (λ (s : Owned). goes_down s c.index-probings-i.result.answered) (sym c.index-seats-i.is))
          i.told c.tell.ensures;
    }

pub returns-clause-seats : goal.returns-clause-seats
returns-clause-seats g c =
    judged_all c.loop-i.i c.args.seats.now c.loop-i.seats c.args.probings.now c.requires (omega (arith, c.loop-i-test.false, c.loop-i.auto.i-end)) c.loop-i.invariant.seats

pub returns-clause-told : goal.returns-clause-told
returns-clause-told g c =
    told_all g.S.EdgeSink.probed g.S.EdgeSink.went_down c.loop-i.i (g.S.EdgeSink.state c.args.sink.now) (g.S.EdgeSink.state c.loop-i.sink) c.args.seats.now c.args.probings.now
    c.requires (omega (arith, c.loop-i-test.false, c.loop-i.auto.i-end)) c.loop-i.invariant.told
