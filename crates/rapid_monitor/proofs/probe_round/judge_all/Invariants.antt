use Rattle.std.proofs.Common.{◌≡◌}
use Rattle.rapid_monitor.proofs.Rounds.{judged_to, told_to}
use Rattle.rapid_monitor.proofs.probe_round.judge_all.Given as goal

abbrev pub invariant-loop-i : goal.invariant-loop-i
invariant-loop-i g l =
    record {
      seats : l.seats ≡ judged_to l.i l.initial.seats l.probings;
      told : g.S.EdgeSink.state l.sink ≡ told_to g.S.EdgeSink.probed g.S.EdgeSink.went_down l.i (g.S.EdgeSink.state l.initial.sink) l.initial.seats l.probings;
    }
