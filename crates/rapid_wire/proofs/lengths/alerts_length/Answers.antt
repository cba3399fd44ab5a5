use Rattle.std.proofs.Common.{arith}
use Rattle.rapid_alerts.specs.Alerts.{alert_of_ref, alerts_in}
use Rattle.rapid_wire.proofs.Joined.{length_said}
use Rattle.rapid_wire.proofs.lengths.alerts_length.Goals as goal

pub loop-at-preserved : goal.loop-at-preserved
loop-at-preserved c =
    let more = length_said (alerts_in c.args.alerts.now) c.loop-at.at (alert_of_ref c.alert_ref.result) c.loop-at.bytes c.alert_ref.ensures c.loop-at.invariant.0 in
    (omega (arith, c.length.ensures.value, more), omega (arith, c.length.ensures.most, c.loop-at.invariant.1))
