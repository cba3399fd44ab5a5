use Rattle.std.proofs.Common.{◌≡◌, ◌==◌, take, map, filter, flat_map}
use Rattle.rapid_model.specs.Tick.{age_of, echoes}
use Rattle.rapid_alerts.specs.Alerts.{alert_of}
use Rattle.rapid_member.proofs.member.MemberState.echoes.Given as goal

abbrev pub invariant-loop-process : goal.invariant-loop-process
invariant-loop-process l = map alert_of l.alerts.items ≡ flat_map (echoes l.self) (filter (λ p. age_of l.self.ages p == 40) (take l.process-index l.unstable))
