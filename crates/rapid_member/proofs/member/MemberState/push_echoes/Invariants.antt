use Rattle.std.proofs.Common.{◌≡◌, ◌++◌, map, filter}
use Rattle.std.specs.List.{range_with_len}
use Rattle.rapid_model.specs.Ring.{observers_of, observes}
use Rattle.rapid_model.specs.Member.{alert_on}
use Rattle.rapid_alerts.specs.Alerts.{alert_of}
use Rattle.rapid_member.proofs.member.MemberState.push_echoes.Given as goal

abbrev pub invariant-loop-ring : goal.invariant-loop-ring
invariant-loop-ring l =
    map alert_of l.alerts.items
    ≡ map alert_of l.fn.alerts.items ++ map (alert_on l.self l.process) (filter (λ k. observes (observers_of l.self.config) l.self.me k l.process) (range_with_len 0 l.ring))
