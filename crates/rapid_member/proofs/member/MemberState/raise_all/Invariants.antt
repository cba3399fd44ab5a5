use Rattle.std.proofs.Common.{◌≡◌, drop, map}
use Rattle.rapid_model.specs.Tick.{raise_all}
use Rattle.rapid_alerts.specs.Alerts.{alert_of}
use Rattle.rapid_member.specs.Members.{IsSameMember}
use Rattle.rapid_member.proofs.member.MemberState.raise_all.Given as goal

abbrev pub invariant-loop-alert : goal.invariant-loop-alert
invariant-loop-alert l = record {
  raised : raise_all l.self (map alert_of (drop l.alert-index l.alerts)) ≡ raise_all l.fn.self (map alert_of l.alerts);
  same : IsSameMember l.fn.self l.self;
}
