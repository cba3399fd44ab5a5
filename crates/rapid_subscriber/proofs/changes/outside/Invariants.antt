use Rattle.std.proofs.Common.{◌≤◌, not, take}
use Rattle.std.specs.List.{filter}
use Rattle.rapid_model.specs.Configuration.{is_member}
use Rattle.rapid_subscriber.proofs.Outside.{AreSpelt}
use Rattle.rapid_subscriber.proofs.changes.outside.Given as goal

abbrev pub invariant-loop-member : goal.invariant-loop-member
invariant-loop-member l =
    AreSpelt (filter (λ p. not (is_member l.other p)) (take l.member-index l.configuration.members)) l.bytes.items l.count
    × (l.count ≤ l.member-index)
