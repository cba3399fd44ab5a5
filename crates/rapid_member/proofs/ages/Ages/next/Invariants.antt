use Rattle.std.proofs.Common.{◌≡◌, ◌-◌, ◌≤◌, drop}
use Rattle.rapid_model.specs.Tick.{next_ages}
use Rattle.rapid_member.proofs.ages.Ages.next.Given as goal

abbrev pub invariant-loop-i : goal.invariant-loop-i
invariant-loop-i l = record {
  within : l.i ≤ l.count;
  grown : l.next ≡ next_ages l.self (drop (l.count - l.i) l.unstable);
}
