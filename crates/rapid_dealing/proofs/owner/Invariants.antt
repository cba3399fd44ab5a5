use Rattle.std.proofs.Common.{◌≡◌, true, take}
use Rattle.rapid_model.specs.Process.{is_in}
use Rattle.rapid_dealing.specs.Owners.{heaviest}
use Rattle.rapid_dealing.proofs.owner.Given as goal

abbrev pub invariant-loop-member : goal.invariant-loop-member
invariant-loop-member l =
    (l.owner ≡ heaviest l.key l.initial.owner (take l.member-index l.members))
    × (is_in l.members l.owner ≡ true)
