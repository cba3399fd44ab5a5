use Rattle.std.proofs.Common.{◌≡◌, None, take}
use Rattle.rapid_cut.specs.Listed.{masks_at}
use Rattle.rapid_cut.proofs.bare.place_in.Given as goal

abbrev pub invariant-loop-place : goal.invariant-loop-place
invariant-loop-place l = masks_at (take l.place l.entries) l.subject ≡ None
