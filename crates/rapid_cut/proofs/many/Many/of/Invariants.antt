use Rattle.std.proofs.Common.{◌≡◌, take}
use Rattle.rapid_model.specs.Process.{Process}
use Rattle.rapid_cut.specs.Listed.{masks_at}
use Rattle.rapid_cut.proofs.many.Many.of.Given as goal

abbrev pub invariant-loop-subject : goal.invariant-loop-subject
invariant-loop-subject l = (q : Process) → masks_at l.many q ≡ masks_at (take l.subject-index l.entries) q
