-- The founder of a cluster.
use Rattle.std.proofs.Common.{◌≡◌, ◌∷◌, [], refl, None}
use Rattle.rapid_model.specs.Process.{Process}
use Rattle.rapid_model.specs.Reading.{members_fault}

-- Anybody can found a cluster alone.
pub one_founder : (p : Process) → members_fault (p ∷ []) ≡ None
one_founder p = refl
