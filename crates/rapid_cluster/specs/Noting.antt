-- Stamps that were seen, and those of them that are kept.
use Rattle.std.specs.Prelude.{◌≡◌, Bool, false, List}
use Rattle.std.specs.List.{list_any}
use Rattle.rapid_model.specs.Configuration.{Stamp}
use Rattle.rapid_cluster.specs.ClusterText.{differ, is_split}

-- What is kept of the stamps that were seen: whether two of them differ, and until then enough of them to decide it for
-- each further one.
pub record Notes (seen kept : List Stamp) (split : Bool) : Type 0 where
  pub told : split ≡ is_split seen
  pub tells : split ≡ false → (s : Stamp) → list_any (differ s) seen ≡ list_any (differ s) kept
