use Rattle.std.proofs.Common.{ℕ, List, ap}
use Rattle.std.specs.FinMap as finmap
use Rattle.rapid_model.specs.Process.{bytes_cmp}
use Rattle.rapid_world.proofs.Next.{none_there}
use Rattle.rapid_world.proofs.places.PlacesById.new.Goals as goal

pub invariant_of-result : goal.invariant_of-result
invariant_of-result c = none_there _ _ (ap (λ (es : List (List ℕ × ℕ)). finmap.from_entries {R = bytes_cmp} es) c.new.ensures.empty)
