-- Lists in order.
use Rattle.std.specs.Prelude.{List, [], ◌∷◌}
use Rattle.std.specs.declared.cmp.Ordering.{Ordering}
use Rattle.std.specs.BTreeSet.{insert_key}

-- The values of a list in the order R, each once.
abbrev pub in_order : {K : Type 0} → (K → K → Ordering) → List K → List K
in_order R [] = []
in_order R (x ∷ xs) = insert_key R (in_order R xs) x
