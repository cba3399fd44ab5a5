-- Processes put in their places among those that ascend.
use Rattle.std.specs.Prelude.{◌≡◌, List, [], ◌∷◌, ◌++◌}
use Rattle.std.specs.BTreeSet.{insert_key}
use Rattle.rapid_model.specs.Process.{Process, process_cmp}

-- Those of the rest that are below p were added to the found, then p; above it is what is left.
abbrev pub PutsBelow : List Process → List Process → Process → List Process → List Process → Type 0
PutsBelow found rest p more above = (below : List Process) × (more ≡ found ++ (below ++ p ∷ [])) × (below ++ p ∷ above ≡ insert_key process_cmp rest p)
