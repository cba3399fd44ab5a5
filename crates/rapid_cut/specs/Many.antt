-- The entries of many.
use Rattle.std.specs.Prelude.{List, [], Option, Some, None, Box}
use Rattle.std.specs.Global.{Global}
use Rattle.rapid_model.specs.Process.{Process}
use Rattle.rapid_cut.specs.declared.mask.Masks.{Masks}

-- None if there are not many.
abbrev pub entries_of : Option (Box (List (Process × Masks)) Global) → List (Process × Masks)
entries_of None = []
entries_of (Some b) = b.value
