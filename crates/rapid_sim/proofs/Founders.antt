-- Founders, read word by word.
use Rattle.std.proofs.Common.{◌≡◌, List, [], ◌∷◌, ◌++◌, append_assoc, refl, ap, sym, Option, Some, None}
use Rattle.rapid_model.specs.Process.{Process}
use Rattle.rapid_model.specs.SimLine.{with_named}

-- Those that were read, and the others, if all could be read.
abbrev pub before_all : List Process → Option (List Process) → Option (List Process)
before_all ps None = None
before_all ps (Some qs) = Some (ps ++ qs)

pub joins : (ps : List Process) (p : Process) (later : Option (List Process)) → before_all ps (with_named (Some p) later) ≡ before_all (ps ++ p ∷ []) later
joins ps p None = refl
joins ps p (Some qs) = ap Some (sym (append_assoc ps (p ∷ []) qs))

none_joins : (ps : List Process) (later : Option (List Process)) → before_all ps (with_named None later) ≡ None
none_joins ps None = refl
none_joins ps (Some qs) = refl

nothing_before : (later : Option (List Process)) → later ≡ before_all [] later
nothing_before None = refl
nothing_before (Some qs) = refl
