-- Clauses of public calls cite this file.
-- The six words of a stamp give it back.
use Rattle.std.specs.Prelude.{◌≡◌, ℕ, List, ◌++◌, slice_index}
use Rattle.std.specs.Int.{w64, to_be_bytes}
use Rattle.rapid_model.specs.Configuration.{Stamp}
use Rattle.rapid_model.specs.PublishedList.{stamp_words}

-- The 32 bytes of an identifier that stands in four words.
abbrev pub id_of : ℕ → ℕ → ℕ → ℕ → List ℕ
id_of a b c d = to_be_bytes w64 a ++ (to_be_bytes w64 b ++ (to_be_bytes w64 c ++ to_be_bytes w64 d))

-- The stamp with these six words.
abbrev pub stamp_of : List ℕ → Stamp
stamp_of words = record {
  height = slice_index words 0;
  id = id_of (slice_index words 1) (slice_index words 2) (slice_index words 3) (slice_index words 4);
  members = slice_index words 5;
}

-- The stamp is that of its words.
abbrev pub IsWhole : Stamp → Type 0
IsWhole s = s ≡ stamp_of (stamp_words s)
