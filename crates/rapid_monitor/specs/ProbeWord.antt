-- Clauses of public calls cite this file.
-- The word of an edge: its probe window as one number.
use Rattle.std.specs.Prelude.{ℕ, ◌+◌, ◌*◌, ◌%◌, ◌==◌, List, [], ◌∷◌, Bool, length, if◌then◌else◌, nat_le}
use Rattle.rapid_model.specs.Edge.{Edge, fresh_edge, edge_after}

-- A window as bits: bit 0 is the newest result, and a failure is 1.
abbrev pub window_bits : List Bool → ℕ
window_bits [] = 0
window_bits (failed ∷ older) = (if failed then 1 else 0) + 2 * window_bits older

-- The word of an edge. Bits 0 to 9 are its window, bits 10 to 13 how many results the window holds, and bit 14 is
-- whether the edge is down.
abbrev pub edge_word : Edge → ℕ
edge_word e = window_bits e.window + 1024 * length e.window + (if e.is_down then 16384 else 0)

-- The word of an edge that had these results, in order.
unfoldable pub word_after : List Bool → ℕ
word_after oks = edge_word (edge_after fresh_edge oks)

-- Whether the word is that of an edge that is down.
abbrev pub is_down_word : ℕ → Bool
is_down_word word = nat_le 16384 word

-- The newest result in a word that has one.
abbrev pub newest_ok : ℕ → Bool
newest_ok word = word % 2 == 0
