-- Bytes in fixed room, with zeros behind them.
use Rattle.std.specs.Prelude.{◌≡◌, ℕ, ◌-◌, ◌≤◌, List, ◌++◌, length, take, drop, replicate}
use Rattle.std.proofs.Common.{sym, ap, ◌∙◌, arith}
use Rattle.std.proofs.lemmas.List.{take-append-drop, length-take-le}

-- The first of the bytes are used, and zeros stand behind them.
pub record IsRoom (used : ℕ) (bytes : List ℕ) : Type 0 where
  pub whole : length bytes ≡ 521
  pub within : used ≤ 521
  pub zeros : drop used bytes ≡ replicate (521 - used) 0

-- The used bytes, with zeros behind them, are all.
pub filled_up : (used : ℕ) (bytes : List ℕ) → IsRoom used bytes → take used bytes ++ replicate (521 - used) 0 ≡ bytes
filled_up used bytes h = ap (λ l. take used bytes ++ l) (sym h.zeros) ∙ take-append-drop used bytes

pub used_length : (used : ℕ) (bytes : List ℕ) → IsRoom used bytes → length (take used bytes) ≡ used
used_length used bytes h = length-take-le used bytes (let w = h.whole in let v = h.within in omega arith)

-- The same, by the length of what is used.
pub filled_again : (used : ℕ) (bytes : List ℕ) → IsRoom used bytes
    → take used bytes ++ replicate (521 - length (take used bytes)) 0 ≡ bytes
filled_again used bytes h =
    ap (λ n. take used bytes ++ replicate (521 - n) 0) (used_length used bytes h) ∙ filled_up used bytes h
