-- How the bytes of a configuration come about.
use Rattle.std.proofs.Common.{◌≡◌, ℕ, ◌+◌, ◌<◌, List, [], ◌∷◌, ◌++◌, length, take, get_or, sym, ap, ◌∙◌, append_assoc, length-append}
use Rattle.std.specs.List.{concat}
use Rattle.std.specs.Int.{w16, w64, to_be_bytes}
use Rattle.rapid_model.specs.Process.{Process}
use Rattle.rapid_model.specs.Configuration.{Params, magic}
use Rattle.rapid_endpoint.proofs.Listed.{concat_more}

-- the bytes before those of the members
abbrev pub head_bytes : Params → ℕ → List ℕ → ℕ → List ℕ
head_bytes params height previous count =
    magic ++ previous ++ to_be_bytes w64 height ++ (params.k ∷ params.h ∷ params.l ∷ []) ++ to_be_bytes w16 count

-- one member more behind them
pub spelt_more : (head : List ℕ) (ps : List Process) (i : ℕ) (d : Process) → i < length ps → (head ++ concat (take i ps)) ++ get_or ps i d ≡ head ++ concat (take (i + 1) ps)
spelt_more head ps i d l = append_assoc head (concat (take i ps)) (get_or ps i d) ∙ ap (λ x. head ++ x) (concat_more ps i d l)

pub length_more : (ps : List Process) (i : ℕ) (d : Process) → i < length ps → length (concat (take (i + 1) ps)) ≡ length (concat (take i ps)) + length (get_or ps i d)
length_more ps i d l = ap (λ (xs : List ℕ). length xs) (sym (concat_more ps i d l)) ∙ length-append (concat (take i ps)) (get_or ps i d)
