-- Keys of a process that are kept, by ring.
use Rattle.std.proofs.Common.{◌≡◌, ℕ, zero, suc, ◌+◌, ◌<◌, List, [], ◌∷◌, ◌++◌, map, sym, ap, subst, ◌∙◌, Some, slice_get, arith}
use Rattle.std.specs.List.{range_with_len}
use Rattle.std.specs.Option.{option_map}
use Rattle.std.proofs.lemmas.List.{length-map, map-append}
use Rattle.std.proofs.lemmas.Option.{slice_get-map}
use Rattle.rapid_model.specs.Process.{Process}
use Rattle.rapid_model.specs.Ring.{ring_key}
use Rattle.rapid_rings.specs.Keys.{AreKeysOf}
use Rattle.rapid_rings.proofs.Numbers.{range_more}
use Rattle.std.proofs.lemmas.List.FromFn.{length-range_with_len}

get_number : (a n k : ℕ) → k < n → slice_get (range_with_len a n) k ≡ Some (a + k)
get_number a zero k h = absurd (omega (arith, h))
get_number a (suc n) zero h = let e : a ≡ a + 0 = omega arith in ap Some e
get_number a (suc n) (suc k) h = let e : (a + 1) + k ≡ a + suc k = omega arith in get_number (a + 1) n k (omega (arith, h)) ∙ ap Some e

pub keys_by_ring : (p : Process) (n : ℕ) (keys : List (List ℕ)) → keys ≡ map (λ k. ring_key k p) (range_with_len 0 n) → AreKeysOf p keys
keys_by_ring p n keys e =
    subst (AreKeysOf p) (sym e) (record {
      by_ring = λ k below.
          let within : k < n = subst (λ m. k < m) (length-map (range_with_len 0 n) (λ j. ring_key j p) ∙ length-range_with_len 0 n) below in
          let from_zero : 0 + k ≡ k = omega arith in
          slice_get-map (λ j. ring_key j p) (range_with_len 0 n) k ∙ ap (option_map (λ j. ring_key j p)) (get_number 0 n k within ∙ ap Some from_zero);
    })

-- those of one ring more
pub map_more : {X : Type 0} (f : ℕ → X) (n : ℕ) → map f (range_with_len 0 (n + 1)) ≡ map f (range_with_len 0 n) ++ f n ∷ []
map_more f n = ap (map f) (range_more n) ∙ map-append f (range_with_len 0 n) (n ∷ [])
