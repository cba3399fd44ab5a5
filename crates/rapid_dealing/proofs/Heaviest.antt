-- The hash and the heaviest, a step further.
use Rattle.std.proofs.Common.{◌≡◌, ◌+◌, ◌<◌, ◌*◌, ◌%◌, ◌^◌, ℕ, Bool, true, List, [], ◌∷◌, ◌++◌, length, take, get_or, slice_get, refl, sym, ap, ◌∙◌, Option, Some}
use Rattle.std.specs.Int.Bits.{bit_xor}
use Rattle.std.proofs.lemmas.List.{take_more}
use Rattle.std.proofs.lemmas.List.Folds.{list_any_at}
use Rattle.rapid_model.specs.Process.{Process, is_in, same_bytes}
use Rattle.rapid_model.proofs.Orders.{same_bytes_decides}
use Rattle.rapid_dealing.specs.Owners.{hashed, pick, heaviest, owner_in}

-- a byte more
abbrev pub mixed : ℕ → ℕ → ℕ
mixed h b = (bit_xor h b * 0x100000001b3) % 2 ^ 64

hashed_snoc : (h : ℕ) (bs : List ℕ) (b : ℕ) → hashed h (bs ++ b ∷ []) ≡ mixed (hashed h bs) b
hashed_snoc h [] b = refl
hashed_snoc h (c ∷ cs) b = hashed_snoc (mixed h c) cs b

pub hashed_more : (h : ℕ) (bs : List ℕ) (i g x : ℕ) → i < length bs → g ≡ hashed h (take i bs) → x ≡ get_or bs i x → mixed g x ≡ hashed h (take (i + 1) bs)
hashed_more h bs i g x l so at =
    ap (λ k. mixed k x) so ∙ ap (λ y. mixed (hashed h (take i bs)) y) at ∙ sym (hashed_snoc h (take i bs) (get_or bs i x)) ∙ ap (hashed h) (sym (take_more bs i x l))

heaviest_snoc : (key : List ℕ) (p : Process) (qs : List Process) (q : Process) → heaviest key p (qs ++ q ∷ []) ≡ pick key (heaviest key p qs) q
heaviest_snoc key p [] q = refl
heaviest_snoc key p (r ∷ rs) q = heaviest_snoc key (pick key p r) rs q

pub heaviest_more : (key : List ℕ) (p : Process) (ms : List Process) (i : ℕ) (d : Process) → i < length ms → heaviest key p (take (i + 1) ms) ≡ pick key (heaviest key p (take i ms)) (get_or ms i d)
heaviest_more key p ms i d l = ap (heaviest key p) (take_more ms i d l) ∙ heaviest_snoc key p (take i ms) (get_or ms i d)

-- with the first taken once more they are all
pub owner_first : (key : List ℕ) (ms : List Process) (p : Process) → slice_get ms 0 ≡ Some p → owner_in key ms ≡ Some (heaviest key p ms)
owner_first key [] p h = cc
owner_first key (m ∷ ms) p h = let e : m ≡ p = cc in ap (λ q. Some (heaviest key q (m ∷ ms))) e

pub in_at : (ms : List Process) (i : ℕ) (d : Process) → i < length ms → is_in ms (get_or ms i d) ≡ true
in_at ms i d h = list_any_at (same_bytes (get_or ms i d)) ms i d h ((same_bytes_decides (get_or ms i d) (get_or ms i d)).1 refl)

pub owns_is : (o : Option Process) (p q : Process) (b : Bool) → o ≡ Some p → b ≡ same_bytes p q → (b ≡ true → o ≡ Some q) × (o ≡ Some q → b ≡ true)
owns_is o p q b is e = (
  (λ t. is ∙ ap Some ((same_bytes_decides p q).0 (sym e ∙ t))),
  (λ h. let k : p ≡ q = cc in e ∙ (same_bytes_decides p q).1 k),
)
