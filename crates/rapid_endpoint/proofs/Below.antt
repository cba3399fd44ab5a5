-- Processes of which the identifiers differ compare as these do, as numbers.
use Rattle.std.proofs.Common.{◌≡◌, ℕ, ◌<◌, ◌≤◌, Bool, true, false, nat_lt, nat_eq, cond, List, length, take, drop, refl, sym, ap, ◌∙◌}
use Rattle.std.specs.Prelude.{All}
use Rattle.std.specs.declared.cmp.Ordering.TheVariants.{Less, Equal, Greater}
use Rattle.std.specs.Ordering.{nat_cmp, is_lt, is_eq}
use Rattle.std.specs.Int.{w128, from_be_bytes}
use Rattle.std.specs.Cmp.{unsigned_ties}
use Rattle.std.proofs.lemmas.Bool.{eqb-true}
use Rattle.std.proofs.lemmas.List.{take-append-drop, length-take-le}
use Rattle.std.proofs.lemmas.List.Elements.{All-take}
use Rattle.rapid_model.specs.Tags.{is_below}
use Rattle.rapid_model.specs.Process.{bytes_cmp, same_bytes}
use Rattle.rapid_endpoint.specs.Joined.{first_decides}
use Rattle.rapid_endpoint.proofs.Numbers.{cmp_sixteen}

-- a number is below another as their order says
lower : (m n : ℕ) → nat_lt m n ≡ is_lt (nat_cmp m n)
lower m n = by (nat_lt m n) refl
  where
    least : (b : Bool) → is_lt (cond b Equal Greater) ≡ false
    least true = refl
    least false = refl

    by : (b : Bool) → nat_lt m n ≡ b → b ≡ is_lt (cond b Less (cond (nat_eq m n) Equal Greater))
    by true e = refl
    by false e = sym (least (nat_eq m n))

told_apart : (m n : ℕ) → (m ≡ n → ⊥) → nat_eq m n ≡ false
told_apart m n h = by (nat_eq m n) refl
  where
    by : (b : Bool) → nat_eq m n ≡ b → b ≡ false
    by true e = absurd (h (eqb-true m n e))
    by false e = refl

-- the first sixteen bytes decide if they differ
pub by_sixteen : (a b : List ℕ) (m n : ℕ) → 16 ≤ length a → 16 ≤ length b → All (λ x. x < 256) a → All (λ x. x < 256) b
    → m ≡ from_be_bytes w128 (take 16 a) → n ≡ from_be_bytes w128 (take 16 b) → (m ≡ n → ⊥)
    → nat_lt m n ≡ is_below a b
by_sixteen a b m n l k h g e f apart =
    let us = take 16 a in
    let vs = take 16 b in
    let long : length us ≡ 16 = length-take-le 16 a l in
    let wide : length vs ≡ 16 = length-take-le 16 b k in
    let same : nat_cmp m n ≡ bytes_cmp us vs =
    (λ i. nat_cmp (e i) (f i)) ∙ cmp_sixteen us vs long wide (All-take (λ x. x < 256) 16 a h) (All-take (λ x. x < 256) 16 b g) in
    let differ : same_bytes us vs ≡ false = ap is_eq (sym same) ∙ sym (unsigned_ties m n) ∙ told_apart m n apart in
    lower m n
    ∙ ap is_lt (same ∙ first_decides us vs (drop 16 a) (drop 16 b) (long ∙ sym wide) differ
    ∙ (λ i. bytes_cmp (take-append-drop 16 a i) (take-append-drop 16 b i)))
