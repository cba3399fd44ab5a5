-- How a window of probe results slides.
use Rattle.std.proofs.Common.{◌≡◌, ℕ, zero, suc, ◌+◌, ◌-◌, ◌<◌, ◌≤◌, get_or, ◌↔◌, ◌∙◌, Bool, true, false, cond, not, ◌||◌, List, [], ◌∷◌, ◌++◌, length, take, arith, refl, sym, ap, subst, nat_le}
use Rattle.std.specs.Prelude.{slice_get, IsTrue, unwrap_or, if◌then◌else◌, Option, Some, None}
use Rattle.std.specs.Option.{option_map}
use mir.Val.{bool_byte}
use Rattle.std.proofs.lemmas.List.Sums.{sum_by-cons}
use Rattle.rapid_model.specs.Edge.{Edge, fresh_edge, failures, probed, edge_after, HasDownStretch}
use Rattle.rapid_model.proofs.Edges.{down_is_stretch}
use Rattle.rapid_monitor.specs.declared.edge.Verdict.{Verdict}
use Rattle.rapid_monitor.specs.declared.edge.Verdict.TheVariants.{Up, Down}
use Rattle.std.proofs.lemmas.Option.{same_Some}

abbrev one : Bool → ℕ
one b = cond b 1 0

pub failures-cons : (x : Bool) (xs : List Bool) → failures (x ∷ xs) ≡ one x + failures xs
failures-cons x xs = sum_by-cons one x xs

-- the failures of a list of at most n + 1 results are those of the first n and of the last
pub failures_slide : (n : ℕ) (xs : List Bool) → length xs ≤ n + 1 → failures (take n xs) + cond (unwrap_or (slice_get xs n) false) 1 0 ≡ failures xs
failures_slide zero [] l = refl
failures_slide (suc n) [] l = refl
failures_slide zero (x ∷ []) l = omega (arith, failures-cons x [])
failures_slide zero (x ∷ (y ∷ ys)) l = absurd (omega arith)
failures_slide (suc n) (x ∷ xs) l = omega (arith, failures_slide n xs (omega arith), failures-cons x xs, failures-cons x (take n xs))

byte_is : (b : Bool) → bool_byte b ≡ one b
byte_is true = refl
byte_is false = refl

-- the window takes a result, and the number of its failures goes with it
pub failures_next :
    (x : Bool) (xs : List Bool) {capacity before added gone : ℕ} {oldest : Option Bool} →
    capacity ≡ 10 → length xs ≤ 10 → before ≡ failures xs → added ≡ bool_byte x → gone ≡ bool_byte (unwrap_or oldest false) → oldest ≡ slice_get (x ∷ xs) capacity →
    (gone ≤ before + added) × (before + added - gone ≡ failures (take 10 (x ∷ xs)))
failures_next x xs {oldest = oldest} ten l n a g o =
    let slides = failures_slide 10 (x ∷ xs) (omega (arith, l)) in
    let last : unwrap_or oldest false ≡ unwrap_or (slice_get (x ∷ xs) 10) false = rw (o, ten) refl in
    let gone_is = byte_is (unwrap_or oldest false) ∙ ap one last in
    let added_is = byte_is x in
    let more = failures-cons x xs in
    (omega (arith, slides, gone_is, added_is, more, n, a, g), omega (arith, slides, gone_is, added_is, more, n, a, g))

pub length_take : (n : ℕ) (xs : List Bool) → length (take n xs) ≤ n
length_take zero xs = omega arith
length_take (suc n) [] = omega arith
length_take (suc n) (x ∷ xs) = let a = length_take n xs in omega (arith, a)

-- the edge takes a result
pub probed_is : {old : Edge} (ok : Bool) (window items : List Bool) (down : Bool) {many : ℕ} → record { window = window; is_down = down } ≡ old → items ≡ take 10 (not ok ∷ window) → many ≡ failures (take 10 (not ok ∷ window)) → record { window = items; is_down = down || nat_le 4 many } ≡ probed old ok
probed_is ok window items down is i n = rw (i, n) (ap (λ (x : Edge). probed x ok) is)

-- one more result
pub edge_after-append : (e : Edge) (oks : List Bool) (ok : Bool) → edge_after e (oks ++ ok ∷ []) ≡ probed (edge_after e oks) ok
edge_after-append e [] ok = refl
edge_after-append e (x ∷ oks) ok = edge_after-append (probed e x) oks ok

down_true : (b : Bool) → (if b then Down else Up) ≡ Down → b ≡ true
down_true true h = refl
down_true false h = cc

true_down : (b : Bool) → b ≡ true → (if b then Down else Up) ≡ Down
true_down true h = refl
true_down false h = cc

-- an edge says Down exactly if the results so far have a down stretch
pub verdict_so_far : (e : Edge) (ok : Bool) (oks : List Bool) → e ≡ edge_after fresh_edge oks → ((if (probed e ok).is_down then Down else Up) ≡ Down) ↔ HasDownStretch (oks ++ ok ∷ [])
verdict_so_far e ok oks is =
    let law = down_is_stretch (oks ++ ok ∷ []) in
    let after : edge_after fresh_edge (oks ++ ok ∷ []) ≡ probed e ok = edge_after-append fresh_edge oks ok ∙ ap (λ (x : Edge). probed x ok) (sym is) in
    let same : (edge_after fresh_edge (oks ++ ok ∷ [])).is_down ≡ (probed e ok).is_down = ap (λ (x : Edge). x.is_down) after in (
      λ h. law.0 (subst IsTrue (sym same) (down_true (probed e ok).is_down h)),
      λ h. true_down (probed e ok).is_down (subst IsTrue same (law.1 h)),
    )

-- if there is an edge, its verdict is that of the results so far
pub slot_so_far : (slot : Option Edge) (ok : Bool) (oks : List Bool) (result : Option Verdict) → result ≡ option_map (λ (e : Edge). if (probed e ok).is_down then Down else Up) slot → slot ≡ Some (edge_after fresh_edge oks) → (result ≡ Some Down) ↔ HasDownStretch (oks ++ ok ∷ [])
slot_so_far slot ok oks result is slot_is =
    let law = verdict_so_far (edge_after fresh_edge oks) ok oks refl in
    let verdict : result ≡ Some (if (probed (edge_after fresh_edge oks) ok).is_down then Down else Up) = is ∙ ap (option_map (λ (e : Edge). if (probed e ok).is_down then Down else Up)) slot_is in (
      λ h. law.0 (same_Some _ _ (sym verdict ∙ h)),
      λ h. verdict ∙ ap Some (law.1 h),
    )

-- the edge at a place
pub slot_at : (m : List (Option Edge)) (i : ℕ) (d : Option Edge) → i < length m → unwrap_or (slice_get m i) None ≡ get_or m i d
slot_at [] i d l = absurd (omega arith)
slot_at (x ∷ xs) zero d l = refl
slot_at (x ∷ xs) (suc i) d l = slot_at xs i d (omega arith)
