-- What is settled, by numbers.
use Rattle.std.proofs.Common.{◌≡◌, ℕ, zero, suc, ◌+◌, ◌-◌, ◌<◌, ◌≤◌, ◌^◌, Bool, true, false, not, cond, ◌&&◌, ◌||◌, List, nat_eq, nat_le, nat_lt, refl, ap, sym, ◌∙◌, arith, Some, None, Result, Ok, Err, OnOk, OnErr}
use Rattle.std.proofs.lemmas.Bool.Decides.{nat_tests}
use Rattle.std.proofs.lemmas.Cmp.{nat_cmp_total}
use Rattle.std.specs.List.{find, list_any, range_with_len}
use Rattle.std.specs.FinSet as set
use Rattle.std.specs.Cmp.{eq_by_cmp_equiv, unsigned_tied}
use Rattle.std.specs.FinSet.{contains-insert, contains-remove, contains-union, contains-from_list, contains-from_list_nat, same_set, nat_cmp-IsAntisymmetric}
use Rattle.std.specs.Ordering.{nat_cmp, eq_by_cmp}
use Rattle.rapid_sim.specs.Settling.{settled_by, HasGap}
use Rattle.rapid_model.proofs.Logic.{or_swap, if_false}

-- A number is one of a range.
in_range : (a n q : ℕ) → list_any (λ y. nat_eq y q) (range_with_len a n) ≡ (nat_le a q && nat_lt q (a + n))
in_range a zero q = grind (arith, nat_tests)
in_range a (suc n) q = let h = in_range (a + 1) n q in rw h (grind (arith, nat_tests))

-- Whether a number is settled.
pub is_settled : (n : ℕ) (s : set.FinSet nat_cmp) (q : ℕ) → set.contains (settled_by n s) q ≡ ((nat_le 1 q && nat_lt q (1 + n)) || set.contains s q)
unfolding settled_by
is_settled n s q = contains-union nat_cmp_total (set.from_list (range_with_len 1 n)) s q ∙ ap (λ b. b || set.contains s q) (contains-from_list_nat (range_with_len 1 n) q ∙ in_range 1 n q)

if_true : (b x : Bool) → cond b true x ≡ (b || x)
if_true true x = refl
if_true false x = refl

-- ---- a set of numbers

abbrev among : List ℕ → ℕ → Bool
among ks q = list_any (eq_by_cmp nat_cmp q) ks

pub insert_seen : (ks ns : List ℕ) (p : ℕ) → ((q : ℕ) → list_any (eq_by_cmp nat_cmp q) ns ≡ cond (eq_by_cmp nat_cmp p q) true (list_any (eq_by_cmp nat_cmp q) ks))
    → set.from_list {R = nat_cmp} ns ≡ set.insert (set.from_list ks) p
insert_seen ks ns p h =
    same_set nat_cmp_total nat_cmp-IsAntisymmetric _ _ (λ q.
    contains-from_list nat_cmp_total ns q ∙ h q ∙ if_true (eq_by_cmp nat_cmp p q) (among ks q)
    ∙ ap (λ b. b || among ks q) ((eq_by_cmp_equiv nat_cmp_total).symm p q)
    ∙ ap (λ b. eq_by_cmp nat_cmp q p || b) (sym (contains-from_list nat_cmp_total ks q))
    ∙ sym (contains-insert nat_cmp_total (set.from_list ks) p q))

pub remove_seen : (ks ns : List ℕ) (p : ℕ) → ((q : ℕ) → list_any (eq_by_cmp nat_cmp q) ns ≡ cond (eq_by_cmp nat_cmp p q) false (list_any (eq_by_cmp nat_cmp q) ks))
    → set.from_list {R = nat_cmp} ns ≡ set.remove (set.from_list ks) p
remove_seen ks ns p h =
    same_set nat_cmp_total nat_cmp-IsAntisymmetric _ _ (λ q.
    contains-from_list nat_cmp_total ns q ∙ h q ∙ if_false (eq_by_cmp nat_cmp p q) (among ks q)
    ∙ ap (λ b. not b && among ks q) ((eq_by_cmp_equiv nat_cmp_total).symm p q)
    ∙ ap (λ b. not (eq_by_cmp nat_cmp q p) && b) (sym (contains-from_list nat_cmp_total ks q))
    ∙ sym (contains-remove nat_cmp_total (set.from_list ks) p q))

-- ---- one more packet is settled

-- Two sets that have the same numbers.
same_numbers : (s t : set.FinSet nat_cmp) → ((q : ℕ) → set.contains s q ≡ set.contains t q) → s ≡ t
same_numbers s t h = same_set nat_cmp_total nat_cmp-IsAntisymmetric s t h

inserted : (s : set.FinSet nat_cmp) (p q : ℕ) → set.contains (set.insert s p) q ≡ (nat_eq q p || set.contains s q)
inserted s p q = contains-insert nat_cmp_total s p q ∙ ap (λ b. b || set.contains s q) (unsigned_tied q p)

removed : (s : set.FinSet nat_cmp) (p q : ℕ) → set.contains (set.remove s p) q ≡ (not (nat_eq q p) && set.contains s q)
removed s p q = contains-remove nat_cmp_total s p q ∙ ap (λ b. not b && set.contains s q) (unsigned_tied q p)

range_has : (n p q : ℕ) (c : Bool) → 1 ≤ p → p ≤ n → ((nat_le 1 q && nat_lt q (1 + n)) || c) ≡ (nat_eq q p || ((nat_le 1 q && nat_lt q (1 + n)) || c))
range_has n p q c h k = grind (arith, nat_tests)

range_grows : (n q : ℕ) (c : Bool) → ((nat_le 1 q && nat_lt q (1 + (n + 1))) || c) ≡ (nat_eq q (n + 1) || ((nat_le 1 q && nat_lt q (1 + n)) || c))
range_grows n q c = grind (arith, nat_tests)

range_takes : (n q : ℕ) (c : Bool) → (q ≡ n + 1 → c ≡ true) → ((nat_le 1 q && nat_lt q (1 + (n + 1))) || (not (nat_eq q (n + 1)) && c)) ≡ ((nat_le 1 q && nat_lt q (1 + n)) || c)
range_takes n q c h = grind (arith, nat_tests)

-- It was settled already.
pub settled_already : (n p : ℕ) (s : set.FinSet nat_cmp) → 1 ≤ p → p ≤ n → settled_by n s ≡ set.insert (settled_by n s) p
settled_already n p s h k =
    same_numbers _ _ (λ q. is_settled n s q ∙ range_has n p q (set.contains s q) h k ∙ ap (λ b. nat_eq q p || b) (sym (is_settled n s q)) ∙ sym (inserted (settled_by n s) p q))

-- It stands above a gap.
pub settled_above : (n p : ℕ) (s : set.FinSet nat_cmp) → settled_by n (set.insert s p) ≡ set.insert (settled_by n s) p
settled_above n p s =
    same_numbers _ _ (λ q.
    is_settled n (set.insert s p) q ∙ ap (λ b. (nat_le 1 q && nat_lt q (1 + n)) || b) (inserted s p q)
    ∙ or_swap (nat_le 1 q && nat_lt q (1 + n)) (nat_eq q p) (set.contains s q)
    ∙ ap (λ b. nat_eq q p || b) (sym (is_settled n s q)) ∙ sym (inserted (settled_by n s) p q))

-- It is the next.
pub settled_next : (n : ℕ) (s : set.FinSet nat_cmp) → settled_by (n + 1) s ≡ set.insert (settled_by n s) (n + 1)
settled_next n s =
    same_numbers _ _ (λ q.
    is_settled (n + 1) s q ∙ range_grows n q (set.contains s q) ∙ ap (λ b. nat_eq q (n + 1) || b) (sym (is_settled n s q)) ∙ sym (inserted (settled_by n s) (n + 1) q))

-- The next is among the others: it goes from them.
pub settled_moves : (n : ℕ) (s : set.FinSet nat_cmp) → set.contains s (n + 1) ≡ true → settled_by (n + 1) (set.remove s (n + 1)) ≡ settled_by n s
settled_moves n s h =
    same_numbers _ _ (λ q.
    is_settled (n + 1) (set.remove s (n + 1)) q ∙ ap (λ b. (nat_le 1 q && nat_lt q (1 + (n + 1))) || b) (removed s (n + 1) q)
    ∙ range_takes n q (set.contains s q) (λ e. ap (set.contains s) e ∙ h) ∙ sym (is_settled n s q))

-- None is settled.
pub none_settled : settled_by 0 set.empty ≡ set.empty
none_settled =
    same_numbers _ _ (λ q. is_settled 0 set.empty q ∙ grind (arith, nat_tests))

-- ---- the least one

-- All up to one are settled, so none of them is found.
skips : (n a m : ℕ) (f : ℕ → Bool) → ((q : ℕ) → a ≤ q → q < a + n → f q ≡ true) → find (λ k. not (f k)) (range_with_len a (n + m)) ≡ find (λ k. not (f k)) (range_with_len (a + n) m)
skips zero a m f h = let e : a + 0 ≡ a = omega arith in let d : 0 + m ≡ m = omega arith in rw (e, d) refl
skips (suc n) a m f h =
    let first : f a ≡ true = h a (omega arith) (omega arith) in
    let e : a + suc n ≡ (a + 1) + n = omega arith in
    let d : suc n + m ≡ suc (n + m) = omega arith in
    rw (e, d, first) (skips n (a + 1) m f (λ q i j. h q (omega arith) (omega arith)))

low_settled : (n q : ℕ) (c : Bool) → 1 ≤ q → q < 1 + n → ((nat_le 1 q && nat_lt q (1 + n)) || c) ≡ true
low_settled n q c h k = grind (arith, nat_tests)

gap_open : (n : ℕ) (c : Bool) → c ≡ false → ((nat_le 1 (n + 1) && nat_lt (n + 1) (1 + n)) || c) ≡ false
gap_open n c h = grind (arith, nat_tests)

pub least_found : (n sent : ℕ) (s : set.FinSet nat_cmp) → n < sent → sent < 2 ^ 64 → HasGap n s → Some (n + 1) ≡ find (λ k. not (set.contains (settled_by n s) k)) (range_with_len 1 sent)
least_found n sent s h k gap =
    let f = λ (q : ℕ). set.contains (settled_by n s) q in
    let low : (q : ℕ) → 1 ≤ q → q < 1 + n → f q ≡ true = λ q i j. is_settled n s q ∙ low_settled n q (set.contains s q) i j in
    let next : f (n + 1) ≡ false = is_settled n s (n + 1) ∙ gap_open n (set.contains s (n + 1)) (gap (omega arith)) in
    let e : sent ≡ n + suc (sent - n - 1) = omega arith in
    let d : 1 + n ≡ n + 1 = omega arith in
    rw e (sym (skips n 1 (suc (sent - n - 1)) f low ∙ rw (d, next) refl))

pub none_found : (n sent : ℕ) (s : set.FinSet nat_cmp) → sent ≤ n → None ≡ find (λ k. not (set.contains (settled_by n s) k)) (range_with_len 1 sent)
none_found n sent s h =
    let f = λ (q : ℕ). set.contains (settled_by n s) q in
    let e : sent ≡ sent + 0 = omega arith in
    rw e (sym (skips sent 1 0 f (λ q i j. is_settled n s q ∙ low_settled n q (set.contains s q) i (omega arith))))

-- A number above the gap leaves it.
pub gap_stays : {T D : Type 0} (r : Result T D) (n p : ℕ) (old new : set.FinSet nat_cmp) → n + 1 < p → HasGap n old → OnOk r (new ≡ set.insert old p) → OnErr r (new ≡ old) → HasGap n new
gap_stays (Ok x) n p old new h gap ok err =
    λ k. let other : nat_eq (n + 1) p ≡ false = grind (arith, nat_tests) in ap (λ s. set.contains s (n + 1)) ok ∙ inserted old p (n + 1) ∙ rw (other, gap k) refl
gap_stays (Err e) n p old new h gap ok err = λ k. ap (λ s. set.contains s (n + 1)) err ∙ gap k
