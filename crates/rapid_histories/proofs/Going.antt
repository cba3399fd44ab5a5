-- Going round a ring: who is next before a process, and that each member is next before one other at most.
use Rattle.std.proofs.Common.{◌≡◌, ℕ, Bool, true, false, cond, not, ◌&&◌, ◌||◌, List, [], ◌∷◌, filter, refl, sym, ap, subst, ◌∙◌, ◌⊎◌, inl, inr}
use Rattle.std.specs.declared.cmp.Ordering.{Ordering}
use Rattle.std.specs.declared.cmp.Ordering.TheVariants.{Less, Equal, Greater}
use Rattle.std.specs.List.{list_all}
use Rattle.std.specs.Ordering.{ordering_then, ordering_reverse, nat_cmp, is_lt, is_eq}
use Rattle.std.specs.Cmp.{IsTotalOrder, nat_cmp_total, then_total, on_total, tied_itself}
use Rattle.std.proofs.lemmas.Bool.{and_parts, and_from, true≢false, not-true}
use Rattle.rapid_model.specs.Process.{Process, process_cmp, same_bytes}
use Rattle.rapid_model.specs.Ring.{ring_key, ring_cmp, is_before, is_between, is_next_before}
use Rattle.rapid_model.proofs.Lists.{In, all_in}
use Rattle.rapid_model.proofs.Orders.{processes_total, second_equal, same_bytes_decides}
use Rattle.rapid_histories.proofs.Finding.{all_of, in_filtered, filtered_in}
use Rattle.rapid_model.proofs.Logic.{equal_is}

ring_total : (k : ℕ) → IsTotalOrder (ring_cmp k)
ring_total k = then_total (on_total (ring_key k) processes_total) processes_total

-- different processes do not tie on a ring
apart : (k : ℕ) (p q : Process) → same_bytes p q ≡ false → is_eq (ring_cmp k p q) ≡ false
apart k p q other = by (is_eq (ring_cmp k p q)) refl
  where
    by : (b : Bool) → is_eq (ring_cmp k p q) ≡ b → b ≡ false
    by false e = refl
    by true e =
        let tied : process_cmp p q ≡ Equal = second_equal _ _ (equal_is (ring_cmp k p q) e) in
        absurd (true≢false (sym (ap is_eq tied) ∙ other))

turned : (k : ℕ) (p q : Process) → ring_cmp k q p ≡ ordering_reverse (ring_cmp k p q)
turned k p q = (ring_total k).antisymm q p

-- of two others one is between this and the other
one_of_two : (a b c : Ordering) → is_eq a ≡ false → is_eq b ≡ false → is_eq c ≡ false
    → ((is_lt b && is_lt (ordering_reverse c)) || (is_lt (ordering_reverse c) && is_lt (ordering_reverse a)) || (is_lt (ordering_reverse a) && is_lt b)) ≡ false
    → ((is_lt a && is_lt c) || (is_lt c && is_lt (ordering_reverse b)) || (is_lt (ordering_reverse b) && is_lt a)) ≡ false → ⊥
one_of_two Equal b c p q r h k = cc
one_of_two Less Equal c p q r h k = cc
one_of_two Greater Equal c p q r h k = cc
one_of_two Less Less Equal p q r h k = cc
one_of_two Less Greater Equal p q r h k = cc
one_of_two Greater Less Equal p q r h k = cc
one_of_two Greater Greater Equal p q r h k = cc
one_of_two Less Less Less p q r h k = cc
one_of_two Less Less Greater p q r h k = cc
one_of_two Less Greater Less p q r h k = cc
one_of_two Less Greater Greater p q r h k = cc
one_of_two Greater Less Less p q r h k = cc
one_of_two Greater Less Greater p q r h k = cc
one_of_two Greater Greater Less p q r h k = cc
one_of_two Greater Greater Greater p q r h k = cc

-- o is next before one member at most
pub only_one : (ms : List Process) (k : ℕ) (o s t : Process) → In ms s → In ms t → is_next_before ms k s o ≡ true → is_next_before ms k t o ≡ true → s ≡ t
only_one ms k o s t at_s at_t before_s before_t = by (same_bytes s t) refl
  where
    open_s : (not (same_bytes o s) ≡ true) × (list_all (λ m. not (is_between k o m s)) ms ≡ true)
    open_s = and_parts _ _ before_s

    open_t : (not (same_bytes o t) ≡ true) × (list_all (λ m. not (is_between k o m t)) ms ≡ true)
    open_t = and_parts _ _ before_t

    first : is_between k o t s ≡ false
    first = not-true _ (all_in (λ m. not (is_between k o m s)) ms t open_s.1 at_t)

    second : is_between k o s t ≡ false
    second = not-true _ (all_in (λ m. not (is_between k o m t)) ms s open_t.1 at_s)

    by : (b : Bool) → same_bytes s t ≡ b → s ≡ t
    by true e = (same_bytes_decides s t).0 e
    by false e =
        absurd
        (one_of_two (ring_cmp k o s) (ring_cmp k o t) (ring_cmp k s t) (apart k o s (not-true _ open_s.0)) (apart k o t (not-true _ open_t.0)) (apart k s t e)
        (rw (← turned k s t, ← turned k o s) first) (rw (← turned k o t) second))

-- ---- the last of a list

-- The element is one of these and below none of them.
abbrev IsLastOf : {K : Type 0} → (K → K → Ordering) → List K → K → Type 0
IsLastOf {K} R xs x = In xs x × ((y : K) → In xs y → is_lt (R x y) ≡ false)

last_more : {K : Type 0} {R : K → K → Ordering} → IsTotalOrder R → (o y x : K) (ys : List K) → IsLastOf R (o ∷ ys) x → (w : K) × IsLastOf R (o ∷ y ∷ ys) w
last_more {K} {R} total o y x ys last = by (R x y) refl
  where
    further : (z : K) → In (o ∷ ys) z → In (o ∷ y ∷ ys) z
    further z (inl e) = inl e
    further z (inr i) = inr (inr i)

    parts : (z : K) → In (o ∷ y ∷ ys) z → (z ≡ y) ⊎ In (o ∷ ys) z
    parts z (inl e) = inr (inl e)
    parts z (inr (inl e)) = inl (sym e)
    parts z (inr (inr i)) = inr (inr i)

    keeps : is_lt (R x y) ≡ false → (z : K) → In (o ∷ y ∷ ys) z → is_lt (R x z) ≡ false
    keeps h z i = elim (parts z i) [ inl e ↦ subst (λ w. is_lt (R x w) ≡ false) (sym e) h | inr old ↦ last.1 z old ]

    above : R x y ≡ Less → (z : K) → In (o ∷ ys) z → (r : Ordering) → R y z ≡ r → is_lt r ≡ false
    above less z i Less e = absurd (true≢false (sym (ap is_lt (total.trans x y z less e)) ∙ last.1 z i))
    above less z i Equal e = refl
    above less z i Greater e = refl

    by : (r : Ordering) → R x y ≡ r → (w : K) × IsLastOf R (o ∷ y ∷ ys) w
    by Less e =
        (y, (inr (inl refl), λ z i. elim (parts z i) [ inl same ↦ subst (λ w. is_lt (R y w) ≡ false) (sym same) (ap is_lt (tied_itself total y)) | inr old ↦ above e z old (R y z) refl ]))
    by Equal e = (x, (further x last.0, keeps (ap is_lt e)))
    by Greater e = (x, (further x last.0, keeps (ap is_lt e)))

-- in a total order some element is below none
last_of : {K : Type 0} {R : K → K → Ordering} → IsTotalOrder R → (xs : List K) (o : K) → (x : K) × IsLastOf R (o ∷ xs) x
last_of {R = R} total [] o = (o, (inl refl, λ y i. elim i [ inl e ↦ subst (λ z. is_lt (R o z) ≡ false) e (ap is_lt (tied_itself total o)) | inr none ↦ absurd none ]))
last_of total (y ∷ ys) o = let rest = last_of total ys o in last_more total o y rest.0 ys rest.1

-- ---- the nearest going round upwards to j

-- whether x is met before j from the beginning of the ring
abbrev near : ℕ → Process → Process → ℕ
near k j x = cond (is_before k x j) 1 0

abbrev near_cmp : ℕ → Process → Process → Process → Ordering
near_cmp k j x y = ordering_then (nat_cmp (near k j x) (near k j y)) (ring_cmp k x y)

near_total : (k : ℕ) (j : Process) → IsTotalOrder (near_cmp k j)
near_total k j = then_total (on_total (near k j) nat_cmp_total) (ring_total k)

nearer : (a b c : Ordering) → is_eq b ≡ false → is_eq c ≡ false
    → ((is_lt a && is_lt c) || (is_lt c && is_lt (ordering_reverse b)) || (is_lt (ordering_reverse b) && is_lt a))
    ≡ is_lt (ordering_then (nat_cmp (cond (is_lt b) 1 0) (cond (is_lt c) 1 0)) a)
nearer a Equal c p q = absurd (true≢false p)
nearer a Less Equal p q = absurd (true≢false q)
nearer a Greater Equal p q = absurd (true≢false q)
nearer Less Less Less p q = refl
nearer Equal Less Less p q = refl
nearer Greater Less Less p q = refl
nearer Less Less Greater p q = refl
nearer Equal Less Greater p q = refl
nearer Greater Less Greater p q = refl
nearer Less Greater Less p q = refl
nearer Equal Greater Less p q = refl
nearer Greater Greater Less p q = refl
nearer Less Greater Greater p q = refl
nearer Equal Greater Greater p q = refl
nearer Greater Greater Greater p q = refl

between_is_nearer : (k : ℕ) (x m j : Process) → same_bytes x j ≡ false → same_bytes m j ≡ false → is_between k x m j ≡ is_lt (near_cmp k j x m)
between_is_nearer k x m j other_x other_m =
    ap (λ r. (is_lt (ring_cmp k x m) && is_lt (ring_cmp k m j)) || (is_lt (ring_cmp k m j) && is_lt r) || (is_lt r && is_lt (ring_cmp k x m))) (turned k x j)
    ∙ nearer (ring_cmp k x m) (ring_cmp k x j) (ring_cmp k m j) (apart k x j other_x) (apart k m j other_m)

none_between : (a b c : Bool) → b ≡ false → (c && a) ≡ false → ((a && b) || (b && c) || (c && a)) ≡ false
none_between true true c p q = absurd (true≢false p)
none_between false true c p q = absurd (true≢false p)
none_between true false c p q = q
none_between false false c p q = q

not_both : (o : Ordering) → (is_lt (ordering_reverse o) && is_lt o) ≡ false
not_both Less = refl
not_both Equal = refl
not_both Greater = refl

-- j itself is between nobody and j
not_itself : (k : ℕ) (x j : Process) → is_between k x j j ≡ false
not_itself k x j =
    none_between (is_before k x j) (is_before k j j) (is_before k j x) (ap is_lt (tied_itself (ring_total k) j))
    (ap (λ r. is_lt r && is_before k x j) (turned k x j) ∙ not_both (ring_cmp k x j))

-- if a member is not j, some member is next before j
pub some_before : (ms : List Process) (k : ℕ) (o j : Process) → In ms o → same_bytes o j ≡ false → (x : Process) × In ms x × (is_next_before ms k j x ≡ true)
some_before ms k o j at other = (x, inside.0, and_from _ _ inside.1 (all_of (λ m. not (is_between k x m j)) ms (λ m i. none m i (same_bytes m j) refl)))
  where
    is_other : Process → Bool
    is_other m = not (same_bytes m j)

    last : (x : Process) × IsLastOf (near_cmp k j) (o ∷ filter is_other ms) x
    last = last_of (near_total k j) (filter is_other ms) o

    x : Process
    x = last.0

    inside : In ms x × (not (same_bytes x j) ≡ true)
    inside = elim last.1.0 [
      | inl same ↦ subst (λ z. In ms z × (not (same_bytes z j) ≡ true)) same (at, ap not other)
      | inr i ↦ filtered_in is_other ms x i
    ]

    none : (m : Process) → In ms m → (b : Bool) → same_bytes m j ≡ b → not (is_between k x m j) ≡ true
    none m i true e = ap (λ z. not (is_between k x z j)) ((same_bytes_decides m j).0 e) ∙ ap not (not_itself k x j)
    none m i false e =
        ap not (between_is_nearer k x m j (not-true _ inside.1) e ∙ last.1.1 m (inr (in_filtered is_other ms m i (ap not e))))
