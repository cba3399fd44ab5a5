-- Masks of rings as sets of reports.
use Rattle.std.proofs.Common.{◌≡◌, ℕ, zero, suc, ◌+◌, ◌-◌, min, ◌≤◌, ◌<◌, Bool, true, false, cond, ◌&&◌, ◌==◌, List, [], ◌∷◌, ◌++◌, map, filter, count_by, refl, sym, ap, subst, ◌∙◌, inl, inr, Option, Some, None, is_some, arith, bit_and, w16, nat_lt, not}
use Rattle.std.specs.List.{list_any, range_with_len}
use Rattle.std.specs.Int.{bit_at, bit_not}
use Rattle.std.specs.Option.{unwrap_or, option_map}
use Rattle.std.specs.Cmp.{both_ways, eq_by_cmp_equiv}
use Rattle.std.specs.FinSet as set
use Rattle.std.specs.Map.{keys_of, lookup}
use Rattle.std.specs.BTreeMap.{is_at}
use Rattle.std.proofs.lemmas.Bool.{cases_eq, and_parts, or_cases, or_left, or_right}
use Rattle.std.proofs.lemmas.Map.Made.{is_member-filter, lookup-map_values}
use Rattle.std.proofs.lemmas.Nat.Bits.{bit_at_and, bit_at_not, bit_at-lt}
use Rattle.rapid_model.specs.Process.{Process, process_cmp, is_in, same_bytes}
use Rattle.rapid_model.specs.Reports.{Report, report_cmp, Reports, subjects}
use Rattle.rapid_model.proofs.Orders.{reports_total, reports_exact, tie_decides, same_bytes_decides}
use Rattle.rapid_cut.specs.declared.mask.Masks.{Masks}
use Rattle.rapid_alerts.specs.RingMasks.{has_ring, with_rings}
use Rattle.rapid_alerts.proofs.RingMasks.{no_both, no_ring, below, one_bit, on_these, found_in}
use Rattle.rapid_cut.specs.Masks.{mask_of, is_reported, reports_in}
use Rattle.rapid_cut.specs.Growing.{is_for, PutsMask, TakesOut}
use Rattle.rapid_cut.specs.Listed.{masks_at}
use Rattle.rapid_cut.proofs.Listed.{first_of, beside}
use Rattle.rapid_cut.proofs.Sets.{subject_of, report_on}
use Rattle.rapid_model.proofs.Logic.{and_is}

-- ---- which reports there are

key_of : (es : List (Process × ℕ)) (x : Report) → is_reported es x ≡ true → is_in (keys_of es) x.0 ≡ true
key_of es x h =
    found_in es x.0 ∙ some (lookup (is_at (process_cmp x.0)) es) h
  where
    some : (o : Option ℕ) → has_ring (unwrap_or o 0) x.1 ≡ true → is_some o ≡ true
    some None e = absurd (no_both _ e (no_ring x.1))
    some (Some m) e = refl

pub seen : (es : List (Process × ℕ)) (x : Report) → set.contains (reports_in es) x ≡ is_reported es x
unfolding reports_in
seen es x =
    set.contains-from_list reports_total (filter (is_reported es) (with_rings (keys_of es))) x
    ∙ is_member-filter (eq_by_cmp_equiv reports_total) (is_reported es) x (λ y e. ap (is_reported es) ((tie_decides reports_total reports_exact x y).0 e)) (with_rings (keys_of es))
    ∙ and_is _ _ (λ h. on_these (keys_of es) x.0 x.1 (key_of es x h) (below x.1 (and_parts (nat_lt x.1 16) (bit_at (mask_of es x.0) x.1 == 1) h).0))

pub none_in : reports_in [] ≡ set.empty
none_in = set.same_set reports_total reports_exact _ _ (λ x. seen [] x ∙ no_ring x.1 ∙ sym (set.contains-empty report_cmp x))

among : (mask k n a : ℕ) → a ≤ k → k < a + n → has_ring mask k ≡ true → list_any (has_ring mask) (range_with_len a n) ≡ true
among mask k zero a low high h = absurd (omega arith)
among mask k (suc n) a low high h =
    elim (cases_eq a k) [
      | inl same ↦ or_left _ _ (subst (λ j. has_ring mask j ≡ true) (sym same) h)
      | inr other ↦ or_right _ _ (among mask k n (a + 1) (omega (arith, other)) (omega arith) h)
    ]

-- a process is reported on if its mask has a ring
pub on_any : (r : Reports) (q : Process) (mask : ℕ) → ((k : ℕ) → set.contains r (q, k) ≡ has_ring mask k) → list_any (has_ring mask) (range_with_len 0 16) ≡ is_in (subjects r) q
on_any r q mask at =
    both_ways _ _
    (λ h. let o = one_of (range_with_len 0 16) h in subject_of r (q, o.0) (at o.0 ∙ o.1))
    (λ h. let o = report_on r q h in let b = sym (at o.0) ∙ o.1 in among mask o.0 16 0 (omega arith) (let l = below o.0 (and_parts (nat_lt o.0 16) (bit_at mask o.0 == 1) b).0 in omega (arith, l)) b)
  where
    one_of : (ks : List ℕ) → list_any (has_ring mask) ks ≡ true → (k : ℕ) × (has_ring mask k ≡ true)
    one_of [] h = cc
    one_of (k ∷ ks) h = elim (or_cases (has_ring mask k) (list_any (has_ring mask) ks) h) [ inl here ↦ (k, here) | inr later ↦ one_of ks later ]

-- ---- the rings of a mask without those of another

min_is : (a b : ℕ) → a < 2 → b < 2 → (min a (1 - b) == 1) ≡ (a == 1 && not (b == 1))
min_is a b l m =
    elim (one_bit a l) [
      | inl e ↦ elim (one_bit b m) [
        | inl f ↦ rw e (rw f refl)
        | inr f ↦ rw e (rw f refl)
      ]
      | inr e ↦ elim (one_bit b m) [
        | inl f ↦ rw e (rw f refl)
        | inr f ↦ rw e (rw f refl)
      ]
    ]

pub ring_and_not : (mask rings k : ℕ) → rings < 65536 → has_ring (bit_and mask (bit_not w16 rings)) k ≡ (has_ring mask k && not (has_ring rings k))
ring_and_not mask rings k within =
    elim (nat_lt k 16) as (λ l. nat_lt k 16 ≡ l → (l && bit_at (bit_and mask (bit_not w16 rings)) k == 1) ≡ ((l && bit_at mask k == 1) && not (l && bit_at rings k == 1))) [
      | true ↦ λ e.
          ap (λ n. n == 1) (bit_at_and mask (bit_not w16 rings) k ∙ ap (λ n. min (bit_at mask k) n) (bit_at_not w16 rings k within (below k e)))
          ∙ min_is (bit_at mask k) (bit_at rings k) (bit_at-lt mask k) (bit_at-lt rings k)
      | false ↦ λ e. refl
    ] refl

-- ---- other masks for a process

-- the reports of masks that differ in that of one process
changed : (es ns : List (Process × ℕ)) (s : Process) (m : ℕ) → ((q : Process) → lookup (is_at (process_cmp q)) ns ≡ cond (is_at (process_cmp s) q) (Some m) (lookup (is_at (process_cmp q)) es))
    → (x : Report) → is_reported ns x ≡ cond (same_bytes s x.0) (has_ring m x.1) (is_reported es x)
changed es ns s m at x =
    ap (λ (o : Option ℕ). has_ring (unwrap_or o 0) x.1) (at x.0) ∙ inside (same_bytes s x.0)
  where
    inside : (b : Bool) → has_ring (unwrap_or (cond b (Some m) (lookup (is_at (process_cmp x.0)) es)) 0) x.1 ≡ cond b (has_ring m x.1) (is_reported es x)
    inside true = refl
    inside false = refl

-- the entries of one part of the masks
abbrev pub parts : (Masks → ℕ) → List (Process × Masks) → List (Process × ℕ)
parts part es = map (λ e. (e.0, part e.1)) es

pub part_at : (part : Masks → ℕ) (es : List (Process × Masks)) (q : Process) → lookup (is_at (process_cmp q)) (parts part es) ≡ option_map part (lookup (is_at (process_cmp q)) es)
part_at part es q = lookup-map_values part (is_at (process_cmp q)) es

pub puts_in : (part : Masks → ℕ) (es ns : List (Process × Masks)) (s : Process) (m : Masks) → ((q : Process) → lookup (is_at (process_cmp q)) ns ≡ cond (is_at (process_cmp s) q) (Some m) (lookup (is_at (process_cmp q)) es))
    → PutsMask s (part m) (reports_in (parts part es)) (reports_in (parts part ns))
puts_in part es ns s m at x =
    seen (parts part ns) x ∙ changed (parts part es) (parts part ns) s (part m) (λ q. part_at part ns q ∙ ap (option_map part) (at q) ∙ inside (same_bytes s q) q) x
    ∙ ap (λ b. cond (same_bytes s x.0) (has_ring (part m) x.1) b) (sym (seen (parts part es) x))
  where
    inside : (b : Bool) (q : Process) → option_map part (cond b (Some m) (lookup (is_at (process_cmp q)) es)) ≡ cond b (Some (part m)) (lookup (is_at (process_cmp q)) (parts part es))
    inside true q = refl
    inside false q = sym (part_at part es q)

-- what the masks of a process say
pub seen_part : (part : Masks → ℕ) (es : List (Process × Masks)) (s : Process) (none found : Masks) (k : ℕ) → part none ≡ 0 → found ≡ unwrap_or (lookup (is_at (process_cmp s)) es) none
    → set.contains (reports_in (parts part es)) (s, k) ≡ has_ring (part found) k
seen_part part es s none found k z e =
    seen (parts part es) (s, k) ∙ ap (λ (o : Option ℕ). has_ring (unwrap_or o 0) k) (part_at part es s) ∙ ap (λ n. has_ring n k) (inside (lookup (is_at (process_cmp s)) es) ∙ ap part (sym e))
  where
    inside : (o : Option Masks) → unwrap_or (option_map part o) 0 ≡ part (unwrap_or o none)
    inside None = sym z
    inside (Some m) = refl

-- without the rings of a mask
pub takes_in : (s : Process) (rings mask : ℕ) (old new : Reports) → ((k : ℕ) → set.contains old (s, k) ≡ has_ring mask k) → (less : ℕ) → ((k : ℕ) → has_ring less k ≡ (has_ring mask k && not (has_ring rings k)))
    → PutsMask s less old new → TakesOut s rings old new
takes_in s rings mask old new at less is puts x =
    puts x ∙ inside (same_bytes s x.0) refl
  where
    turn : (a b : Bool) → (a && not b) ≡ (not b && a)
    turn true true = refl
    turn true false = refl
    turn false true = refl
    turn false false = refl

    inside : (b : Bool) → same_bytes s x.0 ≡ b → cond b (has_ring less x.1) (set.contains old x) ≡ (not (b && has_ring rings x.1) && set.contains old x)
    inside true e = is x.1 ∙ turn (has_ring mask x.1) (has_ring rings x.1) ∙ ap (λ b. not (has_ring rings x.1) && b) (sym (at x.1) ∙ ap (λ (p : Process). set.contains old (p, x.1)) ((same_bytes_decides s x.0).0 e))
    inside false e = refl

pub takes_none : (s : Process) (rings : ℕ) (r : Reports) → ((k : ℕ) → set.contains r (s, k) ≡ false) → TakesOut s rings r r
takes_none s rings r none x = inside (same_bytes s x.0) refl
  where
    inside : (b : Bool) → same_bytes s x.0 ≡ b → set.contains r x ≡ (not (b && has_ring rings x.1) && set.contains r x)
    inside true e = (let no : set.contains r x ≡ false = sym (ap (λ (p : Process). set.contains r (p, x.1)) ((same_bytes_decides s x.0).0 e)) ∙ none x.1 in no ∙ sym (and_none (not (has_ring rings x.1)) no))
      where
        and_none : (a : Bool) → set.contains r x ≡ false → (a && set.contains r x) ≡ false
        and_none true e = e
        and_none false e = refl
    inside false e = refl

pub takes_some : (part : Masks → ℕ) (es ns : List (Process × Masks)) (s : Process) (masks less rings : Masks) → lookup (is_at (process_cmp s)) es ≡ Some masks
    → ((q : Process) → lookup (is_at (process_cmp q)) ns ≡ cond (is_at (process_cmp s) q) (Some less) (lookup (is_at (process_cmp q)) es)) → ((k : ℕ) → has_ring (part less) k ≡ (has_ring (part masks) k && not (has_ring (part rings) k)))
    → TakesOut s (part rings) (reports_in (parts part es)) (reports_in (parts part ns))
takes_some part es ns s masks less rings found at is =
    takes_in s (part rings) (part masks) (reports_in (parts part es)) (reports_in (parts part ns))
    (λ k. seen (parts part es) (s, k) ∙ ap (λ (o : Option ℕ). has_ring (unwrap_or o 0) k) (part_at part es s ∙ ap (option_map part) found))
    (part less) is (puts_in part es ns s less at)

pub takes_absent : (part : Masks → ℕ) (es : List (Process × Masks)) (s : Process) (rings : ℕ) → lookup (is_at (process_cmp s)) es ≡ None → TakesOut s rings (reports_in (parts part es)) (reports_in (parts part es))
takes_absent part es s rings none =
    takes_none s rings (reports_in (parts part es)) (λ k.
    seen (parts part es) (s, k) ∙ ap (λ (o : Option ℕ). has_ring (unwrap_or o 0) k) (part_at part es s ∙ ap (option_map part) none) ∙ no_ring k)

-- what the masks of entries say of a report
says : (part : Masks → ℕ) (es : List (Process × Masks)) (x : Report) → set.contains (reports_in (parts part es)) x ≡ has_ring (unwrap_or (option_map part (masks_at es x.0)) 0) x.1
says part es x = seen (parts part es) x ∙ ap (λ (o : Option ℕ). has_ring (unwrap_or o 0) x.1) (part_at part es x.0)

-- what is taken out behind entries that the process has not
pub takes_behind : (part : Masks → ℕ) (es ys ns : List (Process × Masks)) (s : Process) (rings : ℕ) → masks_at es s ≡ None → TakesOut s rings (reports_in (parts part ys)) (reports_in (parts part ns))
    → TakesOut s rings (reports_in (parts part (es ++ ys))) (reports_in (parts part (es ++ ns)))
takes_behind part es ys ns s rings none takes x =
    says part (es ++ ns) x ∙ ap ring (beside es ns x.0) ∙ inside (masks_at es x.0) refl
    ∙ ap (λ b. not (is_for s rings x) && b) (ap ring (sym (beside es ys x.0)) ∙ sym (says part (es ++ ys) x))
  where
    ring : Option Masks → Bool
    ring o = has_ring (unwrap_or (option_map part o) 0) x.1

    other : (m : Masks) (b : Bool) → masks_at es x.0 ≡ Some m → same_bytes s x.0 ≡ b → same_bytes s x.0 ≡ false
    other m false e h = h
    other m true e h = (let no : None ≡ Some m = sym none ∙ ap (masks_at es) ((same_bytes_decides s x.0).0 h) ∙ e in cc)

    inside : (o : Option Masks) → masks_at es x.0 ≡ o → ring (first_of o (masks_at ns x.0)) ≡ (not (is_for s rings x) && ring (first_of o (masks_at ys x.0)))
    inside None e = sym (says part ns x) ∙ takes x ∙ ap (λ b. not (is_for s rings x) && b) (says part ys x)
    inside (Some m) e = ap (λ b. not (b && has_ring rings x.1) && ring (Some m)) (sym (other m (same_bytes s x.0) e refl))

-- ---- the tally of a mask

pub count_same : (p q : ℕ → Bool) (xs : List ℕ) → ((k : ℕ) → p k ≡ q k) → count_by p xs ≡ count_by q xs
count_same p q xs h = λ i. count_by (λ k. h k i) xs
