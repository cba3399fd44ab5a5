-- Sets of reports that grow, and what was before.
use Rattle.std.proofs.Common.{◌≡◌, ℕ, ◌≤◌, Bool, true, false, cond, not, ◌&&◌, ◌||◌, ◌==◌, List, [], ◌∷◌, ◌++◌, count_by, nat_le, refl, sym, ap, subst, ◌∙◌, Some, arith, eq-eqb}
use Rattle.std.specs.Ordering.{eq_by_cmp}
use Rattle.std.specs.Cmp.{both_ways}
use Rattle.std.specs.FinSet as set
use Rattle.std.proofs.lemmas.List.Folds.{list_any-append}
use Rattle.rapid_model.specs.Process.{Process, is_in, same_bytes}
use Rattle.rapid_model.specs.Ring.{Observers, rings}
use Rattle.rapid_model.specs.Reports.{Report, report_cmp, Reports, tally, reaches_low, Includes}
use Rattle.rapid_model.proofs.Orders.{reports_total, reports_exact, tie_decides, same_bytes_decides}
use Rattle.rapid_model.proofs.Closure.{count_mono}
use Rattle.rapid_cut.specs.declared.mask.Masks.{Masks}
use Rattle.rapid_cut.specs.declared.growing.Added.{Added}
use Rattle.rapid_cut.specs.Known.{Known}
use Rattle.rapid_cut.specs.Growing.{is_for, PutsMask, AddsRings, TakesOut, is_added, without_added, without_all, HaveGrown}
use Rattle.rapid_alerts.specs.RingMasks.{has_ring}
use Rattle.rapid_alerts.proofs.RingMasks.{no_ring}
use Rattle.rapid_cut.proofs.Masks.{count_same}
use Rattle.std.proofs.lemmas.Bool.{and_parts, and_from, or_left, or_right}

or_false : (b : Bool) → (b || false) ≡ b
or_false true = refl
or_false false = refl

contains_before : (part : Masks → ℕ) (r : Reports) (xs : List Added) (q : Report) → set.contains (without_added part r xs) q ≡ (set.contains r q && not (is_added part xs q))
contains_before part r xs q =
    set.contains-retain r (λ x. not (is_added part xs x)) q (λ x e. ap (λ y. not (is_added part xs y)) (sym (reports_exact q x e)))

without_none : (part : Masks → ℕ) (r : Reports) → without_added part r [] ≡ r
without_none part r = set.same_set reports_total reports_exact _ _ (λ q. contains_before part r [] q ∙ and_from (set.contains r q))
  where
    and_from : (b : Bool) → (b && true) ≡ b
    and_from true = refl
    and_from false = refl

pub all_none : (r : Known) (xs : List Added) → xs ≡ [] → without_all r xs ≡ r
all_none r xs e = ap (without_all r) e ∙ (λ i. record { direct = without_none (λ m. m.direct) r.direct i; all = without_none (λ m. m.all) r.all i })

-- what is added is noted in front of the others, if nothing was noted last
pub noted_first : (part : Masks → ℕ) (xs : List Added) (a : Added) (q : Report) → is_added part (a ∷ xs) q ≡ (is_added part xs q || is_for a.subject (part a.rings) q)
noted_first part xs a q = turn (is_for a.subject (part a.rings) q) (is_added part xs q)
  where
    turn : (a b : Bool) → (a || b) ≡ (b || a)
    turn true true = refl
    turn true false = refl
    turn false true = refl
    turn false false = refl

-- what was noted last then goes behind the others
pub noted_then : (part : Masks → ℕ) (last : Added) (xs : List Added) (a : Added) (q : Report) → is_added part (a ∷ (xs ++ last ∷ [])) q ≡ (is_added part (last ∷ xs) q || is_for a.subject (part a.rings) q)
noted_then part last xs a q =
    ap (λ b. is_for a.subject (part a.rings) q || b) (list_any-append (λ (b : Added). is_for b.subject (part b.rings) q) xs (last ∷ []))
    ∙ turn (is_for a.subject (part a.rings) q) (is_added part xs q) (is_for last.subject (part last.rings) q)
  where
    turn : (a b c : Bool) → (a || (b || (c || false))) ≡ ((c || b) || a)
    turn true true true = refl
    turn true true false = refl
    turn true false true = refl
    turn true false false = refl
    turn false true true = refl
    turn false true false = refl
    turn false false true = refl
    turn false false false = refl

-- on one process, what is added is noted with what was noted last
pub noted_with : (part : Masks → ℕ) (last : Added) (xs : List Added) (a : Added) (rings : Masks) (q : Report) → last.subject ≡ a.subject → ((k : ℕ) → has_ring (part rings) k ≡ (has_ring (part last.rings) k || has_ring (part a.rings) k))
    → is_added part (record { subject = a.subject; rings = rings } ∷ xs) q ≡ (is_added part (last ∷ xs) q || is_for a.subject (part a.rings) q)
noted_with part last xs a rings q same h =
    ap (λ b. (same_bytes a.subject q.0 && b) || is_added part xs q) (h q.1)
    ∙ turn (same_bytes a.subject q.0) (has_ring (part last.rings) q.1) (has_ring (part a.rings) q.1) (is_added part xs q)
    ∙ ap (λ (s : Process). ((same_bytes s q.0 && has_ring (part last.rings) q.1) || is_added part xs q) || is_for a.subject (part a.rings) q) (sym same)
  where
    turn : (s l a b : Bool) → ((s && (l || a)) || b) ≡ (((s && l) || b) || (s && a))
    turn true true a b = refl
    turn true false true true = refl
    turn true false true false = refl
    turn true false false true = refl
    turn true false false false = refl
    turn false l a true = refl
    turn false l a false = refl

-- on a process, the rings that are new are those of the reports that are not there
pub new_for : (s : Process) (r : Reports) (mask rings fresh : ℕ) → ((k : ℕ) → set.contains r (s, k) ≡ has_ring mask k) → ((k : ℕ) → has_ring fresh k ≡ (has_ring rings k && not (has_ring mask k)))
    → (q : Report) → is_for s fresh q ≡ (is_for s rings q && not (set.contains r q))
new_for s r mask rings fresh at is q = inside (same_bytes s q.0) refl
  where
    inside : (b : Bool) → same_bytes s q.0 ≡ b → (b && has_ring fresh q.1) ≡ ((b && has_ring rings q.1) && not (set.contains r q))
    inside true e = is q.1 ∙ ap (λ b. has_ring rings q.1 && not b) (sym (at q.1) ∙ ap (λ (p : Process). set.contains r (p, q.1)) ((same_bytes_decides s q.0).0 e))
    inside false e = refl

-- what is put is what was there with the rings
pub puts_adds : (s : Process) (old new : Reports) (mask rings more : ℕ) → ((k : ℕ) → set.contains old (s, k) ≡ has_ring mask k) → ((k : ℕ) → has_ring more k ≡ (has_ring mask k || has_ring rings k))
    → PutsMask s more old new → AddsRings s rings old new
puts_adds s old new mask rings more at is puts q = puts q ∙ inside (same_bytes s q.0) refl
  where
    turn : (a b : Bool) → (a || b) ≡ (b || a)
    turn true true = refl
    turn true false = refl
    turn false true = refl
    turn false false = refl

    inside : (b : Bool) → same_bytes s q.0 ≡ b → cond b (has_ring more q.1) (set.contains old q) ≡ ((b && has_ring rings q.1) || set.contains old q)
    inside true e =
        is q.1 ∙ turn (has_ring mask q.1) (has_ring rings q.1) ∙ ap (λ b. has_ring rings q.1 || b) (sym (at q.1) ∙ ap (λ (p : Process). set.contains old (p, q.1)) ((same_bytes_decides s q.0).0 e))
    inside false e = refl

-- what is said of a process is said of an equal one
pub noted_for : (part : Masks → ℕ) (xs ys : List Added) (s p : Process) (rings : ℕ) → s ≡ p → ((q : Report) → is_added part ys q ≡ (is_added part xs q || is_for s rings q)) → (q : Report) → is_added part ys q ≡ (is_added part xs q || is_for p rings q)
noted_for part xs ys s p rings e h q = h q ∙ ap (λ (r : Process). is_added part xs q || is_for r rings q) e

pub puts_for : (s p : Process) (mask : ℕ) (old new : Reports) → s ≡ p → PutsMask s mask old new → PutsMask p mask old new
puts_for s p mask old new e h q = h q ∙ ap (λ (r : Process). cond (same_bytes r q.0) (has_ring mask q.1) (set.contains old q)) e

pub adds_for : (s p : Process) (mask : ℕ) (old new : Reports) → s ≡ p → AddsRings s mask old new → AddsRings p mask old new
adds_for s p mask old new e h q = h q ∙ ap (λ (r : Process). is_for r mask q || set.contains old q) e

pub takes_for : (s p : Process) (mask : ℕ) (old new : Reports) → s ≡ p → TakesOut s mask old new → TakesOut p mask old new
takes_for s p mask old new e h q = h q ∙ ap (λ (r : Process). not (is_for r mask q) && set.contains old q) e

-- rings that are not there are noted
pub without_noted : (part : Masks → ℕ) (r : Reports) (xs ys : List Added) (a : Added) (rings : ℕ) → ((q : Report) → is_added part ys q ≡ (is_added part xs q || is_for a.subject (part a.rings) q)) → ((q : Report) → is_for a.subject (part a.rings) q ≡ (is_for a.subject rings q && not (set.contains r q)))
    → without_added part r ys ≡ without_added part r xs
without_noted part r xs ys a rings noted new =
    set.same_set reports_total reports_exact _ _ (λ q.
    contains_before part r ys q ∙ ap (λ b. set.contains r q && not b) (noted q ∙ ap (λ b. is_added part xs q || b) (new q))
    ∙ at (set.contains r q) (is_added part xs q) (is_for a.subject rings q) ∙ sym (contains_before part r xs q))
  where
    at : (a b c : Bool) → (a && not (b || (c && not a))) ≡ (a && not b)
    at true true c = refl
    at true false true = refl
    at true false false = refl
    at false b c = refl

-- rings that are not there are noted and put in
pub without_more : (part : Masks → ℕ) (r more : Reports) (xs ys : List Added) (a : Added) (rings : ℕ) → ((q : Report) → is_added part ys q ≡ (is_added part xs q || is_for a.subject (part a.rings) q)) → ((q : Report) → is_for a.subject (part a.rings) q ≡ (is_for a.subject rings q && not (set.contains r q)))
    → AddsRings a.subject rings r more → without_added part more ys ≡ without_added part r xs
without_more part r more xs ys a rings noted new adds =
    set.same_set reports_total reports_exact _ _ (λ q.
    contains_before part more ys q ∙ ap (λ b. set.contains more q && not b) (noted q ∙ ap (λ b. is_added part xs q || b) (new q))
    ∙ ap (λ b. b && not (is_added part xs q || (is_for a.subject rings q && not (set.contains r q)))) (adds q)
    ∙ at (set.contains r q) (is_added part xs q) (is_for a.subject rings q) ∙ sym (contains_before part r xs q))
  where
    at : (a b c : Bool) → ((c || a) && not (b || (c && not a))) ≡ (a && not b)
    at true true true = refl
    at true true false = refl
    at true false true = refl
    at true false false = refl
    at false true true = refl
    at false true false = refl
    at false false true = refl
    at false false false = refl

-- one of those is taken out
without_next : (part : Masks → ℕ) (r less : Reports) (xs : List Added) (a : Added) → TakesOut a.subject (part a.rings) r less → without_added part less xs ≡ without_added part r (a ∷ xs)
without_next part r less xs a takes =
    set.same_set reports_total reports_exact _ _ (λ q.
    contains_before part less xs q ∙ ap (λ b. b && not (is_added part xs q)) (takes q)
    ∙ at (set.contains r q) (is_added part xs q) (is_for a.subject (part a.rings) q) ∙ sym (contains_before part r (a ∷ xs) q))
  where
    at : (a b c : Bool) → ((not c && a) && not b) ≡ (a && not (c || b))
    at true b true = refl
    at false b true = refl
    at true b false = refl
    at false b false = refl

pub all_next : (r less : Known) (xs : List Added) (a : Added) → TakesOut a.subject a.rings.direct r.direct less.direct → TakesOut a.subject a.rings.all r.all less.all → without_all less xs ≡ without_all r (a ∷ xs)
all_next r less xs a d e = λ i. record { direct = without_next (λ m. m.direct) r.direct less.direct xs a d i; all = without_next (λ m. m.all) r.all less.all xs a e i }

-- ---- one ring

-- whether it is this report
is_this : (x : Report) (s : Process) (k : ℕ) → eq_by_cmp report_cmp x (s, k) ≡ (same_bytes s x.0 && x.1 == k)
is_this x s k =
    both_ways _ _
    (λ h.
    let e = (tie_decides reports_total reports_exact x (s, k)).0 h in
    and_from _ _ ((same_bytes_decides s x.0).1 (sym (ap (λ (y : Report). y.0) e))) (eq-eqb x.1 k (ap (λ (y : Report). y.1) e)))
    (λ h.
    let p = and_parts (same_bytes s x.0) (x.1 == k) h in
    let a : s ≡ x.0 = (same_bytes_decides s x.0).0 p.0 in
    let b : x.1 ≡ k = (let q = p.1 in grind (arith, q)) in
    (tie_decides reports_total reports_exact x (s, k)).1 (λ i. (sym a i, b i)))

-- a mask of one ring adds one report
pub adds_one : (old new : Reports) (s : Process) (k mask : ℕ) → ((j : ℕ) → has_ring mask j ≡ (j == k)) → AddsRings s mask old new → new ≡ set.insert old (s, k)
adds_one old new s k mask one adds =
    set.same_set reports_total reports_exact _ _ (λ x.
    adds x ∙ ap (λ b. (same_bytes s x.0 && b) || set.contains old x) (one x.1) ∙ ap (λ b. b || set.contains old x) (sym (is_this x s k)) ∙ sym (set.contains-insert reports_total old (s, k) x))

-- and a mask of none adds none
-- reports for no rings are none
pub adds_nothing : (old : Reports) (s : Process) (mask : ℕ) → mask ≡ 0 → AddsRings s mask old old
adds_nothing old s mask z x =
    sym (ap (λ b. (same_bytes s x.0 && b) || set.contains old x) (ap (λ m. has_ring m x.1) z ∙ no_ring x.1) ∙ ap (λ b. b || set.contains old x) (and_false (same_bytes s x.0)))
  where
    and_false : (b : Bool) → (b && false) ≡ false
    and_false true = refl
    and_false false = refl

pub adds_none : (old new : Reports) (s : Process) (mask : ℕ) → mask ≡ 0 → AddsRings s mask old new → new ≡ old
adds_none old new s mask z adds = set.same_set reports_total reports_exact _ _ (λ x. adds x ∙ sym (adds_nothing old s mask z x))

-- ---- those that come to L reports

pub grown_none : (t : Observers) (r : Reports) (grown : List Process) → grown ≡ [] → HaveGrown t r r grown
grown_none t r grown e = subst (HaveGrown t r r) (sym e) (record { low = λ q. sym (or_false (reaches_low t r (Some q))) })

elsewhere : (t : Observers) (r : Reports) (s q : Process) (k : ℕ) → same_bytes q s ≡ false → tally t (set.insert r (s, k)) q ≡ tally t r q
elsewhere t r s q k h =
    count_same (λ j. set.contains (set.insert r (s, k)) (q, j)) (λ j. set.contains r (q, j)) (rings t) (λ j.
    set.contains-insert reports_total r (s, k) (q, j) ∙ ap (λ b. b || set.contains r (q, j)) (apart j (eq_by_cmp report_cmp (q, j) (s, k)) refl))
  where
    apart : (j : ℕ) (b : Bool) → eq_by_cmp report_cmp (q, j) (s, k) ≡ b → b ≡ false
    apart j true e = sym ((same_bytes_decides q s).1 (ap (λ (y : Report). y.0) ((tie_decides reports_total reports_exact (q, j) (s, k)).0 e))) ∙ h
    apart j false e = refl

tally_of : (t : Observers) (r : Reports) (s : Process) (mask : ℕ) → ((k : ℕ) → set.contains r (s, k) ≡ has_ring mask k) → tally t r s ≡ count_by (has_ring mask) (rings t)
tally_of t r s mask at = count_same (λ k. set.contains r (s, k)) (has_ring mask) (rings t) at

more_at : (r : Reports) (s : Process) (k mask more : ℕ) → ((j : ℕ) → set.contains r (s, j) ≡ has_ring mask j) → ((j : ℕ) → has_ring more j ≡ (has_ring mask j || j == k))
    → (j : ℕ) → set.contains (set.insert r (s, k)) (s, j) ≡ has_ring more j
more_at r s k mask more at is j =
    set.contains-insert reports_total r (s, k) (s, j) ∙ ap (λ b. b || set.contains r (s, j)) (is_this (s, j) s k ∙ ap (λ b. b && j == k) ((same_bytes_decides s s).1 refl))
    ∙ ap (λ b. j == k || b) (at j) ∙ turn (j == k) (has_ring mask j) ∙ sym (is j)
  where
    turn : (a b : Bool) → (a || b) ≡ (b || a)
    turn true true = refl
    turn true false = refl
    turn false true = refl
    turn false false = refl

-- one report more, by which its subject comes to L or does not
pub grown_more : (t : Observers) (start r : Reports) (s : Process) (k mask now : ℕ) (grown more : List Process) (was is : Bool) → ((j : ℕ) → set.contains r (s, j) ≡ has_ring mask j) → ((j : ℕ) → has_ring now j ≡ (has_ring mask j || j == k))
    → was ≡ nat_le t.params.l (count_by (has_ring mask) (rings t)) → is ≡ nat_le t.params.l (count_by (has_ring now) (rings t))
    → more ≡ cond (not was && is) (grown ++ s ∷ []) grown → HaveGrown t start r grown → HaveGrown t start (set.insert r (s, k)) more
grown_more t start r s k mask now grown more was is at n w i m g =
    record {
      low = λ q.
          elim (same_bytes q s) as (λ b. same_bytes q s ≡ b → reaches_low t (set.insert r (s, k)) (Some q) ≡ (reaches_low t start (Some q) || is_in more q)) [
            | true ↦ λ e. subst (λ p. reaches_low t (set.insert r (s, k)) (Some p) ≡ (reaches_low t start (Some p) || is_in more p)) (sym ((same_bytes_decides q s).0 e)) here
            | false ↦ λ e. ap (nat_le t.params.l) (elsewhere t r s q k e) ∙ g.low q ∙ ap (λ b. reaches_low t start (Some q) || b) (sym (there q e (not was && is) m))
          ] refl;
    }
  where
    there : (q : Process) → same_bytes q s ≡ false → (b : Bool) → more ≡ cond b (grown ++ s ∷ []) grown → is_in more q ≡ is_in grown q
    there q e true n = ap (λ l. is_in l q) n ∙ list_any-append (same_bytes q) grown (s ∷ []) ∙ ap (λ b. is_in grown q || (b || false)) e ∙ or_false (is_in grown q)
    there q e false n = ap (λ l. is_in l q) n

    was_low : was ≡ reaches_low t r (Some s)
    was_low = w ∙ ap (nat_le t.params.l) (sym (tally_of t r s mask at))

    is_low : is ≡ reaches_low t (set.insert r (s, k)) (Some s)
    is_low = i ∙ ap (nat_le t.params.l) (sym (tally_of t (set.insert r (s, k)) s now (more_at r s k mask now at n)))

    up : was ≡ true → is ≡ true
    up e =
        let c = count_mono (has_ring mask) (has_ring now) (rings t) (λ j l. n j ∙ or_left _ _ l) in
        i ∙ at_least t.params.l (count_by (has_ring mask) (rings t)) (count_by (has_ring now) (rings t)) c (sym w ∙ e)
      where
        at_least : (l a b : ℕ) → a ≤ b → nat_le l a ≡ true → nat_le l b ≡ true
        at_least l a b n e = grind (arith, n, e)

    listed : (b c : Bool) → was ≡ b → is ≡ c → more ≡ cond (not b && c) (grown ++ s ∷ []) grown → c ≡ (reaches_low t start (Some s) || is_in more s)
    listed true true e f n = sym (ap (λ l. reaches_low t start (Some s) || is_in l s) n ∙ sym (g.low s) ∙ sym was_low ∙ e)
    listed true false e f n = sym f ∙ up e ∙ sym (ap (λ l. reaches_low t start (Some s) || is_in l s) n ∙ sym (g.low s) ∙ sym was_low ∙ e)
    listed false true e f n =
        sym (or_right (reaches_low t start (Some s)) (is_in more s) (ap (λ l. is_in l s) n ∙ list_any-append (same_bytes s) grown (s ∷ []) ∙ or_right _ _ (or_left _ _ ((same_bytes_decides s s).1 refl))))
    listed false false e f n = sym (ap (λ l. reaches_low t start (Some s) || is_in l s) n ∙ sym (g.low s) ∙ sym was_low ∙ e)

    here : reaches_low t (set.insert r (s, k)) (Some s) ≡ (reaches_low t start (Some s) || is_in more s)
    here = sym is_low ∙ listed was is refl refl m

-- ---- what is direct is among all

pub includes_more : (all direct : Reports) (x : Report) → Includes all direct → Includes (set.insert all x) (set.insert direct x)
includes_more all direct x inc q h =
    set.contains-insert reports_total all x q ∙ more (eq_by_cmp report_cmp q x) (sym (set.contains-insert reports_total direct x q) ∙ h)
  where
    more : (b : Bool) → (b || set.contains direct q) ≡ true → (b || set.contains all q) ≡ true
    more true i = refl
    more false i = inc q i

pub includes_when : (b : Bool) (all direct grown more : Reports) (x : Report) → grown ≡ cond b (set.insert all x) all → more ≡ cond b (set.insert direct x) direct → Includes all direct → Includes grown more
includes_when true all direct grown more x e f inc q h = subst (λ r. set.contains r q ≡ true) (sym e) (includes_more all direct x inc q (subst (λ r. set.contains r q ≡ true) f h))
includes_when false all direct grown more x e f inc q h = subst (λ r. set.contains r q ≡ true) (sym e) (inc q (subst (λ r. set.contains r q ≡ true) f h))
