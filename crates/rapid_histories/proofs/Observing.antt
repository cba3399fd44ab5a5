-- The lists of subjects and of observers are exact.
use Rattle.std.proofs.Common.{◌≡◌, ℕ, ◌+◌, ◌<◌, Bool, true, false, cond, refl, sym, ap, ◌∙◌, arith, Option, Some, None, nat_lt}
use Rattle.std.specs.Prelude.{Contains, IsTrue}
use Rattle.std.specs.Option.{option_map, option_eq}
use Rattle.std.proofs.lemmas.Bool.{true≢false, lt-ltb}
use Rattle.rapid_model.specs.Process.{Process, same_bytes}
use Rattle.rapid_model.specs.Configuration.{Configuration, is_member}
use Rattle.rapid_model.specs.Ring.{observers_of, observes, ring_observer, is_next_before, subject_on, subjects_of, rings}
use Rattle.rapid_model.proofs.Lists.{In, in_filter, in_from, contains_from, found_in, in_range}
use Rattle.rapid_model.proofs.Orders.{same_bytes_decides}
use Rattle.rapid_histories.specs.Observing.{SubjectsAreExact, SubjectsStandByRing, ObserversStandByRing}
use Rattle.rapid_histories.proofs.Finding.{find_from, filter_map_in, range_in, given_by_number, stands_by_number}
use Rattle.rapid_histories.proofs.Going.{only_one, some_before}
use Rattle.rapid_model.proofs.Among.{is_among, among_is}

observer_is : (r : Option Process) (o : Process) → option_eq same_bytes r (Some o) ≡ true → r ≡ Some o
observer_is None o h = absurd (true≢false (sym h))
observer_is (Some p) o h = ap Some ((same_bytes_decides p o).0 h)

is_observer : (r : Option Process) (o : Process) → r ≡ Some o → option_eq same_bytes r (Some o) ≡ true
is_observer r o e = ap (λ x. option_eq same_bytes x (Some o)) e ∙ (same_bytes_decides o o).1 refl

-- an observer is next before its subject, on a ring that is there
next_before : (c : Configuration) (k : ℕ) (s o : Process) → (observers_of c).observer k s ≡ Some o → is_next_before c.members k s o ≡ true
unfolding observers_of
next_before c k s o e = by (nat_lt k c.params.k) e
  where
    by : (b : Bool) → cond b (ring_observer c.members k s) None ≡ Some o → is_next_before c.members k s o ≡ true
    by true e = (found_in (is_next_before c.members k s) c.members o e).1
    by false e = absurd (cc)

numbered : (k : ℕ) (o : Option Process) (x : ℕ × Process) → option_map (λ s. (k, s)) o ≡ Some x → (k ≡ x.0) × (o ≡ Some x.1)
numbered k None x e = absurd (cc)
numbered k (Some s) x e = let same : (k, s) ≡ x = cc in (ap (λ (y : ℕ × Process). y.0) same, ap (λ (y : ℕ × Process). Some y.1) same)

-- the pair of a ring and the subject there
abbrev pair : Configuration → Process → ℕ → Option (ℕ × Process)
pair c o k = option_map (λ s. (k, s)) (subject_on c o k)

ring_there : (c : Configuration) (k : ℕ) → k < c.params.k → In (rings (observers_of c)) k
unfolding observers_of
ring_there c k h = in_range 0 c.params.k k (omega arith) (omega (arith, h))

listed : (c : Configuration) (o s : Process) (k : ℕ) → Contains (subjects_of c o) (k, s) → (k < c.params.k) × (IsTrue (is_member c s) × ((observers_of c).observer k s ≡ Some o))
unfolding observers_of
listed c o s k i =
    let from = filter_map_in (pair c o) _ (k, s) (in_from (subjects_of c o) (k, s) i) in
    let parts = numbered from.0 (subject_on c o from.0) (k, s) from.2 in
    let ring = range_in 0 c.params.k from.0 from.1 in
    let subject : subject_on c o k ≡ Some s = ap (subject_on c o) (sym parts.0) ∙ parts.1 in
    let member = found_in (observes (observers_of c) o k) c.members s subject in
    (omega (arith, ring.1, parts.0), (among_is c.members s member.0, observer_is _ o member.1))

lists : (c : Configuration) (o s : Process) (k : ℕ) → (k < c.params.k) × (IsTrue (is_member c s) × ((observers_of c).observer k s ≡ Some o)) → Contains (subjects_of c o) (k, s)
lists c o s k h =
    let at = is_among c.members s h.1.0 in
    let some = find_from (observes (observers_of c) o k) c.members s at (is_observer _ o h.1.1) in
    let one = found_in (observes (observers_of c) o k) c.members some.0 some.1 in
    let same : some.0 ≡ s = only_one c.members k o some.0 s one.0 at (next_before c k some.0 o (observer_is _ o one.1)) (next_before c k s o h.1.1) in
    contains_from (subjects_of c o) (k, s)
    (in_filter (pair c o) (rings (observers_of c)) k (k, s) (ring_there c k h.0) (ap (option_map (λ s. (k, s))) (some.1 ∙ ap Some same)))

pub subjects_are_exact : SubjectsAreExact
subjects_are_exact c o s k = (listed c o s k, lists c o s k)

pub subjects_stand_by_ring : SubjectsStandByRing
unfolding observers_of
subjects_stand_by_ring c o =
    (stands_by_number (λ k. option_map (λ s. (k, s)) (subject_on c o k)) (λ k x e. sym (numbered k (subject_on c o k) x e).0) 0 c.params.k).1

on_ring : (c : Configuration) (k : ℕ) (s : Process) → k < c.params.k → (observers_of c).observer k s ≡ ring_observer c.members k s
unfolding observers_of
on_ring c k s h = ap (λ b. cond b (ring_observer c.members k s) None) (lt-ltb k c.params.k h)

all_observed : (c : Configuration) (j o : Process) → is_member c o ≡ true → same_bytes o j ≡ false → (k : ℕ) → k < c.params.k → (x : Process) × ((observers_of c).observer k j ≡ Some x)
all_observed c j o member other k h =
    let x = some_before c.members k o j (is_among c.members o member) other in
    let found = find_from (is_next_before c.members k j) c.members x.0 x.1 x.2 in
    (found.0, on_ring c k j h ∙ found.1)

pub observers_stand_by_ring : ObserversStandByRing
unfolding observers_of
observers_stand_by_ring c o j member other =
    let all = given_by_number (λ k. (observers_of c).observer k j) 0 c.params.k (λ k l m. all_observed c j o member other k (omega (arith, m))) in
    (all.0, λ i h. all.1 i h ∙ ap (λ (k : ℕ). (observers_of c).observer k j) (let e : 0 + i ≡ i = omega arith in e))
