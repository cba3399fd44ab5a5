-- Taking the alerts of a batch one after another.
use Rattle.std.proofs.Common.{◌≡◌, ℕ, zero, suc, ◌+◌, ◌≤◌, ◌<◌, Bool, true, false, cond, ◌&&◌, ◌||◌, List, [], ◌∷◌, length, map, drop, add-one, refl, sym, ap, subst, ◌∙◌, inl, inr, arith, Option, Some, None, IsSome, nat_lt}
use Rattle.std.specs.Prelude.{slice_get}
use Rattle.std.specs.Option.{option_eq}
use Rattle.std.specs.Ordering.{eq_by_cmp}
use Rattle.std.specs.FinSet as set
use Rattle.rapid_model.specs.Process.{Process, is_in, same_bytes}
use Rattle.rapid_model.specs.Ring.{Observers, IsObserved, observes}
use Rattle.rapid_model.specs.Alert.{Alert, is_well_formed, kind_fits}
use Rattle.rapid_model.specs.Reports.{Report, report_cmp, Reports, report_of, subjects}
use Rattle.rapid_model.specs.Detector.{joiners, is_taken, taken, with_alerts}
use Rattle.rapid_model.proofs.Orders.{reports_total, reports_exact, tie_decides, same_bytes_decides}
use Rattle.rapid_cut.specs.Limits.{IsWithinLimits}
use Rattle.rapid_cut.proofs.Sets.{subject_of}
use Rattle.rapid_cut.proofs.Joiners.{in_subjects_more, joiners_more, joiners_same, length_insert, insert_again, sorted_joiners, known_alike}
use Rattle.std.proofs.lemmas.Bool.{and_parts, or_cases}

or_false : (b : Bool) → (b || false) ≡ b
or_false true = refl
or_false false = refl

or_turn : (a b c : Bool) → (a || (b || c)) ≡ ((b || a) || c)
or_turn true true c = refl
or_turn true false c = refl
or_turn false true c = refl
or_turn false false c = refl

-- ---- sets with alerts

pub with_none : (r : Reports) → with_alerts r [] ≡ r
with_none r =
    set.same_set reports_total reports_exact _ _ (λ q.
    set.contains-union reports_total r (set.from_list []) q ∙ ap (λ b. set.contains r q || b) (set.contains-from_list reports_total [] q) ∙ or_false (set.contains r q))

pub with_more : (r : Reports) (a : Alert) (xs : List Alert) → with_alerts r (a ∷ xs) ≡ with_alerts (set.insert r (report_of a)) xs
with_more r a xs =
    let x = report_of a in
    let rest : Reports = set.from_list (map report_of xs) in
    set.same_set reports_total reports_exact _ _ (λ q.
    set.contains-union reports_total r (set.insert rest x) q
    ∙ ap (λ b. set.contains r q || b) (set.contains-insert reports_total rest x q)
    ∙ or_turn (set.contains r q) (eq_by_cmp report_cmp q x) (set.contains rest q)
    ∙ ap (λ b. b || set.contains rest q) (sym (set.contains-insert reports_total r x q))
    ∙ sym (set.contains-union reports_total (set.insert r x) rest q))

-- ---- a report that is taken keeps the limits

is_observed : (t : Observers) (a : Alert) → is_well_formed t a ≡ true → IsObserved t a.subject
is_observed t a h =
    let p = and_parts (nat_lt a.ring t.params.k && observes t a.observer a.ring a.subject && same_bytes a.config t.id) (kind_fits t a) h in
    let q = and_parts (nat_lt a.ring t.params.k && observes t a.observer a.ring a.subject) (same_bytes a.config t.id) p.0 in
    let r = and_parts (nat_lt a.ring t.params.k) (observes t a.observer a.ring a.subject) q.0 in
    (a.ring, some (t.observer a.ring a.subject) r.1)
  where
    some : (o : Option Process) → option_eq same_bytes o (Some a.observer) ≡ true → IsSome o
    some None e = cc
    some (Some p) e = refl

few_joiners : (t : Observers) (r : Reports) (a : Alert) → is_taken t r a ≡ true → length (joiners t r) ≤ 512 → length (joiners t (set.insert r (report_of a))) ≤ 512
few_joiners t r a h few =
    let p = and_parts (is_well_formed t a) (t.is_member a.subject || is_in (joiners t r) a.subject || nat_lt (length (joiners t r)) 512) h in
    elim (t.is_member a.subject) as (λ m. t.is_member a.subject ≡ m → (m || is_in (joiners t r) a.subject || nat_lt (length (joiners t r)) 512) ≡ true → length (joiners t (set.insert r (report_of a))) ≤ 512) [
      | true ↦ λ m _. subst (λ l. length l ≤ 512) (sym (joiners_same t r (report_of a) m)) few
      | false ↦ λ m k.
          elim (or_cases (is_in (joiners t r) a.subject) (nat_lt (length (joiners t r)) 512) k) [
            | inl there ↦ subst (λ l. length l ≤ 512) (sym (joiners_more t r (report_of a) m ∙ insert_again (joiners t r) a.subject there (sorted_joiners t r))) few
            | inr room ↦ (
                let l = length_insert (joiners t r) a.subject in
                let b : length (joiners t r) < 512 = below (length (joiners t r)) room in
                subst (λ l. length l ≤ 512) (sym (joiners_more t r (report_of a) m)) (omega (arith, l, b))
                )
          ]
    ] refl p.1
  where
    below : (n : ℕ) → nat_lt n 512 ≡ true → n < 512
    below n e = grind arith

pub limits_kept : (t : Observers) (r : Reports) (a : Alert) → is_taken t r a ≡ true → IsWithinLimits t r → IsWithinLimits t (set.insert r (report_of a))
limits_kept t r a h w =
    record {
      observed = λ s k.
          elim (or_cases (same_bytes s a.subject) (is_in (subjects r) s) (sym (in_subjects_more r (report_of a) s) ∙ k)) [
            | inl e ↦ subst (IsObserved t) (sym ((same_bytes_decides s a.subject).0 e)) (is_observed t a (and_parts (is_well_formed t a) _ h).0)
            | inr old ↦ w.observed s old
          ];
      joiners = few_joiners t r a h w.joiners;
    }

-- ---- the loop

-- what was taken so far, and what is still taken of the rest, make up what is taken of all
pub record IsTaking (t : Observers) (start : Reports) (all : List Alert) (i : ℕ) (direct : Reports) (joined count : ℕ) : Type 0 where
  pub reports : with_alerts start (taken t start all) ≡ with_alerts direct (taken t direct (drop i all))
  pub number : length (taken t start all) ≡ count + length (taken t direct (drop i all))
  pub joining : joined ≡ length (joiners t direct)
  pub limits : IsWithinLimits t start → IsWithinLimits t direct
  pub bound : count ≤ i

pub drop_at : {A : Type 0} (xs : List A) (i : ℕ) (a : A) → slice_get xs i ≡ Some a → drop i xs ≡ a ∷ drop (i + 1) xs
drop_at xs i a h = drop_suc xs i a h ∙ ap (λ j. a ∷ drop j xs) (sym (add-one i))
  where
    drop_suc : {A : Type 0} (xs : List A) (i : ℕ) (a : A) → slice_get xs i ≡ Some a → drop i xs ≡ a ∷ drop (suc i) xs
    drop_suc [] i a h = cc
    drop_suc (x ∷ xs) zero a h = let e : x ≡ a = cc in ap (λ y. y ∷ xs) e
    drop_suc (x ∷ xs) (suc i) a h = drop_suc xs i a h

pub drop_past : {A : Type 0} (xs : List A) (i : ℕ) → length xs ≤ i → drop i xs ≡ []
drop_past [] zero h = refl
drop_past [] (suc i) h = refl
drop_past (x ∷ xs) zero h = absurd (omega (arith, h))
drop_past (x ∷ xs) (suc i) h = drop_past xs i (omega (arith, h))

pub taking_none : (t : Observers) (start direct : Reports) (all : List Alert) (joined : ℕ) → direct ≡ start → joined ≡ length (joiners t start) → IsTaking t start all 0 direct joined 0
taking_none t start direct all joined e j =
    subst (λ d. IsTaking t start all 0 d joined 0) (sym e) (record { reports = refl; number = omega arith; joining = j; limits = λ h. h; bound = omega arith })

pub taking_more : (t : Observers) (start : Reports) (all : List Alert) (i : ℕ) (direct more : Reports) (joined joined' count count' : ℕ) (a : Alert) (b : Bool) →
    drop i all ≡ a ∷ drop (i + 1) all → b ≡ is_taken t direct a → more ≡ cond b (set.insert direct (report_of a)) direct → joined' ≡ length (joiners t more) → count' ≡ cond b (count + 1) count →
    IsTaking t start all i direct joined count → IsTaking t start all (i + 1) more joined' count'
taking_more t start all i direct more joined joined' count count' a b at is m j n h =
    elim (is_taken t direct a) as (λ c. is_taken t direct a ≡ c → IsTaking t start all (i + 1) more joined' count') [
      | true ↦ λ e.
          let m' : more ≡ set.insert direct (report_of a) = m ∙ ap (λ c. cond c (set.insert direct (report_of a)) direct) (is ∙ e) in
          let n' : count' ≡ count + 1 = n ∙ ap (λ c. cond c (count + 1) count) (is ∙ e) in
          let rest = drop (i + 1) all in
          let next : taken t direct (drop i all) ≡ a ∷ taken t (set.insert direct (report_of a)) rest = ap (taken t direct) at ∙ ap (λ c. cond c (a ∷ taken t (set.insert direct (report_of a)) rest) (taken t direct rest)) e in
          record {
            reports = h.reports ∙ ap (with_alerts direct) next ∙ with_more direct a (taken t (set.insert direct (report_of a)) rest) ∙ ap (λ r. with_alerts r (taken t r rest)) (sym m');
            number = (let l = ap length next in let k = ap (λ r. length (taken t r rest)) m' in omega (arith, h.number, l, k, n'));
            joining = j;
            limits = λ w. subst (IsWithinLimits t) (sym m') (limits_kept t direct a e (h.limits w));
            bound = omega (arith, h.bound, n');
          }
      | false ↦ λ e.
          let m' : more ≡ direct = m ∙ ap (λ c. cond c (set.insert direct (report_of a)) direct) (is ∙ e) in
          let n' : count' ≡ count = n ∙ ap (λ c. cond c (count + 1) count) (is ∙ e) in
          let rest = drop (i + 1) all in
          let next : taken t direct (drop i all) ≡ taken t direct rest = ap (taken t direct) at ∙ ap (λ c. cond c (a ∷ taken t (set.insert direct (report_of a)) rest) (taken t direct rest)) e in
          record {
            reports = h.reports ∙ ap (with_alerts direct) next ∙ ap (λ r. with_alerts r (taken t r rest)) (sym m');
            number = (let l = ap length next in let k = ap (λ r. length (taken t r rest)) m' in omega (arith, h.number, l, k, n'));
            joining = j;
            limits = λ w. subst (IsWithinLimits t) (sym m') (h.limits w);
            bound = omega (arith, h.bound, n');
          }
    ] refl

pub taking_all : (t : Observers) (start : Reports) (all : List Alert) (i : ℕ) (direct : Reports) (joined count : ℕ) → drop i all ≡ [] → IsTaking t start all i direct joined count →
    (direct ≡ with_alerts start (taken t start all)) × (count ≡ length (taken t start all))
taking_all t start all i direct joined count e h = (
  sym (h.reports ∙ ap (λ l. with_alerts direct (taken t direct l)) e ∙ with_none direct),
  (let l = ap (λ l. length (taken t direct l)) e in omega (arith, h.number, l)),
)

-- ---- alerts that are there already

pub insert_known : (r : Reports) (x : Report) → set.contains r x ≡ true → set.insert r x ≡ r
insert_known r x h =
    set.same_set reports_total reports_exact (set.insert r x) r (λ q.
    set.contains-insert reports_total r x q ∙ again q)
  where
    again : (q : Report) → (eq_by_cmp report_cmp q x || set.contains r q) ≡ set.contains r q
    again q =
        elim (eq_by_cmp report_cmp q x) as (λ b. eq_by_cmp report_cmp q x ≡ b → (b || set.contains r q) ≡ set.contains r q) [
          | true ↦ λ e. sym (subst (λ y. set.contains r y ≡ true) (sym ((tie_decides reports_total reports_exact q x).0 e)) h)
          | false ↦ λ e. refl
        ] refl

pub known_taken : (t : Observers) (r : Reports) (a : Alert) → is_well_formed t a ≡ true → set.contains r (report_of a) ≡ true → is_taken t r a ≡ true
known_taken t r a w h =
    ap (λ b. b && (t.is_member a.subject || is_in (joiners t r) a.subject || nat_lt (length (joiners t r)) 512)) w
    ∙ sym (known_alike t r a.subject (nat_lt (length (joiners t r)) 512)) ∙ there (t.is_member a.subject) (is_in (subjects r) a.subject) _ (subject_of r (report_of a) h)
  where
    there : (a b c : Bool) → b ≡ true → (a || b || c) ≡ true
    there true b c e = refl
    there false true c e = refl
    there false false c e = cc

-- ---- the same alerts taken into another set

-- what was taken so far into the other set, and what is still taken
abbrev pub IsTakingInto : Observers → Reports → List Alert → ℕ → Reports → Reports → Reports → Type 0
IsTakingInto t start all i direct other known = with_alerts other (taken t start all) ≡ with_alerts known (taken t direct (drop i all))

pub into_more : (t : Observers) (start : Reports) (all : List Alert) (i : ℕ) (direct more other known grown : Reports) (a : Alert) (b : Bool) →
    drop i all ≡ a ∷ drop (i + 1) all → b ≡ is_taken t direct a → more ≡ cond b (set.insert direct (report_of a)) direct → grown ≡ cond b (set.insert known (report_of a)) known →
    IsTakingInto t start all i direct other known → IsTakingInto t start all (i + 1) more other grown
into_more t start all i direct more other known grown a b at is m n h =
    elim (is_taken t direct a) as (λ c. is_taken t direct a ≡ c → with_alerts other (taken t start all) ≡ with_alerts grown (taken t more (drop (i + 1) all))) [
      | true ↦ λ e.
          let m' : more ≡ set.insert direct (report_of a) = m ∙ ap (λ c. cond c (set.insert direct (report_of a)) direct) (is ∙ e) in
          let n' : grown ≡ set.insert known (report_of a) = n ∙ ap (λ c. cond c (set.insert known (report_of a)) known) (is ∙ e) in
          let rest = drop (i + 1) all in
          let next : taken t direct (drop i all) ≡ a ∷ taken t (set.insert direct (report_of a)) rest = ap (taken t direct) at ∙ ap (λ c. cond c (a ∷ taken t (set.insert direct (report_of a)) rest) (taken t direct rest)) e in
          h ∙ ap (with_alerts known) next ∙ with_more known a (taken t (set.insert direct (report_of a)) rest) ∙ ap (λ r. with_alerts (set.insert known (report_of a)) (taken t r rest)) (sym m') ∙ ap (λ r. with_alerts r (taken t more rest)) (sym n')
      | false ↦ λ e.
          let m' : more ≡ direct = m ∙ ap (λ c. cond c (set.insert direct (report_of a)) direct) (is ∙ e) in
          let n' : grown ≡ known = n ∙ ap (λ c. cond c (set.insert known (report_of a)) known) (is ∙ e) in
          let rest = drop (i + 1) all in
          let next : taken t direct (drop i all) ≡ taken t direct rest = ap (taken t direct) at ∙ ap (λ c. cond c (a ∷ taken t (set.insert direct (report_of a)) rest) (taken t direct rest)) e in
          h ∙ ap (with_alerts known) next ∙ ap (λ r. with_alerts known (taken t r rest)) (sym m') ∙ ap (λ r. with_alerts r (taken t more rest)) (sym n')
    ] refl

pub into_all : (t : Observers) (start : Reports) (all : List Alert) (i : ℕ) (direct other known : Reports) → drop i all ≡ [] → IsTakingInto t start all i direct other known → known ≡ with_alerts other (taken t start all)
into_all t start all i direct other known e h = sym (h ∙ ap (λ l. with_alerts known (taken t direct l)) e ∙ with_none known)
