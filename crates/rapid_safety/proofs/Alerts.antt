-- Each alert that was sent has a cause.
use Rattle.std.proofs.Common.{◌≡◌, ◌⊎◌, inl, inr, ℕ, Bool, true, false, cond, ◌&&◌, ◌||◌, List, [], ◌∷◌, ◌++◌, map, filter, refl, sym, ap, subst, ◌∙◌, Option, Some, None, append-nil, ◌≤◌, ◌+◌, append_assoc, unwrap_or, arith, zero, suc, not}
use Rattle.rapid_safety.proofs.Basics.{filter_map, is_some, min, take, drop, count_by, cons_option, list_any, eq_by_cmp, and_parts, and_from, cond_both, false_from_ne_true, filter_map-append, sum_by-append, or-false, or_assoc, map-append, list_any-append, In, in_split, in_left, in_from, contains_from, same_bytes_decides, reports_total, reports_exact, processes_total, processes_exact, tie_decides}
use Rattle.std.specs.FinSet as set
use Rattle.std.specs.FinMap as map
use Rattle.rapid_safety.proofs.Told.{in_drop}
use Rattle.rapid_safety.proofs.Values.{Process, same_bytes, process_cmp, Cut, Configuration, configuration_id, is_member, AreMembers, Alert, is_well_formed, Kind, Remove, Join, kind_for, kind_fits, Observers, observers_of, observes, Message, AlertItem, Body, Batch, batch_alerts, JoinRequest, Leave, item_of}
use Rattle.rapid_safety.proofs.Parts.{Report, report_cmp, Reports, report_of, direct_reports, cut_of, reports, is_unstable, subjects, Detector, empty_detector, is_taken, taken, with_alerts, batch_taken, batch_cut, after_batch, Outbox, raise, is_own, unflushed, HasDownStretch}
use Rattle.rapid_safety.proofs.Working.{MemberState, fresh_member, Says, current_id, alert_on, clock_moved, age_of, next_ages, unstable_now}
use Rattle.rapid_safety.proofs.Worlds.{Act, Ticked, World, Entry, Did, MarkedEvent, batch_in, taken_of, alerts_taken, was_unstable, is_tick, IsUnstableThrough, HasCause, IsEchoed, IsJustified, taken_by, result_on, results, sent, alerts_said, SentAlert, received, run, founded, AlertsJustified}
use Rattle.rapid_safety.proofs.Atoms.{push, message, taken_in, IsIdle, Atom, marks, ignores, hears_batch, proposes, Lives, enters, does, leaves, IsMark, ticks, atom_me, HasReason, asked_to, went_down, wants_out, echoes, raises, flushes, AreOwn, lives_own, raise_goes}
use Rattle.rapid_safety.proofs.Voting.{VoteKept, lives_vote, Said, body_of, said_body, mark_body}
use Rattle.rapid_safety.proofs.Members.{of_flat, passes_filter}
use Rattle.rapid_safety.proofs.Rows.{own_drop, own_first, items_back}
use Rattle.rapid_safety.proofs.Histories.{acts_at, Lived}
use Rattle.rapid_safety.proofs.Lived.{lived_run}
use Rattle.rapid_safety.proofs.News.{from_acts, SaidIn, sent_said}
use Rattle.rapid_safety.proofs.Speaking.{Asides, asides_run, spoken}
use Rattle.std.proofs.lemmas.Option.{same_Some}

-- the batches about a configuration among these messages
abbrev pub batches_of : List ℕ → List Message → List (List Alert)
batches_of id ms = filter_map (λ m. batch_in id m.sender m.body) ms

-- the detector after batches
abbrev pub detector_after : Observers → Detector → List (List Alert) → Detector
detector_after t d [] = d
detector_after t d (xs ∷ batches) = detector_after t (after_batch t d xs) batches

detector_after-append : (t : Observers) (d : Detector) (xs ys : List (List Alert)) → detector_after t d (xs ++ ys) ≡ detector_after t (detector_after t d xs) ys
detector_after-append t d [] ys = refl
detector_after-append t d (x ∷ xs) ys = detector_after-append t (after_batch t d x) xs ys

pub taken_of-append : (t : Observers) (d : Detector) (xs ys : List (List Alert)) → taken_of t d (xs ++ ys) ≡ taken_of t d xs ++ taken_of t (detector_after t d xs) ys
taken_of-append t d [] ys = refl
taken_of-append t d (x ∷ xs) ys = ap (λ l. batch_taken t d x ++ l) (taken_of-append t (after_batch t d x) xs ys) ∙ sym (Rattle.std.proofs.Common.append_assoc (batch_taken t d x) (taken_of t (after_batch t d x) xs) (taken_of t (detector_after t (after_batch t d x) xs) ys))

-- ---- its direct reports are those of the alerts taken

in_with : (r : Reports) (xs : List Alert) (q : Report) → set.contains (with_alerts r xs) q ≡ (set.contains r q || list_any (eq_by_cmp report_cmp q) (map report_of xs))
in_with r xs q = set.contains-union reports_total r (set.from_list (map report_of xs)) q ∙ ap (λ b. set.contains r q || b) (set.contains-from_list reports_total (map report_of xs) q)

any-append : (f : Report → Bool) (xs ys : List Alert) → list_any f (map report_of (xs ++ ys)) ≡ (list_any f (map report_of xs) || list_any f (map report_of ys))
any-append f xs ys = ap (list_any f) (map-append report_of xs ys) ∙ list_any-append f (map report_of xs) (map report_of ys)

pub with_none : (r : Reports) → with_alerts r [] ≡ r
with_none r = set.same_set reports_total reports_exact (with_alerts r []) r (λ q. in_with r [] q ∙ or-false (set.contains r q))

with-append : (r : Reports) (xs ys : List Alert) → with_alerts r (xs ++ ys) ≡ with_alerts (with_alerts r xs) ys
with-append r xs ys =
    set.same_set reports_total reports_exact _ _
    (λ q. in_with r (xs ++ ys) q ∙ ap (λ b. set.contains r q || b) (any-append (eq_by_cmp report_cmp q) xs ys)
    ∙ sym (or_assoc (set.contains r q) (list_any (eq_by_cmp report_cmp q) (map report_of xs)) (list_any (eq_by_cmp report_cmp q) (map report_of ys)))
    ∙ sym (in_with (with_alerts r xs) ys q ∙ ap (λ b. b || list_any (eq_by_cmp report_cmp q) (map report_of ys)) (in_with r xs q)))

after_direct : (t : Observers) (d : Detector) (xs : List Alert) → (after_batch t d xs).direct ≡ with_alerts d.direct (batch_taken t d xs)
unfolding after_batch
after_direct t d xs = refl

direct_taken : (t : Observers) (d : Detector) (batches : List (List Alert)) → (detector_after t d batches).direct ≡ with_alerts d.direct (taken_of t d batches)
direct_taken t d [] = sym (with_none d.direct)
direct_taken t d (xs ∷ batches) =
    direct_taken t (after_batch t d xs) batches
    ∙ ap (λ r. with_alerts r (taken_of t (after_batch t d xs) batches)) (after_direct t d xs)
    ∙ sym (with-append d.direct (batch_taken t d xs) (taken_of t (after_batch t d xs) batches))

abbrev pub AllFormed : Observers → List Alert → Type 0
AllFormed t xs = (a : Alert) → In xs a → is_well_formed t a ≡ true

formed_taken : (t : Observers) (r : Reports) (xs : List Alert) → AllFormed t (taken t r xs)
formed_taken t r [] a h = absurd h
formed_taken t r (x ∷ xs) a h =
    cond_both (is_taken t r x) (x ∷ taken t (set.insert r (report_of x)) xs) (taken t r xs) (λ l. In l a → is_well_formed t a ≡ true)
    (λ e i. elim i [ inl s ↦ subst (λ z. is_well_formed t z ≡ true) s (and_parts _ _ e).0 | inr j ↦ formed_taken t (set.insert r (report_of x)) xs a j ])
    (λ e. formed_taken t r xs a) h

formed_batch : (t : Observers) (d : Detector) (xs : List Alert) → AllFormed t (batch_taken t d xs)
formed_batch t d xs a h = cond_both d.closed [] (taken t d.direct xs) (λ l. In l a → is_well_formed t a ≡ true) (λ e i. absurd i) (λ e. formed_taken t d.direct xs a) h

pub formed_all : (t : Observers) (d : Detector) (batches : List (List Alert)) → AllFormed t (taken_of t d batches)
formed_all t d [] a h = absurd h
formed_all t d (xs ∷ batches) a h = elim (in_split (batch_taken t d xs) (taken_of t (after_batch t d xs) batches) a h) [ inl i ↦ formed_batch t d xs a i | inr i ↦ formed_all t (after_batch t d xs) batches a i ]

all_kept : (t : Observers) (xs : List Alert) → AllFormed t xs → filter (is_well_formed t) xs ≡ xs
all_kept t [] h = refl
all_kept t (x ∷ xs) h = ap (λ b. cond b (x ∷ filter (is_well_formed t) xs) (filter (is_well_formed t) xs)) (h x (inl refl)) ∙ ap (λ l. x ∷ l) (all_kept t xs (λ a i. h a (inr i)))

from_nothing : (xs : List Alert) → with_alerts set.empty xs ≡ set.from_list (map report_of xs)
from_nothing xs =
    set.same_set reports_total reports_exact (with_alerts set.empty xs) (set.from_list (map report_of xs))
    (λ q. in_with set.empty xs q ∙ ap (λ b. b || list_any (eq_by_cmp report_cmp q) (map report_of xs)) (set.contains-empty report_cmp q) ∙ sym (set.contains-from_list reports_total (map report_of xs) q))

pub direct_is : (t : Observers) (batches : List (List Alert)) → (detector_after t empty_detector batches).direct ≡ direct_reports t (taken_of t empty_detector batches)
direct_is t batches =
    direct_taken t empty_detector batches ∙ from_nothing (taken_of t empty_detector batches)
    ∙ ap (λ l. set.from_list (map report_of l)) (sym (all_kept t (taken_of t empty_detector batches) (formed_all t empty_detector batches)))

-- ---- through a member's life

pub observers_id : (c : Configuration) → (observers_of c).id ≡ configuration_id c
unfolding observers_of
observers_id c = refl

pub record DetectorKept (heard : List Message) (s : MemberState) : Type 0 where
  pub state : s.detector ≡ detector_after (observers_of s.config) empty_detector (batches_of (current_id s) heard)
  -- what is proposed is the cut of the alerts taken
  pub cut : (v : Cut) → s.proposal ≡ Some v → cut_of (observers_of s.config) s.detector.direct ≡ Some v

abbrev batch_of : List ℕ → Option Message → Option (List Alert)
batch_of id None = None
batch_of id (Some m) = batch_in id m.sender m.body

batches_push : (id : List ℕ) (heard : List Message) (m : Option Message) → batch_of id m ≡ None → batches_of id (push heard m) ≡ batches_of id heard
batches_push id heard None h = refl
batches_push id heard (Some m) h = filter_map-append (λ (x : Message). batch_in id x.sender x.body) heard (m ∷ []) ∙ ap (λ o. batches_of id heard ++ cons_option o []) h ∙ append-nil (batches_of id heard)

detector_stays : (heard : List Message) (m : Option Message) (s t : MemberState) → batch_of (current_id s) m ≡ None → t.config ≡ s.config → t.detector ≡ s.detector → t.proposal ≡ s.proposal → DetectorKept heard s → DetectorKept (push heard m) t
detector_stays heard m s t none config detector proposal k =
    record {
      state = detector ∙ k.state ∙ ap (detector_after (observers_of s.config) empty_detector) (sym (batches_push (current_id s) heard m none))
          ∙ ap (λ c. detector_after (observers_of c) empty_detector (batches_of (configuration_id c) (push heard m))) (sym config);
      cut = λ v e. ap (λ c. cut_of (observers_of c) t.detector.direct) config ∙ ap (λ (d : Detector). cut_of (observers_of s.config) d.direct) detector ∙ k.cut v (sym proposal ∙ e);
    }

-- a batch is heard
one_batch : (heard : List Message) (s : MemberState) (from : Process) (xs : List AlertItem) → DetectorKept heard s →
    after_batch (observers_of s.config) s.detector (batch_alerts from (current_id s) xs) ≡ detector_after (observers_of s.config) empty_detector (batches_of (current_id s) (heard ++ message from (Batch (current_id s) xs) ∷ []))
one_batch heard s from xs k =
    ap (λ d. after_batch (observers_of s.config) d (batch_alerts from (current_id s) xs)) k.state
    ∙ sym (ap (detector_after (observers_of s.config) empty_detector) (filter_map-append (λ (x : Message). batch_in (current_id s) x.sender x.body) heard (message from (Batch (current_id s) xs) ∷ [])
    ∙ ap (λ b. batches_of (current_id s) heard ++ cons_option (cond b (Some (batch_alerts from (current_id s) xs)) None) []) ((same_bytes_decides (current_id s) (current_id s)).1 refl))
    ∙ detector_after-append (observers_of s.config) empty_detector (batches_of (current_id s) heard) (batch_alerts from (current_id s) xs ∷ []))

-- once it is closed, it takes nothing more
closed_same : (t : Observers) (d : Detector) (xs : List Alert) → d.closed ≡ true → (after_batch t d xs).direct ≡ d.direct
closed_same t d xs e = after_direct t d xs ∙ ap (λ b. with_alerts d.direct (cond b [] (taken t d.direct xs))) e ∙ with_none d.direct

cut_then : (t : Observers) (d : Detector) (xs : List Alert) (v : Cut) → batch_cut t d xs ≡ Some v → cut_of t (after_batch t d xs).direct ≡ Some v
unfolding batch_cut
cut_then t d xs v h =
    ap (cut_of t) (after_direct t d xs)
    ∙ cond_both d.closed None (cut_of t (with_alerts d.direct (batch_taken t d xs))) (λ o. o ≡ Some v → cut_of t (with_alerts d.direct (batch_taken t d xs)) ≡ Some v) (λ e g. cc) (λ e g. g) h

not_same : (id i : List ℕ) → same_bytes i id ≡ false → same_bytes id i ≡ false
not_same id i h =
    false_from_ne_true _ (λ e. let t = (same_bytes_decides i id).1 (sym ((same_bytes_decides id i).0 e)) in let wrong : true ≡ false = sym t ∙ h in cc)

idle_none : (s : MemberState) (from : Process) (b : Body) → IsIdle s from b → batch_of (current_id s) (Some (message from b)) ≡ None
idle_none s from (Batch id xs) h = ap (λ b. cond b (Some (batch_alerts from id xs)) None) (not_same (current_id s) id h)
idle_none s from x h = refl

-- a batch was heard
detector_hears : (acts : List Act) (heard : List Message) (s t : MemberState) (from : Process) (xs : List AlertItem) → VoteKept acts s → DetectorKept heard s → t.config ≡ s.config →
    t.detector ≡ after_batch (observers_of s.config) s.detector (batch_alerts from (current_id s) xs) → (t.proposal ≡ s.proposal) ⊎ ((v : Cut) × (t.proposal ≡ Some v) × (batch_cut (observers_of s.config) s.detector (batch_alerts from (current_id s) xs) ≡ Some v)) →
    DetectorKept (heard ++ message from (Batch (current_id s) xs) ∷ []) t
detector_hears acts heard s t from xs v k config is proposal =
    record {
      state = is ∙ one_batch heard s from xs k ∙ ap (λ c. detector_after (observers_of c) empty_detector (batches_of (configuration_id c) (heard ++ message from (Batch (current_id s) xs) ∷ []))) (sym config);
      cut = λ u e. ap (λ c. cut_of (observers_of c) t.detector.direct) config ∙ ap (λ (d : Detector). cut_of (observers_of s.config) d.direct) is ∙ by u e proposal;
    }
  where
    by : (u : Cut) → t.proposal ≡ Some u → (t.proposal ≡ s.proposal) ⊎ ((v : Cut) × (t.proposal ≡ Some v) × (batch_cut (observers_of s.config) s.detector (batch_alerts from (current_id s) xs) ≡ Some v)) →
        cut_of (observers_of s.config) (after_batch (observers_of s.config) s.detector (batch_alerts from (current_id s) xs)).direct ≡ Some u
    by u e (inl same) =
        ap (cut_of (observers_of s.config)) (closed_same (observers_of s.config) s.detector (batch_alerts from (current_id s) xs) (v.closes ∙ ap is_some (sym same ∙ e))) ∙ k.cut u (sym same ∙ e)
    by u e (inr r) = cut_then (observers_of s.config) s.detector (batch_alerts from (current_id s) xs) r.0 r.2 ∙ ap Some (same_Some _ _ (sym r.1 ∙ e))

detector_kept : (acts : List Act) (heard : List Message) (s : MemberState) (a : Option Act) (m : Option Message) (t : MemberState) (d : Option Cut) → Atom acts heard s a m t d → VoteKept acts s → DetectorKept heard s → DetectorKept (push heard m) t
detector_kept acts heard s _ _ _ _ (hears_batch from xs known e) v k = detector_hears acts heard s _ from xs v k refl refl (inl refl)
detector_kept acts heard s _ _ _ _ (proposes from xs u known e) v k = detector_hears acts heard s _ from xs v k refl refl (inr (u, refl, e))
detector_kept acts heard s _ _ _ _ (ignores from b known idle) v k = detector_stays heard (Some (message from b)) s s (idle_none s from b idle) refl refl refl k
detector_kept acts heard s _ _ _ _ (marks x h) v k = k
detector_kept acts heard s a m t d x v k = detector_stays heard m s t refl refl refl refl k

pub lives_detector : (c : Configuration) (me : Process) (acts : List Act) (heard : List Message) (s : MemberState) (d : Option Cut) → Lives c me acts heard s d → DetectorKept heard s
unfolding fresh_member
lives_detector c me _ _ _ _ (enters k at) = record { state = refl; cut = λ v e. cc }
lives_detector c me _ _ _ _ (does acts heard s a m t d l x) = detector_kept acts heard s a m t d x (lives_vote c me acts heard s None l) (lives_detector c me acts heard s None l)
lives_detector c me _ _ _ _ (leaves acts heard s v a l mark) = lives_detector c me acts heard s (Some v) l

-- if all that was taken was heard, its direct reports are those of the alerts taken
pub detector_taken : (acts : List Act) (heard : List Message) (s : MemberState) → DetectorKept heard s → heard ≡ taken_in s.me acts → s.detector.direct ≡ direct_reports (observers_of s.config) (alerts_taken (observers_of s.config) s.me acts)
detector_taken acts heard s k sync =
    ap (λ (d : Detector). d.direct) k.state ∙ direct_is (observers_of s.config) (batches_of (current_id s) heard)
    ∙ ap (λ bs. direct_reports (observers_of s.config) (taken_of (observers_of s.config) empty_detector bs)) (ap (batches_of (current_id s)) sync ∙ ap (λ id. batches_of id (taken_in s.me acts)) (sym (observers_id s.config)))

-- ---- as many ticks as the age of a process says, it was unstable at each tick of a stretch of acts that ends now

-- a stretch of acts that ends now has n ticks or more, and q was unstable at each
pub record Unstable (t : Observers) (p q : Process) (acts : List Act) (n : ℕ) : Type 0 where
  pub before : List Act
  pub stretch : List Act
  pub splits : acts ≡ before ++ stretch
  pub long : n ≤ count_by is_tick stretch
  pub through : IsUnstableThrough t p q before stretch

not_within : {A : Type 0} (xs ys : List A) (x : A) → [] ≡ xs ++ x ∷ ys → ⊥
not_within [] ys x e = cc
not_within (z ∷ xs) ys x e = cc

no_stretch : (t : Observers) (p q : Process) (acts : List Act) (n : ℕ) → n ≡ 0 → Unstable t p q acts n
no_stretch t p q acts n none = record { before = acts; stretch = []; splits = sym (append-nil acts); long = omega (arith, none); through = λ xs ys e. absurd (not_within xs ys Ticked e) }

ticks_more : (acts : List Act) (a : Act) → count_by is_tick (acts ++ a ∷ []) ≡ count_by is_tick acts + cond (is_tick a) 1 0
ticks_more acts a = sum_by-append (λ x. cond (is_tick x) 1 0) acts (a ∷ []) ∙ ap (λ n. count_by is_tick acts + n) (omega arith)

-- if a list ends in a, each of its elements is that a or stands before it
last_or_before : {A : Type 0} (xs ys front : List A) (x a : A) → front ++ a ∷ [] ≡ xs ++ x ∷ ys → ((front ≡ xs) × (a ≡ x)) ⊎ ((zs : List A) × (front ≡ xs ++ x ∷ zs))
last_or_before [] ys [] x a e = inl (refl, cc)
last_or_before [] ys (z ∷ front) x a e = let same : z ≡ x = cc in inr (front, ap (λ w. w ∷ front) same)
last_or_before (w ∷ xs) ys [] x a e = absurd (not_within xs ys x (let rest : [] ≡ xs ++ x ∷ ys = cc in rest))
last_or_before (w ∷ xs) ys (z ∷ front) x a e =
    let first : z ≡ w = cc in
    let rest : front ++ a ∷ [] ≡ xs ++ x ∷ ys = cc in
    elim (last_or_before xs ys front x a rest) [
      | inl h ↦ inl (cc, h.1)
      | inr h ↦ inr (h.0, cc)
    ]

-- one act more
stretch_more : (t : Observers) (p q : Process) (acts : List Act) (a : Act) (n m : ℕ) → (u : Unstable t p q acts n) → m ≤ count_by is_tick u.stretch + cond (is_tick a) 1 0 →
    (a ≡ Ticked → was_unstable t p q acts ≡ true) → Unstable t p q (acts ++ a ∷ []) m
stretch_more t p q acts a n m u long here =
    record {
      before = u.before;
      stretch = u.stretch ++ a ∷ [];
      splits = ap (λ l. l ++ a ∷ []) u.splits ∙ append_assoc u.before u.stretch (a ∷ []);
      long = subst (λ k. m ≤ k) (sym (ticks_more u.stretch a)) long;
      through = λ xs ys e. elim (last_or_before xs ys u.stretch Ticked a e) [
        | inl h ↦ subst (λ l. was_unstable t p q (u.before ++ l) ≡ true) h.0 (subst (λ l. was_unstable t p q l ≡ true) u.splits (here h.1))
        | inr h ↦ u.through xs h.0 h.1
      ];
    }

-- ---- the ages after a tick

next_age : (ages : map.FinMap process_cmp ℕ) (us : List Process) (q : Process) → (age_of (next_ages ages us) q ≡ 0) ⊎ (In us q × (age_of (next_ages ages us) q ≤ age_of ages q + 1))
next_age ages [] q = inl (ap (λ o. unwrap_or o 0) (map.get-empty process_cmp q))
next_age ages (p ∷ us) q = by (eq_by_cmp process_cmp q p) refl (next_age ages us q)
  where
    value : age_of (next_ages ages (p ∷ us)) q ≡ unwrap_or (cond (eq_by_cmp process_cmp q p) (Some (min 41 (age_of ages p + 1))) (map.get (next_ages ages us) q)) 0
    value = ap (λ o. unwrap_or o 0) (map.get-insert processes_total (next_ages ages us) p (min 41 (age_of ages p + 1)) q)

    by : (b : Bool) → eq_by_cmp process_cmp q p ≡ b → (age_of (next_ages ages us) q ≡ 0) ⊎ (In us q × (age_of (next_ages ages us) q ≤ age_of ages q + 1)) → (age_of (next_ages ages (p ∷ us)) q ≡ 0) ⊎ (In (p ∷ us) q × (age_of (next_ages ages (p ∷ us)) q ≤ age_of ages q + 1))
    by true e k =
        let same : q ≡ p = (tie_decides processes_total processes_exact q p).0 e in
        let is : age_of (next_ages ages (p ∷ us)) q ≡ min 41 (age_of ages q + 1) = value ∙ ap (λ b. unwrap_or (cond b (Some (min 41 (age_of ages p + 1))) (map.get (next_ages ages us) q)) 0) e ∙ ap (λ z. min 41 (age_of ages z + 1)) (sym same) in
        inr (inl (sym same), subst (λ n. n ≤ age_of ages q + 1) (sym is) (omega arith))
    by false e k =
        let is : age_of (next_ages ages (p ∷ us)) q ≡ age_of (next_ages ages us) q = value ∙ ap (λ b. unwrap_or (cond b (Some (min 41 (age_of ages p + 1))) (map.get (next_ages ages us) q)) 0) e in
        elim k [ inl z ↦ inl (is ∙ z) | inr z ↦ inr (inr z.0, subst (λ n. n ≤ age_of ages q + 1) (sym is) z.1) ]

-- ---- through a member's life

pub record AgesKept (acts : List Act) (s : MemberState) : Type 0 where
  pub young : (q : Process) → Unstable (observers_of s.config) s.me q acts (age_of s.ages q)

abbrev ticks_now : Option Act → Bool
ticks_now None = false
ticks_now (Some a) = is_tick a

mark_no_tick : (a : Act) → IsMark a → is_tick a ≡ false
mark_no_tick Ticked h = absurd h
mark_no_tick x h = refl

stretch_quiet : (t : Observers) (p q : Process) (acts : List Act) (o : Option Act) (n : ℕ) → ticks_now o ≡ false → Unstable t p q acts n → Unstable t p q (push acts o) n
stretch_quiet t p q acts None n h u = u
stretch_quiet t p q acts (Some a) n h u =
    stretch_more t p q acts a n n u (subst (λ b. n ≤ count_by is_tick u.stretch + cond b 1 0) (sym h) (omega (arith, u.long)))
    (λ e. let ticks : is_tick a ≡ true = ap is_tick e in cc)

ages_quiet : (acts : List Act) (o : Option Act) (s t : MemberState) → ticks_now o ≡ false → t.ages ≡ s.ages → t.config ≡ s.config → t.me ≡ s.me → AgesKept acts s → AgesKept (push acts o) t
ages_quiet acts o s t quiet ages config me k =
    record {
      young = λ q. subst (λ c. Unstable (observers_of c) t.me q (push acts o) (age_of t.ages q)) (sym config)
          (subst (λ p. Unstable (observers_of s.config) p q (push acts o) (age_of t.ages q)) (sym me)
          (subst (λ a. Unstable (observers_of s.config) s.me q (push acts o) (age_of a q)) (sym ages) (stretch_quiet (observers_of s.config) s.me q acts o (age_of s.ages q) quiet (k.young q))));
    }

-- what is unstable now was unstable in the alerts taken
unstable_was : (acts : List Act) (s : MemberState) (q : Process) → s.detector.direct ≡ direct_reports (observers_of s.config) (Rattle.rapid_model.specs.Justified.alerts_taken (observers_of s.config) s.me acts) → In (unstable_now (clock_moved s)) q → was_unstable (observers_of s.config) s.me q acts ≡ true
unfolding unstable_now
unstable_was acts s q direct h =
    subst (λ d. is_unstable (observers_of s.config) (reports (observers_of s.config) d) q ≡ true) direct
    (passes_filter (is_unstable (observers_of s.config) (reports (observers_of s.config) s.detector.direct)) (subjects s.detector.direct) q h)

next_young : (acts : List Act) (s : MemberState) (q : Process) → s.detector.direct ≡ direct_reports (observers_of s.config) (Rattle.rapid_model.specs.Justified.alerts_taken (observers_of s.config) s.me acts) → AgesKept acts s →
    Unstable (observers_of s.config) s.me q (acts ++ Ticked ∷ []) (age_of (next_ages s.ages (unstable_now (clock_moved s))) q)
next_young acts s q direct k = by (next_age s.ages (unstable_now (clock_moved s)) q)
  where
    t : Observers
    t = observers_of s.config

    age : ℕ
    age = age_of (next_ages s.ages (unstable_now (clock_moved s))) q

    u : Unstable t s.me q acts (age_of s.ages q)
    u = k.young q

    by : (age ≡ 0) ⊎ (In (unstable_now (clock_moved s)) q × (age ≤ age_of s.ages q + 1)) → Unstable t s.me q (acts ++ Ticked ∷ []) age
    by (inl z) = no_stretch t s.me q (acts ++ Ticked ∷ []) age z
    by (inr z) = stretch_more t s.me q acts Ticked (age_of s.ages q) age u (omega (arith, z.1, u.long)) (λ e. unstable_was acts s q direct z.0)

ages_kept : (acts : List Act) (heard : List Message) (s : MemberState) (a : Option Act) (m : Option Message) (t : MemberState) (d : Option Cut) → Atom acts heard s a m t d → DetectorKept heard s → AgesKept acts s → AgesKept (push acts a) t
ages_kept acts heard s _ _ _ _ (marks x h) k g = ages_quiet acts (Some x) s s (mark_no_tick x h) refl refl refl g
ages_kept acts heard s _ _ _ _ (ticks sync) k g = record { young = λ q. next_young acts s q (detector_taken acts heard s k sync) g }
ages_kept acts heard s a m t d x k g = ages_quiet acts a s t refl refl refl refl g

pub lives_ages : (c : Configuration) (me : Process) (acts : List Act) (heard : List Message) (s : MemberState) (d : Option Cut) → Lives c me acts heard s d → AgesKept acts s
unfolding fresh_member
lives_ages c me _ _ _ _ (enters k at) = record { young = λ q. no_stretch (observers_of (fresh_member c me).config) me q [] (age_of (fresh_member c me).ages q) (ap (λ o. unwrap_or o 0) (map.get-empty process_cmp q)) }
lives_ages c me _ _ _ _ (does acts heard s a m t d l x) = ages_kept acts heard s a m t d x (lives_detector c me acts heard s None l) (lives_ages c me acts heard s None l)
lives_ages c me _ _ _ _ (leaves acts heard s v a l mark) = ages_quiet acts (Some a) s s (mark_no_tick a mark) refl refl refl (lives_ages c me acts heard s (Some v) l)

-- ---- each alert that a member raised is well-formed and has a cause

-- what causes an alert of a kind, in the acts of me in c
abbrev pub CauseIn : Configuration → Process → List Act → Alert → Kind → Type 0
CauseIn c me acts a Remove =
    HasDownStretch (filter_map (result_on a.ring) acts) ⊎ In (taken_in me acts) (message a.subject (Leave (configuration_id c) a.ring))
CauseIn c me acts a Join = In (taken_in me acts) (message a.subject (JoinRequest (configuration_id c) a.ring))

-- in some stretch of acts it was unstable for long
abbrev pub EchoIn : Configuration → Process → List Act → Process → Type 0
EchoIn c me acts q = (before : List Act) × (stretch : List Act) × (after : List Act) × (acts ≡ before ++ (stretch ++ after)) × (40 ≤ count_by is_tick stretch) × IsUnstableThrough (observers_of c) me q before stretch

pub record Sound (c : Configuration) (me : Process) (acts : List Act) (a : Alert) : Type 0 where
  pub formed : is_well_formed (observers_of c) a ≡ true
  pub own : a.observer ≡ me
  pub about : a.config ≡ configuration_id c
  pub cause : CauseIn c me acts a a.kind ⊎ EchoIn c me acts a.subject

-- ---- a cause stays

pub down_more : (xs ys : List Bool) → HasDownStretch xs → HasDownStretch (xs ++ ys)
down_more xs ys h = (h.0, h.1, h.2 ++ ys, ap (λ l. l ++ ys) h.3 ∙ append_assoc h.0 (h.1 ++ h.2) ys ∙ ap (λ l. h.0 ++ l) (append_assoc h.1 h.2 ys), h.4, h.5)

cause_more : (c : Configuration) (me : Process) (acts more : List Act) (a : Alert) (k : Kind) → CauseIn c me acts a k → CauseIn c me (acts ++ more) a k
cause_more c me acts more a Remove (inl h) = inl (subst HasDownStretch (sym (filter_map-append (result_on a.ring) acts more)) (down_more _ _ h))
cause_more c me acts more a Remove (inr h) =
    inr (subst (λ l. In l (message a.subject (Leave (configuration_id c) a.ring))) (sym (filter_map-append (taken_by me) acts more)) (in_left (taken_in me acts) _ _ h))
cause_more c me acts more a Join h = subst (λ l. In l (message a.subject (JoinRequest (configuration_id c) a.ring))) (sym (filter_map-append (taken_by me) acts more)) (in_left (taken_in me acts) _ _ h)

echo_more : (c : Configuration) (me : Process) (acts more : List Act) (q : Process) → EchoIn c me acts q → EchoIn c me (acts ++ more) q
echo_more c me acts more q h =
    (h.0, h.1, h.2 ++ more, ap (λ l. l ++ more) h.3 ∙ append_assoc h.0 (h.1 ++ h.2) more ∙ ap (λ l. h.0 ++ l) (append_assoc h.1 h.2 more), h.4, h.5)

pub sound_grows : (c : Configuration) (me : Process) (acts more : List Act) (a : Alert) → Sound c me acts a → Sound c me (acts ++ more) a
sound_grows c me acts more a s = record { formed = s.formed; own = s.own; about = s.about; cause = elim s.cause [ inl h ↦ inl (cause_more c me acts more a a.kind h) | inr h ↦ inr (echo_more c me acts more a.subject h) ] }

sound_more : (c : Configuration) (me : Process) (acts : List Act) (o : Option Act) (a : Alert) → Sound c me acts a → Sound c me (push acts o) a
sound_more c me acts None a s = s
sound_more c me acts (Some x) a s = sound_grows c me acts (x ∷ []) a s

-- ---- what is raised

raised_or_new : (t : Observers) (me : Process) (o : Outbox) (a b : Alert) → In (raise t me o a).raised b → In o.raised b ⊎ ((a ≡ b) × (is_well_formed t a ≡ true) × (a.observer ≡ me) × (a.config ≡ t.id))
raised_or_new t me o a b h =
    elim (raise_goes t me o a) [
      | inl e ↦ inl (subst (λ l. In l b) e h)
      | inr r ↦ elim (in_split o.raised (a ∷ []) b (subst (λ l. In l b) r.0 h)) [
        | inl j ↦ inl j
        | inr j ↦ elim j [ inl s ↦ inr (s, formed r.1 r.2 r.3, (same_bytes_decides _ _).0 (and_parts _ _ (and_parts _ _ r.2).0).0, (same_bytes_decides _ _).0 r.1) | inr n ↦ absurd n ]
      ]
    ]
  where
    formed : same_bytes a.config t.id ≡ true → is_own t me a ≡ true → kind_fits t a ≡ true → is_well_formed t a ≡ true
    formed e f g =
        let x = and_parts _ _ f in
        let y = and_parts _ _ x.0 in
        let same : a.observer ≡ me = (same_bytes_decides a.observer me).0 y.0 in
        and_from _ _ (and_from _ _ (and_from _ _ y.1 (subst (λ p. observes t p a.ring a.subject ≡ true) (sym same) x.1)) e) g

raised_stays : (t : Observers) (me : Process) (o : Outbox) (a b : Alert) → In o.raised b → In (raise t me o a).raised b
raised_stays t me o a b h = elim (raise_goes t me o a) [ inl e ↦ subst (λ l. In l b) (sym e) h | inr r ↦ subst (λ l. In l b) (sym r.0) (in_left o.raised (a ∷ []) b h) ]

asked_kind : (c : Configuration) (j : Process) → is_member c j ≡ false → kind_for (observers_of c) j ≡ Join
unfolding observers_of
asked_kind c j e = ap (λ b. cond b Remove Join) e

caused : (acts : List Act) (s : MemberState) (a : Alert) → AgesKept acts s → HasReason acts s a → CauseIn s.config s.me acts a a.kind ⊎ EchoIn s.config s.me acts a.subject
caused acts s _ k (asked_to j n off known) = inl (subst (CauseIn s.config s.me acts (alert_on s j n)) (sym (asked_kind s.config j off)) known)
caused acts s _ k (went_down id n q h) = inl (inl h)
caused acts s _ k (wants_out q n known) = inl (inr known)
caused acts s _ k (echoes q n e) =
    let u : Unstable (observers_of s.config) s.me q acts (age_of s.ages q) = k.young q in
    inr (u.before, u.stretch, [], u.splits ∙ ap (λ l. u.before ++ l) (sym (append-nil u.stretch)), subst (λ m. m ≤ count_by is_tick u.stretch) e u.long, u.through)

-- ---- through a member's life

pub record ReasonsKept (acts : List Act) (s : MemberState) : Type 0 where
  pub sound : (a : Alert) → In s.outbox.raised a → Sound s.config s.me acts a
  -- the alerts of a batch were raised
  pub said : (id : List ℕ) (xs : List AlertItem) → Said acts (Batch id xs) → (a : Alert) → In (batch_alerts s.me id xs) a → In s.outbox.raised a

-- what is raised has a cause
sound_kept : (acts : List Act) (heard : List Message) (s : MemberState) (a : Option Act) (m : Option Message) (t : MemberState) (d : Option Cut) → Atom acts heard s a m t d → AgesKept acts s →
    ((b : Alert) → In s.outbox.raised b → Sound s.config s.me acts b) → (b : Alert) → In t.outbox.raised b → Sound t.config t.me (push acts a) b
sound_kept acts heard s _ _ _ _ (marks x h) ages k b i = sound_more s.config s.me acts (Some x) b (k b i)
sound_kept acts heard s _ _ _ _ (raises x r) ages k b i =
    elim (raised_or_new (observers_of s.config) s.me s.outbox x b i) [
      | inl j ↦ k b j
      | inr j ↦ subst (Sound s.config s.me acts) j.0 (record { formed = j.1; own = j.2; about = j.3 ∙ observers_id s.config; cause = caused acts s x ages r })
    ]
sound_kept acts heard s a m t d x ages k b i = sound_more s.config s.me acts a b (k b i)

-- and stays raised
raised_kept : (acts : List Act) (heard : List Message) (s : MemberState) (a : Option Act) (m : Option Message) (t : MemberState) (d : Option Cut) → Atom acts heard s a m t d → (b : Alert) → In s.outbox.raised b → In t.outbox.raised b
raised_kept acts heard s _ _ _ _ (marks x h) b i = i
raised_kept acts heard s _ _ _ _ (raises x r) b i = raised_stays (observers_of s.config) s.me s.outbox x b i
raised_kept acts heard s a m t d x b i = i

in_first : (n : ℕ) (xs : List Alert) (a : Alert) → In (take n xs) a → In xs a
in_first zero xs a h = absurd h
in_first (suc n) [] a h = h
in_first (suc n) (x ∷ xs) a (inl s) = inl s
in_first (suc n) (x ∷ xs) a (inr i) = inr (in_first n xs a i)

batch_said : (acts : List Act) (heard : List Message) (s : MemberState) (a : Option Act) (m : Option Message) (t : MemberState) (d : Option Cut) → Atom acts heard s a m t d → AreOwn s.me (current_id s) s.outbox.raised →
    (id : List ℕ) (xs : List AlertItem) → body_of a ≡ Some (Batch id xs) → (b : Alert) → In (batch_alerts s.me id xs) b → In s.outbox.raised b
batch_said acts heard s _ _ _ _ (marks x h) own id xs e b i = absurd (mark_body x _ h e)
batch_said acts heard s _ _ _ _ flushes own id xs e b i =
    let one : current_id s ≡ id = cc in
    let two : map item_of (unflushed s.outbox) ≡ xs = cc in
    let back = items_back s.me (current_id s) (unflushed s.outbox) (own_first s.me (current_id s) 2048 _ (own_drop s.me (current_id s) s.outbox.flushed s.outbox.raised own)) in
    let j : In (batch_alerts s.me (current_id s) (map item_of (unflushed s.outbox))) b = subst (λ z. In (batch_alerts s.me z (map item_of (unflushed s.outbox))) b) (sym one) (subst (λ z. In (batch_alerts s.me id z) b) (sym two) i) in
    in_drop s.outbox.flushed s.outbox.raised b (in_first 2048 (drop s.outbox.flushed s.outbox.raised) b (subst (λ l. In l b) back j))
batch_said acts heard s _ _ _ _ x own id xs e b i = cc

reasons_kept : (acts : List Act) (heard : List Message) (s : MemberState) (a : Option Act) (m : Option Message) (t : MemberState) (d : Option Cut) → Atom acts heard s a m t d → AreOwn s.me (current_id s) s.outbox.raised → AgesKept acts s → ReasonsKept acts s → ReasonsKept (push acts a) t
reasons_kept acts heard s a m t d x own ages k =
    record {
      sound = sound_kept acts heard s a m t d x ages k.sound;
      said = λ id xs h b i.
          let j : In (batch_alerts s.me id xs) b = subst (λ p. In (batch_alerts p id xs) b) (atom_me acts heard s a m t d x) i in
          let was : In s.outbox.raised b = elim (said_body acts a _ h) [ inl y ↦ k.said id xs y b j | inr y ↦ batch_said acts heard s a m t d x own id xs y b j ] in
          raised_kept acts heard s a m t d x b was;
    }

pub lives_reasons : (c : Configuration) (me : Process) (acts : List Act) (heard : List Message) (s : MemberState) (d : Option Cut) → Lives c me acts heard s d → ReasonsKept acts s
unfolding fresh_member
lives_reasons c me _ _ _ _ (enters k at) = record { sound = λ a i. absurd i; said = λ id xs h a i. absurd h.1 }
lives_reasons c me _ _ _ _ (does acts heard s a m t d l x) = reasons_kept acts heard s a m t d x (lives_own c me acts heard s None l) (lives_ages c me acts heard s None l) (lives_reasons c me acts heard s None l)
lives_reasons c me _ _ _ _ (leaves acts heard s v a l mark) =
    let k = lives_reasons c me acts heard s (Some v) l in
    record {
      sound = λ b i. sound_more s.config s.me acts (Some a) b (k.sound b i);
      said = λ id xs h b i. elim (said_body acts (Some a) (Batch id xs) h) [ inl y ↦ k.said id xs y b i | inr y ↦ absurd (mark_body a _ mark y) ];
    }

-- ---- each alert that was sent has a cause

-- an alert that is said stands in a batch
pub of_batch : (p : Process) (b : Body) (a : Alert) → In (alerts_said p b) a → (id : _) × (xs : List AlertItem) × (b ≡ Batch id xs) × In (batch_alerts p id xs) a
of_batch p (Batch id xs) a h = (id, xs, refl, h)
of_batch p x a h = absurd h

pub cause_here : (w : World) (c : Configuration) (me : Process) (a : Alert) (k : Kind) → a.observer ≡ me → CauseIn c me (acts_at w.log me c) a k → HasCause w c a k
cause_here w c me a Remove own (inl h) = inl (subst (λ p. HasDownStretch (results w p c a.ring)) (sym own) h)
cause_here w c me a Remove own (inr h) = inr (contains_from (received w a.observer c) _ (subst (λ p. In (received w p c) (message a.subject (Leave (configuration_id c) a.ring))) (sym own) h))
cause_here w c me a Join own h = contains_from (received w a.observer c) _ (subst (λ p. In (received w p c) (record { sender = a.subject; body = Rattle.rapid_model.specs.Message.JoinRequest (configuration_id c) a.ring })) (sym own) h)

-- what is sound is justified
pub justified : (w : World) (c : Configuration) (me : Process) (a : Alert) → Sound c me (acts_at w.log me c) a → IsJustified w c a
justified w c me a s =
    record {
      well_formed = s.formed;
      cause = elim s.cause [
        | inl h ↦ inl (cause_here w c me a a.kind s.own h)
        | inr h ↦ inr (subst (λ p. IsEchoed w p c a.subject) (sym s.own) h)
      ];
    }

-- if an alert was sent, its observer raised it in a configuration of its identifier
pub record RaisedIn (w : World) (a : Alert) : Type 0 where
  pub config : Configuration
  pub about : configuration_id config ≡ a.config
  pub was : (e : Entry) × In w.log e × (e.at ≡ Some config)
  pub sound : Sound config a.observer (acts_at w.log a.observer config) a

pub raised_in : (w : World) → Lived w → Asides w → (a : Alert) → SentAlert w a → RaisedIn w a
raised_in w lived asides a h =
    let r = of_flat (λ (m : Message). alerts_said m.sender m.body) (sent w) a (in_from _ a h) in
    let m = r.0 in
    let b = of_batch m.sender m.body a r.2 in
    let said : SaidIn w.log m.sender m.body = sent_said w.log m.sender m.body r.1 in
    let k = spoken w lived asides m.sender (Batch b.0 b.1) (subst (SaidIn w.log m.sender) b.2 said) (λ z. z) in
    let l = k.life in
    let reasons = lives_reasons k.config m.sender (acts_at w.log m.sender k.config) l.heard l.state l.decided l.life in
    let sound = reasons.sound a (reasons.said b.0 b.1 k.said a (subst (λ p. In (batch_alerts p b.0 b.1) a) l.me b.3)) in
    let here : Sound k.config m.sender (acts_at w.log m.sender k.config) a = subst (λ c. Sound c m.sender (acts_at w.log m.sender k.config) a) (sym l.config) (subst (λ p. Sound l.state.config p (acts_at w.log m.sender k.config) a) (sym l.me) sound) in
    let e = from_acts w.log m.sender k.config (Did (Says k.said.0 (Batch b.0 b.1))) k.said.1 in
    record { config = k.config; about = sym here.about; was = (e.0, e.1, e.3); sound = subst (λ p. Sound k.config p (acts_at w.log p k.config) a) (sym here.own) here }

pub alerts_are_justified : (c : Configuration) (es : List MarkedEvent) → AreMembers c.members → AlertsJustified (run es (founded c))
alerts_are_justified c es are a h =
    let w = run es (founded c) in
    let r = raised_in w (lived_run c es are) (asides_run c es) a h in
    (r.config, r.about, justified w r.config a.observer a r.sound)
