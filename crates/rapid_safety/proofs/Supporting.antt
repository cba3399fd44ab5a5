-- Each cut that a member proposed is supported by alerts that were sent, have a cause, and were taken.
use Rattle.std.proofs.Common.{◌≡◌, ℕ, Bool, true, false, cond, ◌&&◌, List, [], ◌∷◌, ◌++◌, map, filter, refl, sym, ap, subst, ◌∙◌, Option, Some, None, append_assoc, append-nil, ◌≤◌, ◌<◌, not, ◌||◌, arith, inl, inr, zero, suc, length}
use Rattle.rapid_safety.proofs.Basics.{filter_map, nat_lt, nat_le, Contains, flat_map, All, slice_index_or, filter_map-append, and_parts, and_from, cond_both, In, in_left, in_right, in_from, contains_from, same_bytes_decides, reports_exact, processes_total, reports_total, tie_decides, list_any, eq_by_cmp, or-true, and-false}
use Rattle.std.specs.FinSet as set
use Rattle.rapid_safety.proofs.Values.{Process, same_bytes, is_in, process_cmp, Cut, Configuration, AreMembers, AreParams, configuration_id, is_member, observers_of, Observers, rings, Message, apply, Alert, is_well_formed}
use Rattle.rapid_safety.proofs.Parts.{direct_reports, cut_of, Report, Reports, tally, reaches_low, is_implied, Includes, IsClosed, IsLeastClosed, reports, is_stable, subjects, stable, unstable, is_unstable, report_cmp, empty_detector}
use Rattle.rapid_safety.proofs.Working.{Node, Phase, Member, MemberState, Outcome, Event, member_in, member_config, node_step}
use Rattle.rapid_safety.proofs.Worlds.{World, Peer, Act, Probed, HasHalted, Crashed, Installed, Entry, MarkedEvent, entry, acts_of, run, founded, first_of, proposed_by, acts_in, sent, alerts_said, SentAlert, received, taken_by, alerts_taken, batches_in, IsJustified, NoCollision, IsSupport, IsSupported, IsReportedEnough}
use Rattle.rapid_model.proofs.Closure.{count_mono, least_closed}
use Rattle.rapid_model.proofs.Taken.{taken_were_received}
use Rattle.rapid_safety.specs.Proposals.{ProposalsSupported}
use Rattle.rapid_safety.proofs.Atoms.{taken_in, Lives, lives_config, lives_me, lives_member}
use Rattle.rapid_safety.proofs.NodeWorks.{Stepped, goes_on, installs}
use Rattle.rapid_safety.proofs.Histories.{acts_at, is_here, here_to, acts_here, acts_elsewhere, Lived, comes_steps, PastLife, was_not, was}
use Rattle.rapid_safety.proofs.Lived.{lived_founded, lived_kept, lived_run}
use Rattle.rapid_safety.proofs.Voting.{lives_vote}
use Rattle.rapid_safety.proofs.Alerts.{lives_detector, detector_taken, batches_of, taken_of-append, formed_all, observers_id, raised_in, justified}
use Rattle.rapid_safety.proofs.Steps.{Comes, by_tick, by_packet, by_probe, by_wish, Steps, stays, starts, notes, stops, moves, ends, run_keeps}
use Rattle.rapid_safety.proofs.Members.{member_at, in_of, exists_counted, of_flat, passes_filter}
use Rattle.rapid_safety.proofs.News.{from_acts, received_were_said}
use Rattle.rapid_safety.proofs.Speaking.{asides_run}
use Rattle.rapid_safety.proofs.Nodes.{WasInstalled, was_installed}
use Rattle.rapid_safety.proofs.Told.{present_run}
use Rattle.rapid_safety.proofs.Descent.{reached, descent_run}
use Rattle.rapid_model.proofs.InOrder.{any_in_order}
use Rattle.rapid_safety.specs.Cuts.{CutsAreWhole}
use Rattle.rapid_model.proofs.Among.{cut_parts, among_is}
use Rattle.std.proofs.lemmas.Bool.{leb-true, or_left, or_right}
use Rattle.std.proofs.lemmas.Option.{same_Some}

-- the first cut that was proposed in these acts
abbrev pub first_cut : List Act → Option Cut
first_cut acts = first_of (filter_map proposed_by acts)

-- at some time it was the cut of the alerts that me had taken in c
abbrev pub CutIn : Configuration → Process → List Act → Cut → Type 0
CutIn c me acts v = (before : List Act) × (after : List Act) × (acts ≡ before ++ after) × (cut_of (observers_of c) (direct_reports (observers_of c) (alerts_taken (observers_of c) me before)) ≡ Some v)

cut_grows : (c : Configuration) (me : Process) (acts more : List Act) (v : Cut) → CutIn c me acts v → CutIn c me (acts ++ more) v
cut_grows c me acts more v h = (h.0, h.1 ++ more, ap (λ l. l ++ more) h.2 ∙ append_assoc h.0 h.1 more, h.3)

-- a life in which all that was taken was heard
life_cut : (c : Configuration) (me : Process) (acts : List Act) (heard : List Message) (s : MemberState) (d : Option Cut) → Lives c me acts heard s d → heard ≡ taken_in me acts → (v : Cut) → first_cut acts ≡ Some v → CutIn c me acts v
life_cut c me acts heard s d l sync v h =
    let det = lives_detector c me acts heard s d l in
    let mine = lives_me c me acts heard s d l in
    let config = lives_config c me acts heard s d l in
    let own : s.proposal ≡ Some v = sym (lives_vote c me acts heard s d l).first ∙ h in
    let direct = detector_taken acts heard s det (sync ∙ ap (λ p. taken_in p acts) (sym mine)) in
    let cut : cut_of (observers_of s.config) (direct_reports (observers_of s.config) (alerts_taken (observers_of s.config) s.me acts)) ≡ Some v = ap (cut_of (observers_of s.config)) (sym direct) ∙ det.cut v own in (
      acts,
      [],
      sym (append-nil acts),
      subst (λ p. cut_of (observers_of c) (direct_reports (observers_of c) (alerts_taken (observers_of c) p acts)) ≡ Some v) mine
          (subst (λ x. cut_of (observers_of x) (direct_reports (observers_of x) (alerts_taken (observers_of x) s.me acts)) ≡ Some v) config cut),
    )

stepped_cut : (c : Configuration) (acts : List Act) (n : Node) (more : List Act) (m : Node) → Stepped c acts n more m → (v : Cut) → first_cut (acts ++ more) ≡ Some v → CutIn c n.me (acts ++ more) v
stepped_cut c acts n more _ (goes_on heard t life sync) v h = life_cut c n.me (acts ++ more) heard t None life sync v h
stepped_cut c acts n more _ (installs heard t u life full) v h = life_cut c n.me (acts ++ more) heard t (Some u) life full.1 v h

-- ---- in a world

unfoldable pub Proposals : World → Type 0
Proposals w = (p : Process) (c : Configuration) (v : Cut) → first_cut (acts_at w.log p c) ≡ Some v → CutIn c p (acts_at w.log p c) v

proposals_step : (w : World) (n : Node) (xs : List Act) → Proposals w →
    ((c : Configuration) → member_in n ≡ Some c → (v : Cut) → first_cut (acts_at w.log n.me c ++ xs) ≡ Some v → CutIn c n.me (acts_at w.log n.me c ++ xs) v) →
    (p : Process) (c : Configuration) (v : Cut) → first_cut (acts_at (w.log ++ map (entry n) xs) p c) ≡ Some v → CutIn c p (acts_at (w.log ++ map (entry n) xs) p c) v
unfolding Proposals
proposals_step w n xs old new p c v h = by (is_here p c n) refl
  where
    by : (b : Bool) → is_here p c n ≡ b → CutIn c p (acts_at (w.log ++ map (entry n) xs) p c) v
    by true e =
        let r = here_to p c n e in
        let is : acts_at (w.log ++ map (entry n) xs) p c ≡ acts_at w.log p c ++ xs = acts_here w.log p c n xs e in
        let first : first_cut (acts_at w.log p c ++ xs) ≡ Some v = ap first_cut (sym is) ∙ h in
        let mine : CutIn c n.me (acts_at w.log n.me c ++ xs) v = new c r.1 v (subst (λ q. first_cut (acts_at w.log q c ++ xs) ≡ Some v) r.0 first) in
        subst (λ a. CutIn c p a v) (sym is) (subst (λ q. CutIn c q (acts_at w.log q c ++ xs) v) (sym r.0) mine)
    by false e =
        let is : acts_at (w.log ++ map (entry n) xs) p c ≡ acts_at w.log p c = acts_elsewhere w.log p c n xs e in
        subst (λ a. CutIn c p a v) (sym is) (old p c v (ap first_cut (sym is) ∙ h))

-- if nothing is proposed
quiet_cut : (w : World) (n : Node) (xs : List Act) → Proposals w → filter_map proposed_by xs ≡ [] → (c : Configuration) (v : Cut) → first_cut (acts_at w.log n.me c ++ xs) ≡ Some v → CutIn c n.me (acts_at w.log n.me c ++ xs) v
unfolding Proposals
quiet_cut w n xs old none c v h =
    let same : first_cut (acts_at w.log n.me c ++ xs) ≡ first_cut (acts_at w.log n.me c) =
    ap first_of (filter_map-append proposed_by (acts_at w.log n.me c) xs ∙ ap (λ l. filter_map proposed_by (acts_at w.log n.me c) ++ l) none ∙ append-nil (filter_map proposed_by (acts_at w.log n.me c))) in
    cut_grows c n.me (acts_at w.log n.me c) xs v (old n.me c v (sym same ∙ h))

quiet_halt : (w : World) (i : ℕ) (p : Peer) (before : List Act) (e : Event) → Comes w i p before e → filter_map proposed_by (before ++ HasHalted ∷ []) ≡ []
quiet_halt w i p _ _ (by_tick _ at) = refl
quiet_halt w i p _ _ (by_packet _ x at sent to) = refl
quiet_halt w i p _ _ (by_wish _ at) = refl
quiet_halt w i _ _ _ (by_probe p c k s ok at ob down) = refl

move_cut : (w : World) → Lived w → (i : ℕ) (p : Peer) (before : List Act) (e : Event) (o : Outcome) → Comes w i p before e → node_step p.node e ≡ Some o →
    (c : Configuration) → member_in p.node ≡ Some c → (v : Cut) → first_cut (acts_at w.log p.node.me c ++ acts_of before p.node o) ≡ Some v → CutIn c p.node.me (acts_at w.log p.node.me c ++ acts_of before p.node o) v
move_cut w lived i p before e o comes h c member v first = by p.node.phase refl
  where
    by : (ph : Phase) → p.node.phase ≡ ph → CutIn c p.node.me (acts_at w.log p.node.me c ++ acts_of before p.node o) v
    by (Member s) at =
        let same : s.config ≡ c = same_Some _ _ (sym (ap member_config at) ∙ member) in
        let step = subst (λ x. Stepped x (acts_at w.log p.node.me x) p.node (acts_of before p.node o) o.node) same (comes_steps w lived i p before e s o comes at h) in
        stepped_cut c (acts_at w.log p.node.me c) p.node (acts_of before p.node o) o.node step v first
    by ph at = let wrong : None ≡ Some c = sym (ap member_config at) ∙ member in cc

proposals_kept : (w v : World) → Steps w v → Lived w → Proposals w → Proposals v
unfolding Proposals
proposals_kept w _ stays lived k = k
proposals_kept w _ (starts p seed r) lived k = k
proposals_kept w _ (notes i p c j s ok at ob) lived k = proposals_step w p.node (Probed j ok ∷ []) k (λ d m v. quiet_cut w p.node (Probed j ok ∷ []) k refl d v)
proposals_kept w _ (stops i p before e c r) lived k = proposals_step w p.node (before ++ HasHalted ∷ []) k (λ d m v. quiet_cut w p.node (before ++ HasHalted ∷ []) k (quiet_halt w i p before e c) d v)
proposals_kept w _ (moves i p before e o c r st) lived k = proposals_step w p.node (acts_of before p.node o) k (move_cut w lived i p before e o c st)
proposals_kept w _ (ends i p at) lived k = proposals_step w p.node (Crashed ∷ []) k (λ d m v. quiet_cut w p.node (Crashed ∷ []) k refl d v)

opening_none : (c : Configuration) (ms : List Process) (me : Process) (d : Configuration) → first_cut (acts_at (map (λ p. record { who = p; at = None; act = Installed c }) ms) me d) ≡ None
opening_none c [] me d = refl
opening_none c (m ∷ ms) me d = rw and-false (opening_none c ms me d)

pub proposals_run : (c : Configuration) (es : List MarkedEvent) → AreMembers c.members → Proposals (run es (founded c))
unfolding Proposals
proposals_run c es are =
    (run_keeps (λ w. Lived w × Proposals w) (λ w v s h. (lived_kept w v s h.0, proposals_kept w v s h.0 h.1)) es (founded c)
    (lived_founded c are, (λ p d v h. let z : None ≡ Some v = sym (opening_none c c.members p d) ∙ h in cc))).1

-- ---- a stable process has at least L direct reports

module _ (t : Observers) (direct : Reports) (s : Process) where
  -- the reports, but on s only the direct ones
  stays_in : Report → Bool
  stays_in x = not (same_bytes x.0 s) || set.contains direct x

  fewer : Reports → Reports
  fewer r = set.retain r stays_in

  in_fewer : (r : Reports) (x : Report) → set.contains (fewer r) x ≡ (set.contains r x && stays_in x)
  unfolding fewer
  in_fewer r x = set.contains-retain r stays_in x (λ y e. ap stays_in (sym (reports_exact x y e)))

  direct_stays : (x : Report) → set.contains direct x ≡ true → stays_in x ≡ true
  unfolding stays_in
  direct_stays x h = ap (λ b. not (same_bytes x.0 s) || b) h ∙ or-true (not (same_bytes x.0 s))

  other_stays : (x : Report) → same_bytes x.0 s ≡ false → stays_in x ≡ true
  unfolding stays_in
  other_stays x h = ap (λ b. not b || set.contains direct x) h

  own_direct : (x : Report) → same_bytes x.0 s ≡ true → stays_in x ≡ true → set.contains direct x ≡ true
  unfolding stays_in
  own_direct x h k = ap (λ b. not b || set.contains direct x) (sym h) ∙ k

  reaches_more : (q r : Reports) → ((x : Report) → set.contains q x ≡ true → set.contains r x ≡ true) → (o : Option Process) → reaches_low t q o ≡ true → reaches_low t r o ≡ true
  reaches_more q r f None h = h
  reaches_more q r f (Some p) h = Prim.grind (arith, h, (count_mono (λ k. set.contains q (p, k)) (λ k. set.contains r (p, k)) (rings t) (λ k. f (p, k))))

  module _ (r : Reports) (least : IsLeastClosed t direct r) (low : tally t direct s < t.params.l) where
    in_all : (x : Report) → set.contains (fewer r) x ≡ true → set.contains r x ≡ true
    in_all x h = (and_parts _ _ (sym (in_fewer r x) ∙ h)).0

    fewer_includes : Includes (fewer r) direct
    fewer_includes x h = in_fewer r x ∙ and_from _ _ (least.includes x h) (direct_stays x h)

    -- on s it has the direct ones alone
    only_direct : (k : ℕ) → set.contains (fewer r) (s, k) ≡ true → set.contains direct (s, k) ≡ true
    only_direct k h = own_direct (s, k) ((same_bytes_decides s s).1 refl) (and_parts _ _ (sym (in_fewer r (s, k)) ∙ h)).1

    fewer_closed : IsClosed t (fewer r)
    fewer_closed x h = by (same_bytes x.0 s) refl
      where
        outer : ((nat_lt x.1 t.params.k && reaches_low t (fewer r) (Some x.0)) ≡ true) × (reaches_low t (fewer r) (t.observer x.1 x.0) ≡ true)
        outer = and_parts (nat_lt x.1 t.params.k && reaches_low t (fewer r) (Some x.0)) (reaches_low t (fewer r) (t.observer x.1 x.0)) h

        inner : (nat_lt x.1 t.params.k ≡ true) × (reaches_low t (fewer r) (Some x.0) ≡ true)
        inner = and_parts (nat_lt x.1 t.params.k) (reaches_low t (fewer r) (Some x.0)) outer.0

        implied_more : is_implied t r x ≡ true
        implied_more =
            and_from (nat_lt x.1 t.params.k && reaches_low t r (Some x.0)) (reaches_low t r (t.observer x.1 x.0))
            (and_from (nat_lt x.1 t.params.k) (reaches_low t r (Some x.0)) inner.0 (reaches_more (fewer r) r in_all (Some x.0) inner.1))
            (reaches_more (fewer r) r in_all (t.observer x.1 x.0) outer.1)

        by : (b : Bool) → same_bytes x.0 s ≡ b → set.contains (fewer r) x ≡ true
        by false e = in_fewer r x ∙ and_from _ _ (least.closed x implied_more) (other_stays x e)
        by true e =
            let same : x.0 ≡ s = (same_bytes_decides x.0 s).0 e in
            let enough : nat_le t.params.l (tally t (fewer r) s) ≡ true = subst (λ p. nat_le t.params.l (tally t (fewer r) p) ≡ true) same inner.1 in
            absurd (Prim.grind (arith, enough, (count_mono (λ k. set.contains (fewer r) (s, k)) (λ k. set.contains direct (s, k)) (rings t) only_direct), low))

    tally_low : tally t r s ≤ tally t direct s
    tally_low = count_mono (λ k. set.contains r (s, k)) (λ k. set.contains direct (s, k)) (rings t) (λ k h. only_direct k (least.least (fewer r) fewer_includes fewer_closed (s, k) h))

-- who has at least L reports has at least L direct ones
low_direct : (t : Observers) → AreParams t.params → (direct : Reports) (s : Process) → t.params.l ≤ tally t (reports t direct) s → t.params.l ≤ tally t direct s
low_direct t params direct s enough = by (nat_le t.params.l (tally t direct s)) refl
  where
    no : (a b : ℕ) → nat_le a b ≡ false → b < a
    no a b h = Prim.grind arith

    wrong : (l a b : ℕ) → l ≤ a → a ≤ b → b < l → ⊥
    wrong l a b x y z = omega arith

    by : (b : Bool) → nat_le t.params.l (tally t direct s) ≡ b → t.params.l ≤ tally t direct s
    by true e = leb-true _ _ e
    by false e = let low = no _ _ e in absurd (wrong t.params.l _ _ enough (tally_low t direct s (reports t direct) (least_closed t direct params.some) low) low)

pub stable_direct : (t : Observers) → AreParams t.params → (direct : Reports) (s : Process) → t.params.h ≤ tally t (reports t direct) s → t.params.l ≤ tally t direct s
stable_direct t params direct s high = low_direct t params direct s (omega (arith, params.below, high))

-- ---- the cut of alerts is all that is stable, and nothing is unstable

-- who is reported on is one of the subjects
reported_on : (r : Reports) (s : Process) (k : ℕ) → set.contains r (s, k) ≡ true → is_in (subjects r) s ≡ true
unfolding subjects
reported_on r s k h = any_in_order process_cmp processes_total (map (λ (x : Report). x.0) (set.items r)) s ∙ listed (set.items r) (sym (set.contains-items r (s, k)) ∙ h)
  where
    listed : (xs : List Report) → list_any (eq_by_cmp report_cmp (s, k)) xs ≡ true → list_any (same_bytes s) (map (λ (x : Report). x.0) xs) ≡ true
    listed [] g = g
    listed (x ∷ xs) g = by (eq_by_cmp report_cmp (s, k) x) refl g (listed xs)
      where
        by : (b : Bool) → eq_by_cmp report_cmp (s, k) x ≡ b → (b || list_any (eq_by_cmp report_cmp (s, k)) xs) ≡ true → (list_any (eq_by_cmp report_cmp (s, k)) xs ≡ true → list_any (same_bytes s) (map (λ (x : Report). x.0) xs) ≡ true) →
            (same_bytes s x.0 || list_any (same_bytes s) (map (λ (x : Report). x.0) xs)) ≡ true
        by true e g f = or_left _ _ ((same_bytes_decides s x.0).1 (ap (λ (z : Report). z.0) ((tie_decides reports_total reports_exact (s, k) x).0 e)))
        by false e g f = or_right _ _ (f g)

is_kept : (f : Process → Bool) (xs : List Process) (s : Process) → In xs s → f s ≡ true → In (filter f xs) s
is_kept f [] s i h = i
is_kept f (x ∷ xs) s (inl same) h = subst (λ b. In (cond b (x ∷ filter f xs) (filter f xs)) s) (sym (ap f same ∙ h)) (inl same)
is_kept f (x ∷ xs) s (inr j) h = cond_both (f x) (x ∷ filter f xs) (filter f xs) (λ l. In l s) (λ e. inr (is_kept f xs s j h)) (λ e. is_kept f xs s j h)

-- each process of a cut is stable
pub cut_stable : (t : Observers) (direct : Reports) (v : Cut) → cut_of t direct ≡ Some v → (s : Process) → In v s → t.params.h ≤ tally t (reports t direct) s
cut_stable t direct v h s i = leb-true _ _ (passes_filter (is_stable t (reports t direct)) (subjects direct) s (subst (λ l. In l s) (sym (cut_parts (stable t direct) (unstable t direct) v h).0) i))

pub cuts_are_whole : CutsAreWhole
cuts_are_whole t alerts v params h =
    record {
      some = parts.2;
      stable = λ s. (
        (λ i. cut_stable t direct v h s (in_from v s i)),
        λ high. contains_from v s (subst (λ l. In l s) parts.0 (is_kept (is_stable t (reports t direct)) (subjects direct) s (subject s (omega (arith, params.below, high))) (Prim.grind (arith, high)))),
      );
      none_unstable = λ s low. by s low (nat_le t.params.h (tally t (reports t direct) s)) refl;
    }
  where
    direct : Reports
    direct = direct_reports t alerts

    parts : (stable t direct ≡ v) × (unstable t direct ≡ []) × (v ≡ [] → ⊥)
    parts = cut_parts (stable t direct) (unstable t direct) v h

    subject : (s : Process) → t.params.l ≤ tally t (reports t direct) s → In (subjects direct) s
    subject s low =
        let k = exists_counted (λ n. set.contains direct (s, n)) (rings t) (omega (arith, params.some, (low_direct t params direct s low))) in
        in_of s (subjects direct) (reported_on direct s k.0 k.2)

    by : (s : Process) → t.params.l ≤ tally t (reports t direct) s → (b : Bool) → nat_le t.params.h (tally t (reports t direct) s) ≡ b → t.params.h ≤ tally t (reports t direct) s
    by s low true e = leb-true _ _ e
    by s low false e =
        absurd (subst (λ l. In l s) parts.1 (is_kept (is_unstable t (reports t direct)) (subjects direct) s (subject s low)
        (and_from (nat_le t.params.l (tally t (reports t direct) s)) (nat_lt (tally t (reports t direct) s) t.params.h) (Prim.grind (arith, low)) (Prim.grind (arith, e)))))

-- ---- each cut that a member proposed is supported by alerts that were sent, have a cause, and were taken

-- ---- lists

index_in : {A : Type 0} (xs : List A) (k : ℕ) (d : A) → k < length xs → In xs (slice_index_or xs k d)
index_in [] k d l = absurd (omega (arith, l))
index_in (x ∷ xs) zero d l = inl refl
index_in (x ∷ xs) (suc k) d l = inr (index_in xs k d (omega (arith, l)))

all_from : {A : Type 0} (P : A → Type 0) (xs : List A) → ((x : A) → In xs x → P x) → All P xs
all_from P xs f k d l = f (slice_index_or xs k d) (index_in xs k d l)

in_flat : {A B : Type 0} (f : A → List B) (xs : List A) (x : A) (y : B) → In xs x → In (f x) y → In (flat_map f xs) y
in_flat f [] x y h g = absurd h
in_flat f (z ∷ zs) x y (inl s) g = in_left (f z) (flat_map f zs) y (subst (λ q. In (f q) y) (sym s) g)
in_flat f (z ∷ zs) x y (inr i) g = in_right (f z) (flat_map f zs) y (in_flat f zs x y i g)

-- ---- alerts that were taken

-- what was taken stays taken
taken_more : (c : Configuration) (p : Process) (before after : List Act) (a : Alert) → In (alerts_taken (observers_of c) p before) a → In (alerts_taken (observers_of c) p (before ++ after)) a
taken_more c p before after a h =
    let t = observers_of c in
    let batches : batches_in t.id p (before ++ after) ≡ batches_in t.id p before ++ batches_of t.id (taken_in p after) =
    ap (batches_of t.id) (filter_map-append (taken_by p) before after) ∙ filter_map-append (λ (m : Message). Rattle.rapid_model.specs.Justified.batch_in t.id m.sender m.body) (taken_in p before) (taken_in p after) in
    subst (λ bs. In (Rattle.rapid_model.specs.Justified.taken_of t empty_detector bs) a) (sym batches)
    (subst (λ l. In l a) (sym (taken_of-append t empty_detector (batches_in t.id p before) (batches_of t.id (taken_in p after)))) (in_left (alerts_taken t p before) _ a h))

-- what was taken was sent
taken_sent : (f : Configuration) (es : List MarkedEvent) (p : Process) (c : Configuration) (a : Alert) → Contains (alerts_taken (observers_of c) p (acts_in (run es (founded f)) p c)) a → SentAlert (run es (founded f)) a
taken_sent f es p c a h =
    let w = run es (founded f) in
    let r = of_flat (λ (m : Message). alerts_said m.sender m.body) (received w p c) a (in_from _ a (taken_were_received (observers_of c) p (acts_in w p c) a h)) in
    let s = received_were_said f es p c r.0.sender r.0.body (contains_from (received w p c) r.0 r.1) in
    contains_from _ a (in_flat (λ (m : Message). alerts_said m.sender m.body) (sent w) r.0 a (in_from (sent w) r.0 s) r.2)

-- ---- parameters

apply_params : (c : Configuration) (v : Cut) → (apply c v).params ≡ c.params
unfolding apply
apply_params c v = refl

reached_params : (c : Configuration) (vs : List Cut) → (reached c vs).params ≡ c.params
reached_params c [] = refl
reached_params c (v ∷ vs) = reached_params (apply c v) vs ∙ apply_params c v

observers_params : (c : Configuration) → (observers_of c).params ≡ c.params
unfolding observers_of
observers_params c = refl

-- the parameters of each installed configuration are in order
params_installed : (f : Configuration) (es : List MarkedEvent) → AreMembers f.members → AreParams f.params → (d : Configuration) → WasInstalled (run es (founded f)).log d → AreParams d.params
params_installed f es are params d h =
    let r = descent_run f es are h.0 d h.1 h.2 in
    subst AreParams (sym (reached_params f r.0) ∙ ap (λ (x : Configuration). x.params) r.2) params

-- ---- a proposal

some_act : (acts : List Act) (v : Cut) → first_cut acts ≡ Some v → (a : Act) × In acts a
some_act [] v h = cc
some_act (a ∷ acts) v h = (a, inl refl)

member_of : (log : List Entry) (p : Process) (c : Configuration) (a : Act) → In (acts_at log p c) a → PastLife log p c → is_member c p ≡ true
member_of log p c a i (was_not none) = absurd (subst (λ l. In l a) none i)
member_of log p c a i (was heard s d l) = let k = lives_member c p _ heard s d l in among_is c.members p (member_at p c.members k.0 k.1)

module _ (f : Configuration) (es : List MarkedEvent) (are : AreMembers f.members) (apart : NoCollision (run es (founded f))) (p : Process) (c : Configuration) (here : WasInstalled (run es (founded f)).log c) where
  -- an alert that was taken has a cause here
  alert_justified : (a : Alert) → SentAlert (run es (founded f)) a → is_well_formed (observers_of c) a ≡ true → IsJustified (run es (founded f)) c a
  alert_justified a s formed =
      let w = run es (founded f) in
      let r = raised_in w (lived_run f es are) (asides_run f es) a s in
      let about : a.config ≡ configuration_id c = (same_bytes_decides a.config (observers_of c).id).0 (and_parts _ _ (and_parts _ _ formed).0).1 ∙ observers_id c in
      let there = was_installed w.log r.was.0.who r.config ((present_run f es are).at r.was.0 r.config r.was.1 r.was.2) in
      let same : r.config ≡ c = apart there.0 here.0 r.config c (contains_from w.log there.0 there.1) (contains_from w.log here.0 here.1) there.2 here.2 (r.about ∙ about) in
      subst (λ x. IsJustified w x a) same (justified w r.config a.observer a r.sound)

  supports : (before after : List Act) → acts_at (run es (founded f)).log p c ≡ before ++ after → (a : Alert) → In (alerts_taken (observers_of c) p before) a → IsSupport (run es (founded f)) p c a
  supports before after is a i =
      let w = run es (founded f) in
      let taken : Contains (alerts_taken (observers_of c) p (acts_in w p c)) a = contains_from _ a (subst (λ acts. In (alerts_taken (observers_of c) p acts) a) (sym is) (taken_more c p before after a i)) in
      let s = taken_sent f es p c a taken in
      record { sent = s; justified = alert_justified a s (formed_all (observers_of c) empty_detector (batches_in (observers_of c).id p before) a i); taken = taken }

pub proposals_are_supported : (f : Configuration) (es : List MarkedEvent) → AreParams f.params → AreMembers f.members → NoCollision (run es (founded f)) → ProposalsSupported (run es (founded f))
unfolding Proposals
proposals_are_supported f es params are apart p c v h =
    let w = run es (founded f) in
    let t = observers_of c in
    let cut : CutIn c p (acts_at w.log p c) v = proposals_run f es are p c v h in
    let act = some_act (acts_at w.log p c) v h in
    let e = from_acts w.log p c act.0 act.1 in
    let here : WasInstalled w.log c = was_installed w.log e.0.who c ((present_run f es are).at e.0 c e.1 e.3) in
    let good : AreParams t.params = subst AreParams (sym (observers_params c)) (params_installed f es are params c here) in
    let supported : IsSupported w c v =
    record {
      proposer = p;
      member = member_of w.log p c act.0 act.1 ((lived_run f es are).past p c);
      proposed = h;
      alerts = alerts_taken t p cut.0;
      support = all_from (IsSupport w p c) (alerts_taken t p cut.0) (supports f es are apart p c here cut.0 cut.1 cut.2);
      cut = cut.3;
      enough = all_from (IsReportedEnough t (alerts_taken t p cut.0)) v (λ s i. let high = cut_stable t _ v cut.3 s i in record { all = high; direct = stable_direct t good _ s high });
    } in
    (supported, refl)
