-- What is answered to an alert, by the index of those that were raised.
use Rattle.std.proofs.Common.{◌≡◌, ℕ, zero, suc, ◌<◌, ◌≤◌, ◌==◌, Bool, true, false, cond, not, ◌&&◌, ◌||◌, List, [], ◌∷◌, ◌++◌, map, refl, sym, ap, subst, ◌∙◌, inl, inr, arith, nat_lt, Option, Some, None}
use Rattle.std.specs.Prelude.{All}
use Rattle.std.specs.List.{list_any}
use Rattle.std.specs.Ordering.{eq_by_cmp}
use Rattle.std.specs.Cmp.{both_ways}
use Rattle.std.proofs.lemmas.List.{length-append}
use Rattle.std.proofs.lemmas.List.Folds.{list_any-append}
use Rattle.std.proofs.lemmas.List.Elements.{All-append}
use Rattle.std.specs.FinSet as set
use Rattle.rapid_model.specs.Process.{Process, same_bytes}
use Rattle.rapid_model.specs.Ring.{Observers, observes}
use Rattle.rapid_model.specs.Alert.{Alert, Kind, Remove, Join, same_kind, same_alert, kind_for, kind_fits, is_well_formed}
use Rattle.rapid_model.specs.Reports.{Report, report_cmp, report_of}
use Rattle.rapid_model.specs.Outbox.{Outbox, Raising, Raised, Already, WrongObserver, WrongKind, OldConfiguration, TooManyJoiners, is_own, has_room, raising, after_raising}
use Rattle.rapid_model.proofs.Orders.{reports_total, reports_exact, tie_decides, same_bytes_decides}
use Rattle.rapid_model.specs.Message.{item_of}
use Rattle.rapid_alerts.specs.Alerts.{ListedAlerts, alerts_in}
use Rattle.rapid_alerts.specs.Outboxes.{OwnedOutbox, Index, indexed, has_room as index_has_room, answered, verdict, is_sound, refusal, are_once, IsOutbox}
use Rattle.rapid_alerts.specs.Refusals.{Refuses, RefusesIfAny}
use Rattle.rapid_alerts.specs.declared.errors.RaiseError.{RaiseError}
use Rattle.rapid_alerts.proofs.Indexes.{index_more, room_is}
use Rattle.rapid_alerts.proofs.Listing.{listed_more}
use Rattle.std.proofs.lemmas.Bool.{and_parts, and_from, or_cases}

-- ---- two alerts that are the same

same_number : (m n : ℕ) → (m == n) ≡ true → m ≡ n
same_number m n h = grind arith

own_number : (n : ℕ) → (n == n) ≡ true
own_number n = grind arith

same_kinds : (k l : Kind) → same_kind k l ≡ true → k ≡ l
same_kinds Remove Remove h = refl
same_kinds Remove Join h = cc
same_kinds Join Remove h = cc
same_kinds Join Join h = refl

own_kind : (k : Kind) → same_kind k k ≡ true
own_kind Remove = refl
own_kind Join = refl

same_bytes_own : (p : Process) → same_bytes p p ≡ true
same_bytes_own p = (same_bytes_decides p p).1 refl

pub same_are_one : (a b : Alert) → same_alert a b ≡ true → a ≡ b
same_are_one a b h =
    let p = and_parts (same_bytes a.observer b.observer && same_bytes a.subject b.subject && (a.ring == b.ring) && same_kind a.kind b.kind) (same_bytes a.config b.config) h in
    let q = and_parts (same_bytes a.observer b.observer && same_bytes a.subject b.subject && (a.ring == b.ring)) (same_kind a.kind b.kind) p.0 in
    let r = and_parts (same_bytes a.observer b.observer && same_bytes a.subject b.subject) (a.ring == b.ring) q.0 in
    let s = and_parts (same_bytes a.observer b.observer) (same_bytes a.subject b.subject) r.0 in
    let observer : a.observer ≡ b.observer = (same_bytes_decides a.observer b.observer).0 s.0 in
    let subject : a.subject ≡ b.subject = (same_bytes_decides a.subject b.subject).0 s.1 in
    let ring : a.ring ≡ b.ring = same_number a.ring b.ring r.1 in
    let kind : a.kind ≡ b.kind = same_kinds a.kind b.kind q.1 in
    let config : a.config ≡ b.config = (same_bytes_decides a.config b.config).0 p.1 in
    λ i. record { observer = observer i; subject = subject i; ring = ring i; kind = kind i; config = config i }

pub one_is_same : (a b : Alert) → a ≡ b → same_alert a b ≡ true
one_is_same a b e =
    subst (λ x. same_alert a x ≡ true) e
    (and_from (same_bytes a.observer a.observer && same_bytes a.subject a.subject && (a.ring == a.ring) && same_kind a.kind a.kind) _
    (and_from (same_bytes a.observer a.observer && same_bytes a.subject a.subject && (a.ring == a.ring)) _
    (and_from (same_bytes a.observer a.observer && same_bytes a.subject a.subject) _ (and_from (same_bytes a.observer a.observer) _ (same_bytes_own a.observer) (same_bytes_own a.subject)) (own_number a.ring))
    (own_kind a.kind))
    (same_bytes_own a.config))

same_turned : (a b : Alert) → same_alert a b ≡ same_alert b a
same_turned a b = both_ways _ _ (λ h. one_is_same b a (sym (same_are_one a b h))) (λ h. one_is_same a b (sym (same_are_one b a h)))

-- ---- alerts that are sound

-- the parts of a sound alert
pub record Parts (t : Observers) (owner : Process) (a : Alert) : Type 0 where
  pub observer : a.observer ≡ owner
  pub ring : nat_lt a.ring t.params.k ≡ true
  pub edge : observes t owner a.ring a.subject ≡ true
  pub config : a.config ≡ t.id
  pub kind : a.kind ≡ kind_for t a.subject

pub parts_of : (t : Observers) (owner : Process) (a : Alert) → is_sound t owner a ≡ true → Parts t owner a
parts_of t owner a h =
    let p = and_parts (same_bytes a.observer owner) (is_well_formed t a) h in
    let q = and_parts (nat_lt a.ring t.params.k && observes t a.observer a.ring a.subject && same_bytes a.config t.id) (kind_fits t a) p.1 in
    let r = and_parts (nat_lt a.ring t.params.k && observes t a.observer a.ring a.subject) (same_bytes a.config t.id) q.0 in
    let s = and_parts (nat_lt a.ring t.params.k) (observes t a.observer a.ring a.subject) r.0 in
    let observer = (same_bytes_decides a.observer owner).0 p.0 in
    record {
      observer = observer;
      ring = s.0;
      edge = subst (λ o. observes t o a.ring a.subject ≡ true) observer s.1;
      config = (same_bytes_decides a.config t.id).0 r.1;
      kind = same_kinds a.kind (kind_for t a.subject) q.1;
    }

-- a sound alert is not refused
pub sound_passes : (t : Observers) (owner : Process) (a : Alert) → is_sound t owner a ≡ true → refusal t owner a ≡ None
sound_passes t owner a h =
    let p = parts_of t owner a h in
    let config : same_bytes a.config t.id ≡ true = (same_bytes_decides a.config t.id).1 p.config in
    let own : is_own t owner a ≡ true = and_from (same_bytes a.observer owner && nat_lt a.ring t.params.k) _ (and_from (same_bytes a.observer owner) _ ((same_bytes_decides a.observer owner).1 p.observer) p.ring) p.edge in
    let kind : kind_fits t a ≡ true = subst (λ k. same_kind k (kind_for t a.subject) ≡ true) (sym p.kind) (own_kind (kind_for t a.subject)) in
    rw (config, own, kind) refl

-- an alert that is not refused is sound
pub passed_is_sound : (t : Observers) (owner : Process) (a : Alert) → refusal t owner a ≡ None → is_sound t owner a ≡ true
passed_is_sound t owner a h =
    elim (same_bytes a.config t.id) as (λ b. same_bytes a.config t.id ≡ b → cond (not b) (Some OldConfiguration) (cond (not (is_own t owner a)) (Some WrongObserver) (cond (not (kind_fits t a)) (Some WrongKind) None)) ≡ None → is_sound t owner a ≡ true) [
      | false ↦ λ _ k. cc
      | true ↦ λ config k.
          elim (is_own t owner a) as (λ b. is_own t owner a ≡ b → cond (not b) (Some WrongObserver) (cond (not (kind_fits t a)) (Some WrongKind) None) ≡ None → is_sound t owner a ≡ true) [
            | false ↦ λ _ l. cc
            | true ↦ λ own l.
                elim (kind_fits t a) as (λ b. kind_fits t a ≡ b → cond (not b) (Some WrongKind) None ≡ None → is_sound t owner a ≡ true) [
                  | false ↦ λ _ m. cc
                  | true ↦ λ kind m. all_hold config own kind
                ] refl l
          ] refl k
    ] refl h
  where
    all_hold : same_bytes a.config t.id ≡ true → is_own t owner a ≡ true → kind_fits t a ≡ true → is_sound t owner a ≡ true
    all_hold config own kind =
        let p = and_parts (same_bytes a.observer owner && nat_lt a.ring t.params.k) (observes t owner a.ring a.subject) own in
        let q = and_parts (same_bytes a.observer owner) (nat_lt a.ring t.params.k) p.0 in
        let observer = (same_bytes_decides a.observer owner).0 q.0 in
        let edge : observes t a.observer a.ring a.subject ≡ true = subst (λ o. observes t o a.ring a.subject ≡ true) (sym observer) p.1 in
        and_from (same_bytes a.observer owner) _ q.0
        (and_from (nat_lt a.ring t.params.k && observes t a.observer a.ring a.subject && same_bytes a.config t.id) _
        (and_from (nat_lt a.ring t.params.k && observes t a.observer a.ring a.subject) _ (and_from (nat_lt a.ring t.params.k) _ q.1 edge) config) kind)

-- two sound alerts are the same exactly if they report the same
sound_alike : (t : Observers) (owner : Process) (a b : Alert) → is_sound t owner a ≡ true → is_sound t owner b ≡ true → same_alert a b ≡ eq_by_cmp report_cmp (report_of a) (report_of b)
sound_alike t owner a b h k =
    both_ways _ _
    (λ e. (tie_decides reports_total reports_exact (report_of a) (report_of b)).1 (ap report_of (same_are_one a b e)))
    (λ e. one_is_same a b (one ((tie_decides reports_total reports_exact (report_of a) (report_of b)).0 e)))
  where
    one : report_of a ≡ report_of b → a ≡ b
    one e =
        let p = parts_of t owner a h in
        let q = parts_of t owner b k in
        let subject : a.subject ≡ b.subject = ap (λ (x : Report). x.0) e in
        let ring : a.ring ≡ b.ring = ap (λ (x : Report). x.1) e in
        let observer : a.observer ≡ b.observer = p.observer ∙ sym q.observer in
        let kind : a.kind ≡ b.kind = p.kind ∙ ap (kind_for t) subject ∙ sym q.kind in
        let config : a.config ≡ b.config = p.config ∙ sym q.config in
        λ i. record { observer = observer i; subject = subject i; ring = ring i; kind = kind i; config = config i }

tail_of : {X : Type 0} (P : X → Type 0) (x : X) (xs : List X) → All P (x ∷ xs) → All P xs
tail_of P x xs h k d l = h (suc k) d (omega (arith, l))

-- an alert that was raised is sound
among : (t : Observers) (owner : Process) (a : Alert) (xs : List Alert) → All (λ x. is_sound t owner x ≡ true) xs → list_any (same_alert a) xs ≡ true → is_sound t owner a ≡ true
among t owner a [] h k = cc
among t owner a (x ∷ xs) h k =
    elim (or_cases (same_alert a x) (list_any (same_alert a) xs) k) [
      | inl e ↦ subst (λ y. is_sound t owner y ≡ true) (sym (same_are_one a x e)) (h 0 x (omega arith))
      | inr later ↦ among t owner a xs (tail_of (λ y. is_sound t owner y ≡ true) x xs h) later
    ]

-- a sound alert was raised exactly if what it reports was
raised_by_report : (t : Observers) (owner : Process) (a : Alert) (xs : List Alert) → is_sound t owner a ≡ true → All (λ x. is_sound t owner x ≡ true) xs
    → list_any (same_alert a) xs ≡ list_any (eq_by_cmp report_cmp (report_of a)) (map report_of xs)
raised_by_report t owner a [] s h = refl
raised_by_report t owner a (x ∷ xs) s h =
    ap (λ b. b || list_any (same_alert a) xs) (sound_alike t owner a x s (h 0 x (omega arith)))
    ∙ ap (λ b. eq_by_cmp report_cmp (report_of a) (report_of x) || b) (raised_by_report t owner a xs s (tail_of (λ y. is_sound t owner y ≡ true) x xs h))

-- ---- the answer

abbrev unless : Option Raising → Raising → Raising
unless (Some x) r = x
unless None r = r

chain : (c o k : Bool) (r : Raising)
    → cond (not c) OldConfiguration (cond (not o) WrongObserver (cond (not k) WrongKind r))
    ≡ unless (cond (not c) (Some OldConfiguration) (cond (not o) (Some WrongObserver) (cond (not k) (Some WrongKind) None))) r
chain false o k r = refl
chain true false k r = refl
chain true true false r = refl
chain true true true r = refl

seen_is : (t : Observers) (owner : Process) (o : Outbox) (i : Index) (a : Alert) → IsOutbox t owner o i → is_sound t owner a ≡ true → list_any (same_alert a) o.raised ≡ set.contains i.reports (report_of a)
seen_is t owner o i a h s =
    raised_by_report t owner a o.raised s h.raised.sound
    ∙ sym (set.contains-from_list reports_total (map report_of o.raised) (report_of a))
    ∙ ap (λ (x : Index). set.contains x.reports (report_of a)) (sym h.index)

-- what is answered is said by the index
pub raising_is : (t : Observers) (owner : Process) (o : Outbox) (i : Index) (a : Alert) → IsOutbox t owner o i → raising t owner o a ≡ verdict t owner i a
raising_is t owner o i a h =
    let last : Raising = cond (not (has_room o.raised a)) TooManyJoiners Raised in
    ap (cond (list_any (same_alert a) o.raised) Already) (chain (same_bytes a.config t.id) (is_own t owner a) (kind_fits t a) last)
    ∙ elim (refusal t owner a) as (λ r. refusal t owner a ≡ r → cond (list_any (same_alert a) o.raised) Already (unless r last) ≡ answered r (set.contains i.reports (report_of a)) (has_room o.raised a)) [
      | Some x ↦ λ e. ap (λ b. cond b Already x) (new x e)
      | None ↦ λ e. ap (λ b. cond b Already last) (seen_is t owner o i a h (passed_is_sound t owner a e))
    ] refl
    ∙ ap (answered (refusal t owner a) (set.contains i.reports (report_of a))) (room_is o.raised a ∙ ap (λ (x : Index). index_has_room x a) (sym h.index))
  where
    new : (x : Raising) → refusal t owner a ≡ Some x → list_any (same_alert a) o.raised ≡ false
    new x e =
        elim (list_any (same_alert a) o.raised) as (λ b. list_any (same_alert a) o.raised ≡ b → b ≡ false) [
          | true ↦ λ there. let none = sound_passes t owner a (among t owner a o.raised h.raised.sound there) in cc
          | false ↦ λ _. refl
        ] refl

-- an error that is the refusal is the answer
pub refused_by : (r : Option Raising) (seen room : Bool) {x : Raising} (e : RaiseError) → x ≡ answered r seen room → RefusesIfAny r (Some e) → Refuses x e
refused_by None seen room e is h = absurd h
refused_by (Some y) seen room e is h = subst (λ z. Refuses z e) (sym is) h

-- an alert that is raised is sound, was not raised before, and there is room for it
pub raised_parts : (t : Observers) (owner : Process) (o : Outbox) (i : Index) (a : Alert) → IsOutbox t owner o i → raising t owner o a ≡ Raised
    → (is_sound t owner a ≡ true) × (set.contains i.reports (report_of a) ≡ false) × (index_has_room i a ≡ true)
raised_parts t owner o i a h e =
    elim (refusal t owner a) as (λ r. refusal t owner a ≡ r → answered r (set.contains i.reports (report_of a)) (index_has_room i a) ≡ Raised → (is_sound t owner a ≡ true) × (set.contains i.reports (report_of a) ≡ false) × (index_has_room i a ≡ true)) [
      | Some x ↦ λ r k. absurd (never x r k)
      | None ↦ λ r k. (passed_is_sound t owner a r, not_seen (set.contains i.reports (report_of a)) k, roomy (set.contains i.reports (report_of a)) (index_has_room i a) k)
    ] refl (sym (raising_is t owner o i a h) ∙ e)
  where
    not_seen : (b : Bool) → cond b Already (cond (not (index_has_room i a)) TooManyJoiners Raised) ≡ Raised → b ≡ false
    not_seen true k = cc
    not_seen false k = refl

    roomy : (b room : Bool) → cond b Already (cond (not room) TooManyJoiners Raised) ≡ Raised → room ≡ true
    roomy true room k = cc
    roomy false true k = refl
    roomy false false k = cc

    refuses : (c w k : Bool) → cond (not c) (Some OldConfiguration) (cond (not w) (Some WrongObserver) (cond (not k) (Some WrongKind) None)) ≡ Some Raised → ⊥
    refuses false w k e = cc
    refuses true false k e = cc
    refuses true true false e = cc
    refuses true true true e = cc

    never : (x : Raising) → refusal t owner a ≡ Some x → x ≡ Raised → ⊥
    never x r k = refuses (same_bytes a.config t.id) (is_own t owner a) (kind_fits t a) (r ∙ ap Some k)

-- ---- the outbox

once_more : (xs : List Alert) (a : Alert) → are_once xs ≡ true → list_any (same_alert a) xs ≡ false → are_once (xs ++ a ∷ []) ≡ true
once_more [] a h k = refl
once_more (x ∷ xs) a h k =
    let p = and_parts (not (list_any (same_alert x) xs)) (are_once xs) h in
    let q = neither (same_alert a x) (list_any (same_alert a) xs) k in
    and_from (not (list_any (same_alert x) (xs ++ a ∷ []))) _
    (ap not (list_any-append (same_alert x) xs (a ∷ [])) ∙ still (list_any (same_alert x) xs) (same_alert x a) p.0 (same_turned x a ∙ q.0))
    (once_more xs a p.1 q.1)
  where
    neither : (b c : Bool) → (b || c) ≡ false → (b ≡ false) × (c ≡ false)
    neither true c e = cc
    neither false c e = (refl, e)

    still : (b c : Bool) → not b ≡ true → c ≡ false → not (b || (c || false)) ≡ true
    still true c e f = cc
    still false true e f = cc
    still false false e f = refl

all_of_one : {X : Type 0} (P : X → Type 0) (x : X) → P x → All P (x ∷ [])
all_of_one P x h zero d l = h
all_of_one P x h (suc k) d l = absurd (omega (arith, l))

-- an outbox keeps its rules with one more alert
pub raised_kept : (t : Observers) (owner : Process) (o : Outbox) (i : Index) (a : Alert) → IsOutbox t owner o i → raising t owner o a ≡ Raised → IsOutbox t owner (after_raising Raised o a) (indexed i a)
raised_kept t owner o i a h e =
    let p = raised_parts t owner o i a h e in
    record {
      raised =
          record {
            sound = All-append (λ x. is_sound t owner x ≡ true) o.raised (a ∷ []) h.raised.sound (all_of_one (λ x. is_sound t owner x ≡ true) a p.0);
            once = once_more o.raised a h.raised.once (seen_is t owner o i a h p.0 ∙ p.1);
          };
      index = ap (λ x. indexed x a) h.index ∙ sym (index_more o.raised a);
      flushed = let l = length-append o.raised (a ∷ []) in omega (arith, l, h.flushed);
    }

-- the same, as the program sees it
pub kept_seen : (t : Observers) (owner : Process) (o : Outbox) (i j : Index) (a : Alert) (xs : List Alert) → IsOutbox t owner o i → raising t owner o a ≡ Raised → xs ≡ o.raised ++ a ∷ [] → j ≡ indexed i a
    → IsOutbox t owner (record { raised = xs; flushed = o.flushed }) j
kept_seen t owner o i j a xs h e r x = rw (r, x) (raised_kept t owner o i a h e)

-- an alert that is raised is the last of the list that it is put in
pub raised_last : (t : Observers) (l m : ListedAlerts) (flushed : ℕ) (i : Index) (a : Alert) → IsOutbox t l.observer (record { raised = alerts_in l; flushed = flushed }) i → l.config ≡ t.id
    → raising t l.observer (record { raised = alerts_in l; flushed = flushed }) a ≡ Raised → m ≡ record l { items = l.items ++ item_of a ∷ [] } → alerts_in m ≡ alerts_in l ++ a ∷ []
raised_last t l m flushed i a h config e more =
    let parts = parts_of t l.observer a (raised_parts t l.observer (record { raised = alerts_in l; flushed = flushed }) i a h e).0 in
    listed_more l m a more parts.observer (parts.config ∙ sym config)

-- the ring of an alert that is raised is one of sixteen
pub raised_ring : (t : Observers) (owner : Process) (o : Outbox) (i : Index) (a : Alert) → IsOutbox t owner o i → raising t owner o a ≡ Raised → t.params.k ≤ 16 → a.ring < 16
raised_ring t owner o i a h e few = within a.ring t.params.k (parts_of t owner a (raised_parts t owner o i a h e).0).ring few
  where
    within : (n k : ℕ) → nat_lt n k ≡ true → k ≤ 16 → n < 16
    within n k l m = grind arith

-- an outbox with its table and owner is seen from inside and outside
pub raising_along : {T : Type 0} (observers : T → Observers) {v w : OwnedOutbox T} (a : Alert) → v ≡ w → raising (observers v.table) v.owner v.outbox a ≡ raising (observers w.table) w.owner w.outbox a
raising_along {T} observers a e = ap (λ (x : OwnedOutbox T). raising (observers x.table) x.owner x.outbox a) e

pub outbox_along : {T : Type 0} {v w : OwnedOutbox T} → v ≡ w → v.outbox ≡ w.outbox
outbox_along {T} e = ap (λ (x : OwnedOutbox T). x.outbox) e
