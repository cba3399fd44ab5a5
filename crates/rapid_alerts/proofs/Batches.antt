-- Batches: what their alerts have in common, and which stretches of an outbox are batches.
use Rattle.std.proofs.Common.{◌≡◌, ℕ, zero, suc, ◌+◌, ◌-◌, ◌≤◌, min, inl, inr, Bool, true, false, cond, not, ◌&&◌, List, [], ◌∷◌, length, map, take, drop, refl, sym, ap, ◌∙◌, arith, nat_lt, Option, Some, None}
use Rattle.std.specs.Prelude.{All}
use Rattle.std.specs.List.{list_all, slice_index_or}
use Rattle.std.proofs.lemmas.Bool.{cases_lt, and_parts, and_from}
use Rattle.std.proofs.lemmas.List.{length-take, length-drop, take_all}
use Rattle.std.proofs.lemmas.List.Elements.{All-take, All-drop}
use Rattle.rapid_model.specs.Process.{Process, same_bytes}
use Rattle.rapid_model.specs.Ring.{Observers}
use Rattle.rapid_model.specs.Alert as model
use Rattle.rapid_model.specs.Outbox.{Outbox, unflushed, flush}
use Rattle.rapid_model.specs.Batch.{BatchFault, MixedAlerts, TooManyAlerts, is_alike, batch_fault, batch_of}
use Rattle.rapid_model.proofs.Orders.{same_bytes_decides}
use Rattle.rapid_model.specs.Message.{AlertItem, batch_alerts, alert_of as read_as}
use Rattle.rapid_alerts.specs.Alerts.{ListedAlerts, alert_of, alerts_in}
use Rattle.rapid_alerts.specs.declared.alert.Alert.{Alert}
use Rattle.rapid_alerts.specs.Outboxes.{Index, is_sound, IsOutbox}
use Rattle.rapid_alerts.proofs.Raisings.{parts_of}

-- ---- the fault of alerts

all_mapped : (a : model.Alert) (xs : List Alert) → list_all (is_alike a) (map alert_of xs) ≡ list_all (λ x. is_alike a (alert_of x)) xs
all_mapped a [] = refl
all_mapped a (x ∷ xs) = ap (λ b. is_alike a (alert_of x) && b) (all_mapped a xs)

length_mapped : (xs : List Alert) → length (map alert_of xs) ≡ length xs
length_mapped [] = refl
length_mapped (x ∷ xs) = ap suc (length_mapped xs)

-- the fault of alerts that are neither none nor too many
pub fault_is : (all : List Alert) (x : Alert) (rest : List Alert) (b : Bool) → all ≡ x ∷ rest → length all ≤ 2048 → list_all (λ y. is_alike (alert_of x) (alert_of y)) rest ≡ b
    → batch_fault (map alert_of all) ≡ cond b None (Some MixedAlerts)
fault_is all x rest b e few h =
    ap (λ xs. batch_fault (map alert_of xs)) e
    ∙ ap (λ c. cond c (Some TooManyAlerts) (cond (not (list_all (is_alike (alert_of x)) (map alert_of rest))) (Some MixedAlerts) None)) enough
    ∙ ap (λ c. cond (not c) (Some MixedAlerts) None) (all_mapped (alert_of x) rest ∙ h)
    ∙ turned b
  where
    enough : nat_lt 2048 (suc (length (map alert_of rest))) ≡ false
    enough = let l = ap length e in let m = length_mapped rest in grind (arith, l, m, few)

    turned : (c : Bool) → ◌≡◌ {A = Option BatchFault} (cond (not c) (Some MixedAlerts) None) (cond c None (Some MixedAlerts))
    turned true = refl
    turned false = refl

-- a batch has an alert, and at most 2,048
pub batch_some : (xs : List model.Alert) → batch_fault xs ≡ None → 1 ≤ length xs
batch_some [] h = cc
batch_some (x ∷ xs) h = omega arith

pub batch_few : (xs : List model.Alert) → batch_fault xs ≡ None → length xs ≤ 2048
batch_few [] h = omega arith
batch_few (x ∷ xs) h = let e : nat_lt 2048 (suc (length xs)) ≡ false = enough (nat_lt 2048 (suc (length xs))) _ h in grind (arith, e)
  where
    enough : (b : Bool) (r : Option BatchFault) → cond b (Some TooManyAlerts) r ≡ None → b ≡ false
    enough true r k = cc
    enough false r k = refl

-- alerts of one observer and one configuration are a batch, if they are some and not too many
own_alike : (from : Process) (id : List ℕ) (a : model.Alert) (xs : List AlertItem) → a.observer ≡ from → a.config ≡ id → list_all (is_alike a) (batch_alerts from id xs) ≡ true
own_alike from id a [] o c = refl
own_alike from id a (x ∷ xs) o c =
    and_from (is_alike a (read_as from id x)) _
    (and_from (same_bytes from a.observer) _ ((same_bytes_decides from a.observer).1 (sym o)) ((same_bytes_decides id a.config).1 (sym c)))
    (own_alike from id a xs o c)

-- alerts of one observer and one configuration that are some and not too many are a batch
pub fits_when : (from : Process) (id : List ℕ) (xs : List AlertItem) → 1 ≤ length (batch_alerts from id xs) → length (batch_alerts from id xs) ≤ 2048 → batch_fault (batch_alerts from id xs) ≡ None
fits_when from id [] some few = absurd (omega (arith, some))
fits_when from id (x ∷ xs) some few =
    let enough : nat_lt 2048 (length (batch_alerts from id (x ∷ xs))) ≡ false = grind (arith, few) in
    let same = own_alike from id (read_as from id x) xs refl refl in
    rw (enough, same) refl

pub listed_fits : (l : ListedAlerts) → 1 ≤ length (alerts_in l) → length (alerts_in l) ≤ 2048 → batch_fault (alerts_in l) ≡ None
listed_fits l some few = fits_when l.observer l.config l.items some few

-- ---- what the alerts of a batch have in common

alike_parts : (a : Alert) (xs : List Alert) → list_all (λ y. is_alike (alert_of a) (alert_of y)) xs ≡ true → All (λ y. (y.observer ≡ a.observer) × (y.config ≡ a.config)) xs
alike_parts a [] h k d l = absurd (omega (arith, l))
alike_parts a (x ∷ xs) h zero d l =
    let p = and_parts (is_alike (alert_of a) (alert_of x)) (list_all (λ y. is_alike (alert_of a) (alert_of y)) xs) h in
    let q = and_parts (same_bytes x.observer a.observer) (same_bytes x.config a.config) p.0 in
    ((same_bytes_decides x.observer a.observer).0 q.0, (same_bytes_decides x.config a.config).0 q.1)
alike_parts a (x ∷ xs) h (suc k) d l = alike_parts a xs (and_parts (is_alike (alert_of a) (alert_of x)) (list_all (λ y. is_alike (alert_of a) (alert_of y)) xs) h).1 k d (omega (arith, l))

-- the alerts of a batch have the observer and the configuration of the first
pub alike_first : (xs : List Alert) (d : Alert) → batch_fault (map alert_of xs) ≡ None → All (λ y. (y.observer ≡ (slice_index_or xs 0 d).observer) × (y.config ≡ (slice_index_or xs 0 d).config)) xs
alike_first [] d h k e l = absurd (omega (arith, l))
alike_first (x ∷ xs) d h zero e l = (refl, refl)
alike_first (x ∷ xs) d h (suc k) e l = alike_parts x xs (sym (all_mapped (alert_of x) xs) ∙ alike _ (list_all (is_alike (alert_of x)) (map alert_of xs)) h) k e (omega (arith, l))
  where
    alike : (c m : Bool) → cond c (Some TooManyAlerts) (cond (not m) (Some MixedAlerts) None) ≡ None → m ≡ true
    alike true m f = cc
    alike false true f = refl
    alike false false f = cc

-- ---- stretches of an outbox

sound_alike : (t : Observers) (owner : Process) (a : model.Alert) (xs : List model.Alert) → is_sound t owner a ≡ true → All (λ x. is_sound t owner x ≡ true) xs → list_all (is_alike a) xs ≡ true
sound_alike t owner a [] s h = refl
sound_alike t owner a (x ∷ xs) s h =
    let p = parts_of t owner a s in
    let q = parts_of t owner x (h 0 x (omega arith)) in
    and_from (is_alike a x) _
    (and_from (same_bytes x.observer a.observer) _ ((same_bytes_decides x.observer a.observer).1 (q.observer ∙ sym p.observer)) ((same_bytes_decides x.config a.config).1 (q.config ∙ sym p.config)))
    (sound_alike t owner a xs s (λ k d l. h (suc k) d (omega (arith, l))))

sound_batch : (t : Observers) (owner : Process) (xs : List model.Alert) → All (λ x. is_sound t owner x ≡ true) xs → length xs ≤ 2048 → 1 ≤ length xs → batch_fault xs ≡ None
sound_batch t owner [] h few some = absurd (omega (arith, some))
sound_batch t owner (a ∷ xs) h few some =
    let enough : nat_lt 2048 (length (a ∷ xs)) ≡ false = grind (arith, few) in
    let alike = sound_alike t owner a xs (h 0 a (omega arith)) (λ k d l. h (suc k) d (omega (arith, l))) in
    rw (enough, alike) refl

-- what is not flushed of an outbox is a batch, if there is any
pub unflushed_batch : (t : Observers) (owner : Process) (o : Outbox) (i : Index) → IsOutbox t owner o i → 1 ≤ length (unflushed o) → batch_fault (unflushed o) ≡ None
unflushed_batch t owner o i h some =
    sound_batch t owner (unflushed o)
    (All-take (λ x. is_sound t owner x ≡ true) 2048 (drop o.flushed o.raised) (All-drop (λ x. is_sound t owner x ≡ true) o.flushed o.raised h.raised.sound))
    (let l = length-take 2048 (drop o.flushed o.raised) in grind (arith, l)) some

-- alerts that are some are their own batch
pub some_batch : (xs : List model.Alert) → 1 ≤ length xs → batch_of xs ≡ Some xs
some_batch [] h = absurd (omega (arith, h))
some_batch (x ∷ xs) h = refl

-- without alerts there is no batch
pub no_batch : (xs : List model.Alert) → length xs ≡ 0 → batch_of xs ≡ None
no_batch [] h = refl
no_batch (x ∷ xs) h = absurd (omega (arith, h))

-- an outbox of which this many alerts were flushed
pub flush_is : (raised : List model.Alert) (f n : ℕ) {o : Outbox} → record { raised = raised; flushed = f } ≡ o → n ≡ length (unflushed (record { raised = raised; flushed = f }))
    → record { raised = raised; flushed = f + n } ≡ flush o
flush_is raised f n e many = ap (λ k. record { raised = raised; flushed = f + k }) many ∙ ap flush e

-- how many alerts are flushed at once
pub as_many : (raised : List model.Alert) (f n left : ℕ) → left ≡ length raised - f → n ≡ min left 2048 → n ≡ length (unflushed (record { raised = raised; flushed = f }))
as_many raised f n left l e =
    let whole = length-take 2048 (drop f raised) in
    let rest = length-drop f raised in
    grind (arith, whole, rest, l, e)

-- as many as there are, of those that are not flushed
pub stretch_is : (l m : ListedAlerts) (f n : ℕ) → m ≡ record l { items = take n (drop f l.items) } → n ≡ length (unflushed (record { raised = alerts_in l; flushed = f }))
    → alerts_in m ≡ unflushed (record { raised = alerts_in l; flushed = f })
stretch_is l m f n e many =
    ap alerts_in e
    ∙ map_take n (drop f l.items) ∙ ap (take n) (map_drop f l.items)
    ∙ take_fewer n 2048 (drop f (alerts_in l)) many
  where
    map_take : (k : ℕ) (xs : List AlertItem) → map (read_as l.observer l.config) (take k xs) ≡ take k (map (read_as l.observer l.config) xs)
    map_take zero xs = refl
    map_take (suc k) [] = refl
    map_take (suc k) (x ∷ xs) = ap (λ r. read_as l.observer l.config x ∷ r) (map_take k xs)

    map_drop : (k : ℕ) (xs : List AlertItem) → map (read_as l.observer l.config) (drop k xs) ≡ drop k (map (read_as l.observer l.config) xs)
    map_drop zero xs = refl
    map_drop (suc k) [] = refl
    map_drop (suc k) (x ∷ xs) = map_drop k xs

    take_fewer : (k most : ℕ) (xs : List model.Alert) → k ≡ length (take most xs) → take k xs ≡ take most xs
    take_fewer k most xs h =
        let cut = length-take most xs in
        elim (cases_lt (length xs) most) [
          | inl less ↦ take_all k xs (grind (arith, h, cut, less)) ∙ sym (take_all most xs (omega (arith, less)))
          | inr enough ↦ let is : k ≡ most = grind (arith, h, cut, enough) in ap (λ j. take j xs) is
        ]
