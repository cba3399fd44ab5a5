-- The alerts that are read as a batch are one.
use Rattle.std.proofs.Common.{◌≡◌, ℕ, suc, ◌≤◌, true, false, List, [], ◌∷◌, ◌++◌, All, length, length-append, drop, arith, refl, sym, ap, ◌∙◌, nat_lt, Some, None}
use Rattle.std.specs.Prelude.{slice_get, Result, Ok}
use Rattle.rapid_model.specs.Tags.{TagsFault}
use Rattle.std.specs.List.{list_all}
use Rattle.std.proofs.lemmas.List.Elements.{All-map}
use Rattle.rapid_model.specs.Process.{Process, same_bytes}
use Rattle.rapid_model.specs.Alert.{Alert, Kind}
use Rattle.rapid_model.specs.Batch.{batch_fault, is_alike}
use Rattle.rapid_model.proofs.Orders.{same_bytes_decides}
use Rattle.rapid_model.specs.Message.{AlertItem, alert_of as read_as}
use Rattle.rapid_alerts.specs.Alerts.{ListedAlerts, alerts_in}
use Rattle.rapid_alerts.specs.Spelt.{Adds, IsBefore}
use Rattle.rapid_alerts.proofs.Listing.{at_end}
use Rattle.rapid_message.specs.Bodies.{IsFrom}
use Rattle.std.proofs.lemmas.Bool.{and_from}

alike : (from : Process) (id : List ℕ) (a x : Alert) → IsFrom from id a → IsFrom from id x → is_alike a x ≡ true
alike from id a x first other =
    and_from (same_bytes x.observer a.observer) (same_bytes x.config a.config) ((same_bytes_decides x.observer a.observer).1 (other.0 ∙ sym first.0)) ((same_bytes_decides x.config a.config).1 (other.1 ∙ sym first.1))

all_alike : (from : Process) (id : List ℕ) (a : Alert) (xs : List Alert) → IsFrom from id a → All (IsFrom from id) xs → list_all (is_alike a) xs ≡ true
all_alike from id a [] first h = refl
all_alike from id a (x ∷ xs) first h =
    and_from (is_alike a x) (list_all (is_alike a) xs) (alike from id a x first (h 0 x (omega arith))) (all_alike from id a xs first (λ i d l. h (suc i) d (omega (arith, l))))

-- 1 to 2,048 alerts of one observer for one configuration are a batch
pub are_a_batch : (from : Process) (id : List ℕ) (xs : List Alert) → All (IsFrom from id) xs → 1 ≤ length xs → length xs ≤ 2048 → batch_fault xs ≡ None
are_a_batch from id [] h some few = absurd (omega (arith, some))
are_a_batch from id (a ∷ xs) h some few =
    let enough : nat_lt 2048 (length (a ∷ xs)) ≡ false = grind (arith, few) in
    let same = all_alike from id a xs (h 0 a (omega arith)) (λ i d l. h (suc i) d (omega (arith, l))) in
    rw (enough, same) refl

-- they are of its observer, for its configuration
pub listed_from : (l : ListedAlerts) (from : Process) (id : List ℕ) → l.observer ≡ from → l.config ≡ id → All (IsFrom from id) (alerts_in l)
listed_from l from id o c = All-map (IsFrom from id) (read_as l.observer l.config) l.items (λ i d k. (o, c))

-- the last of a list is told
last_same : {A : Type 0} (xs ys : List A) (x y : A) → xs ++ x ∷ [] ≡ ys ++ y ∷ [] → x ≡ y
last_same xs ys x y e =
    let long : length xs ≡ length ys = omega (arith, ap length e, length-append xs (x ∷ []), length-append ys (y ∷ [])) in
    let found : Some x ≡ Some y = sym (at_end xs x) ∙ ap (λ l. slice_get l (length xs)) e ∙ ap (slice_get (ys ++ y ∷ [])) long ∙ at_end ys y in
    cc

-- what was read of the alert that was added last
pub is_before : (old new : ListedAlerts) (ring : ℕ) (kind : Kind) (bytes : List ℕ) (n : ℕ) → Adds old new ring kind bytes n → IsBefore new bytes
is_before old new ring kind bytes n adds xs x is =
    let given : AlertItem → Result (Process × List ℕ) TagsFault = λ y. Ok (y.subject, drop n bytes) in
    (n, adds.read ∙ ap given (last_same old.items xs _ x (sym (ap (λ l. l.items) adds.added) ∙ is)))

-- no alert is the last of none
pub none_before : (l : ListedAlerts) (bytes : List ℕ) → l.items ≡ [] → IsBefore l bytes
none_before l bytes none xs x is = absurd (omega (arith, ap length (sym none ∙ is), length-append xs (x ∷ [])))
