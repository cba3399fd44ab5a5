-- Whose the alerts of a batch are; they are read back from what it says.
use Rattle.std.proofs.Common.{◌≡◌, ℕ, suc, Bool, true, false, not, List, [], ◌∷◌, All, map, refl, sym, ap₂, ◌∙◌, arith, None}
use Rattle.rapid_model.specs.Process.{Process, same_bytes}
use Rattle.rapid_model.specs.Alert.{Alert}
use Rattle.rapid_model.specs.Batch.{batch_fault}
use Rattle.rapid_model.specs.Message.{item_of, alert_of, batch_alerts}
use Rattle.rapid_endpoint.specs.Same.{equal_when_same, same_when_equal}
use Rattle.rapid_message.specs.Bodies.{IsFrom}

read_back : (from : Process) (id : List ℕ) (a : Alert) → IsFrom from id a → alert_of from id (item_of a) ≡ a
read_back from id a is =
    λ i. record { observer = sym is.0 i; subject = a.subject; ring = a.ring; kind = a.kind; config = sym is.1 i }

-- the alerts that a process says of its own are those that are taken of it
pub batch_alerts_are : (from : Process) (id : List ℕ) (xs : List Alert) → All (IsFrom from id) xs → batch_alerts from id (map item_of xs) ≡ xs
batch_alerts_are from id [] h = refl
batch_alerts_are from id (x ∷ xs) h =
    ap₂ (λ (y : Alert) (ys : List Alert). y ∷ ys) (read_back from id x (h 0 x (omega arith))) (batch_alerts_are from id xs (λ i d l. h (suc i) d (omega (arith, l))))

-- what was compared and not found to differ is one
together : (xs ys : List ℕ) → false ≡ not (same_bytes xs ys) → xs ≡ ys
together xs ys h = equal_when_same xs ys (by (same_bytes xs ys) h)
  where
    by : (b : Bool) → false ≡ not b → b ≡ true
    by true k = refl
    by false k = cc

-- what was found to differ is not one
apart : (xs ys : List ℕ) → true ≡ not (same_bytes xs ys) → xs ≡ ys → ⊥
apart xs ys h e = let same = same_when_equal xs ys e in cc

-- alerts of one observer for one configuration are from the sender if these are the sender and the identifier
pub all_from : (observer sender : Process) (config id : List ℕ) (xs : List Alert) →
    All (λ a. a.observer ≡ observer) xs → All (λ a. a.config ≡ config) xs →
    false ≡ not (same_bytes observer sender) → false ≡ not (same_bytes config id) → All (IsFrom sender id) xs
all_from observer sender config id xs h k same there = λ i d l. (h i d l ∙ together observer sender same, k i d l ∙ together config id there)

pub all_own : (observer sender : Process) (xs : List Alert) → All (λ a. a.observer ≡ observer) xs → false ≡ not (same_bytes observer sender) → All (λ a. a.observer ≡ sender) xs
all_own observer sender xs h same = λ i d l. h i d l ∙ together observer sender same

-- a batch of another observer has not the sender's alerts alone
pub others : (observer sender : Process) (xs : List Alert) → batch_fault xs ≡ None → All (λ a. a.observer ≡ observer) xs →
    true ≡ not (same_bytes observer sender) → All (λ a. a.observer ≡ sender) xs → ⊥
others observer sender [] some h off own = cc
others observer sender (x ∷ xs) some h off own = apart observer sender off (sym (h 0 x (omega arith)) ∙ own 0 x (omega arith))

-- nor has a batch for another configuration alerts for this one alone
pub elsewhere : (config id : List ℕ) (xs : List Alert) → batch_fault xs ≡ None → All (λ a. a.config ≡ config) xs →
    true ≡ not (same_bytes config id) → All (λ a. a.config ≡ id) xs → ⊥
elsewhere config id [] some h off own = cc
elsewhere config id (x ∷ xs) some h off own = apart config id off (sym (h 0 x (omega arith)) ∙ own 0 x (omega arith))
