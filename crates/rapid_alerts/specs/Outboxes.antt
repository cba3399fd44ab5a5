-- Clauses of public calls cite this file.
-- Outboxes with their tables and owners, and what they keep to find alerts again.
use Rattle.std.specs.Prelude.{◌≡◌, ◌≤◌, ℕ, Bool, true, not, ◌&&◌, ◌||◌, nat_lt, List, [], ◌∷◌, length, map, filter, All, if◌then◌else◌, Option, Some, None, refl}
use Rattle.std.specs.List.{list_any}
use Rattle.std.specs.FinSet as set
use Rattle.std.specs.Coded.{Coded, code_by, coded×, coded_ℕ, coded_list}
use Rattle.rapid_model.specs.Process.{Process, ProcessSet, same_bytes}
use Rattle.rapid_model.specs.Ring.{Observers}
use Rattle.rapid_model.specs.Alert.{Kind, Alert, is_remove, is_well_formed, kind_fits, same_alert}
use Rattle.rapid_model.specs.Reports.{Reports, report_of}
use Rattle.rapid_model.specs.Outbox.{Outbox, Raising, Raised, Already, OldConfiguration, WrongObserver, WrongKind, TooManyJoiners, is_own}
use Rattle.rapid_model.specs.Codes.{bytes_code, processes_code, reports_code}
use Rattle.rapid_model.specs.Limits.{most_joiners}
use Rattle.rapid_alerts.specs.Kinds.{kind_code}

-- An outbox, its table and its owner.
pub record OwnedOutbox (T : Type 0) : Type 0 where
  pub table : T
  pub owner : Process
  pub outbox : Outbox

-- What alerts report, and the joiners that they are on.
pub record Index : Type 0 where
  pub reports : Reports
  pub joiners : ProcessSet

-- The index of no alerts.
abbrev pub empty_index : Index
empty_index = record { reports = set.empty; joiners = set.empty }

-- The subjects of the alerts that ask to let a joiner in.
abbrev pub joining : List Alert → List Process
joining xs = map (λ a. a.subject) (filter (λ a. not (is_remove a.kind)) xs)

-- The index of these alerts.
abbrev pub index_of : List Alert → Index
index_of xs = record { reports = set.from_list (map report_of xs); joiners = set.from_list (joining xs) }

-- The index with one more alert.
abbrev pub indexed : Index → Alert → Index
indexed i a =
    record {
      reports = set.insert i.reports (report_of a);
      joiners = if is_remove a.kind then i.joiners else set.insert i.joiners a.subject;
    }

-- The alert is on no 513th joiner.
abbrev pub has_room : Index → Alert → Bool
has_room i a = is_remove a.kind || set.contains i.joiners a.subject || nat_lt (set.len i.joiners) most_joiners

-- The code of indexes.
abbrev pub index_code : Coded Index
index_code =
    code_by (Reports × ProcessSet)
    (coded× reports_code processes_code)
    (λ i. (i.reports, i.joiners))
    (λ p. record { reports = p.0; joiners = p.1 })
    (λ _. refl)

-- Why an alert is not raised, whatever was raised before: the first that holds.
abbrev pub refusal : Observers → Process → Alert → Option Raising
refusal t owner a =
    if not (same_bytes a.config t.id) then Some OldConfiguration
    else if not (is_own t owner a) then Some WrongObserver
    else if not (kind_fits t a) then Some WrongKind
    else None

-- What is answered to an alert, by its refusal, by whether what it reports was reported, and by the room.
abbrev pub answered : Option Raising → Bool → Bool → Raising
answered (Some x) seen room = x
answered None seen room = if seen then Already else if not room then TooManyJoiners else Raised

-- What is answered to an alert, by the index of those that were raised.
abbrev pub verdict : Observers → Process → Index → Alert → Raising
verdict t owner i a = answered (refusal t owner a) (set.contains i.reports (report_of a)) (has_room i a)

-- The code of alerts.
abbrev pub alert_code : Coded Alert
alert_code =
    code_by (List ℕ × (List ℕ × (ℕ × (Kind × List ℕ))))
    (coded× bytes_code (coded× bytes_code (coded× coded_ℕ (coded× kind_code bytes_code))))
    (λ a. (a.observer, (a.subject, (a.ring, (a.kind, a.config)))))
    (λ p. record { observer = p.0; subject = p.1.0; ring = p.1.1.0; kind = p.1.1.1.0; config = p.1.1.1.1 })
    (λ _. refl)

-- The code of outboxes.
abbrev pub outbox_code : Coded Outbox
outbox_code =
    code_by (List Alert × ℕ) (coded× (coded_list alert_code) coded_ℕ) (λ o. (o.raised, o.flushed)) (λ p. record { raised = p.0; flushed = p.1 }) (λ _. refl)

-- The code of outboxes with their tables.
abbrev pub owned_code : {T : Type 0} → Coded T → Coded (OwnedOutbox T)
owned_code {T} code =
    code_by (T × (Process × Outbox))
    (coded× code (coded× bytes_code outbox_code))
    (λ o. (o.table, (o.owner, o.outbox)))
    (λ p. record { table = p.0; owner = p.1.0; outbox = p.1.1 })
    (λ _. refl)

-- The alert is the owner's, and well-formed.
abbrev pub is_sound : Observers → Process → Alert → Bool
is_sound t owner a = same_bytes a.observer owner && is_well_formed t a

-- No two of these alerts are the same.
abbrev pub are_once : List Alert → Bool
are_once [] = true
are_once (a ∷ xs) = not (list_any (same_alert a) xs) && are_once xs

-- Each of these alerts is the owner's and well-formed, and none stands there twice.
pub record AreRaised (t : Observers) (owner : Process) (xs : List Alert) : Type 0 where
  pub sound : All (λ a. is_sound t owner a ≡ true) xs
  pub once : are_once xs ≡ true

-- What an outbox keeps: alerts, their index, and how many of them are flushed.
pub record IsOutbox (t : Observers) (owner : Process) (o : Outbox) (i : Index) : Type 0 where
  pub raised : AreRaised t owner o.raised
  pub index : i ≡ index_of o.raised
  pub flushed : o.flushed ≤ length o.raised
