-- Clauses of public calls cite this file.
-- Alerts on processes that are spelt, and why one is not added.
use Rattle.std.specs.Prelude.{◌≡◌, ℕ, List, [], ◌∷◌, ◌++◌, drop, Ok, Err}
use Rattle.rapid_model.specs.Process.{Process, process_at}
use Rattle.rapid_model.specs.Alert.{Kind}
use Rattle.rapid_model.specs.Message.{AlertItem}
use Rattle.rapid_endpoint.specs.ReadErrors.{fault_of}
use Rattle.rapid_alerts.specs.declared.errors.SpeltError.{SpeltError}
use Rattle.rapid_alerts.specs.declared.errors.SpeltError.TheVariants.{NoProcess, OutOfMemory}
use Rattle.rapid_alerts.specs.Alerts.{ListedAlerts}

-- An alert is added at the end, on the process in front of the bytes, which takes so many of them.
pub record Adds (old new : ListedAlerts) (ring : ℕ) (kind : Kind) (bytes : List ℕ) (n : ℕ) : Type 0 where
  pub subject : Process
  pub read : process_at bytes ≡ Ok (subject, drop n bytes)
  pub added : new ≡ record old { items = old.items ++ (record { ring = ring; kind = kind; subject = subject }) ∷ [] }

-- What the error says of the bytes. Out of memory comes only if a process is in front of them.
abbrev pub Says : List ℕ → SpeltError → Type 0
Says bytes (NoProcess e) = process_at bytes ≡ Err (fault_of e)
Says bytes OutOfMemory = (x : Process × List ℕ) × (process_at bytes ≡ Ok x)

-- The subject of the last alert, if there is one, is in front of the bytes.
abbrev pub IsBefore : ListedAlerts → List ℕ → Type 0
IsBefore l bytes = (xs : List AlertItem) (x : AlertItem) → l.items ≡ xs ++ x ∷ [] → (n : ℕ) × (process_at bytes ≡ Ok (x.subject, drop n bytes))
