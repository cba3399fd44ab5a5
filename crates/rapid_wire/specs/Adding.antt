-- Alerts that are added to a list as they are read.
use Rattle.std.specs.Prelude.{◌≡◌, ℕ, List, [], ◌∷◌, ◌++◌, drop, Some}
use Rattle.rapid_model.specs.Message.{AlertItem}
use Rattle.rapid_alerts.specs.Alerts.{ListedAlerts}
use Rattle.rapid_wire.specs.Reading.{item_at}

-- The alert in front of the bytes is added at the end, and takes so many of them.
pub record AddsItem (old new : ListedAlerts) (bytes : List ℕ) (n : ℕ) : Type 0 where
  pub item : AlertItem
  pub read : item_at bytes ≡ Some (item, drop n bytes)
  pub added : new ≡ record old { items = old.items ++ item ∷ [] }
