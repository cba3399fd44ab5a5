-- Batches: the alerts that go out together.
use Rattle.std.specs.Prelude.{◌&&◌, Bool, not, List, [], ◌∷◌, length, nat_lt, if◌then◌else◌, Option, Some, None}
use Rattle.std.specs.List.{list_all}
use Rattle.rapid_model.specs.Limits.{most_alerts}
use Rattle.rapid_model.specs.Process.{same_bytes}
use Rattle.rapid_model.specs.Alert.{Alert}

-- A batch is 1 to 2,048 alerts of one observer and one configuration.
abbrev pub Batch : Type 0
Batch = List Alert

-- The reasons for which alerts are no batch.
pub data BatchFault : Type 0 where
  EmptyBatch : BatchFault
  TooManyAlerts : BatchFault
  MixedAlerts : BatchFault

-- Two alerts are of one observer and one configuration.
abbrev pub is_alike : Alert → Alert → Bool
is_alike a b = same_bytes b.observer a.observer && same_bytes b.config a.config

-- Why alerts are no batch: the first that holds.
abbrev pub batch_fault : List Alert → Option BatchFault
batch_fault [] = Some EmptyBatch
batch_fault (a ∷ xs) =
    if nat_lt most_alerts (length (a ∷ xs)) then Some TooManyAlerts
    else if not (list_all (is_alike a) xs) then Some MixedAlerts
    else None

-- The batch of alerts, if there are any.
abbrev pub batch_of : List Alert → Option Batch
batch_of [] = None
batch_of (a ∷ xs) = Some (a ∷ xs)
