-- Clauses of public calls cite this file.
-- The errors of batches and of raising, and what they report.
use Rattle.std.specs.Prelude.{◌≡◌, ℕ, Option, Some, None}
use Rattle.rapid_model.specs.Batch as batch
use Rattle.rapid_model.specs.Outbox as outbox
use Rattle.rapid_alerts.specs.declared.errors.BatchError.{BatchError}
use Rattle.rapid_alerts.specs.declared.errors.BatchError.TheVariants as b
use Rattle.rapid_alerts.specs.declared.errors.RaiseError.{RaiseError}
use Rattle.rapid_alerts.specs.declared.errors.RaiseError.TheVariants as r
use Rattle.rapid_alerts.specs.declared.outbox.Raising.{Raising}
use Rattle.rapid_alerts.specs.declared.outbox.Raising.TheVariants.{Raised, Already}

-- The number of an error.
abbrev pub batch_code : BatchError → ℕ
batch_code b.EmptyBatch = 1
batch_code b.TooManyAlerts = 2
batch_code b.MixedAlerts = 3
batch_code b.OutOfMemory = 99

-- The error reports exactly this fault; out of memory is reported only if there is none.
abbrev pub Reports : Option batch.BatchFault → BatchError → Type 0
Reports f b.EmptyBatch = f ≡ Some batch.EmptyBatch
Reports f b.TooManyAlerts = f ≡ Some batch.TooManyAlerts
Reports f b.MixedAlerts = f ≡ Some batch.MixedAlerts
Reports f b.OutOfMemory = f ≡ None

-- The error, if there is one, reports exactly this fault.
abbrev pub ReportsIfAny : Option batch.BatchFault → Option BatchError → Type 0
ReportsIfAny f None = f ≡ None
ReportsIfAny f (Some e) = Reports f e

-- The number of an error.
abbrev pub raise_code : RaiseError → ℕ
raise_code r.WrongObserver = 1
raise_code r.WrongKind = 2
raise_code r.OldConfiguration = 3
raise_code r.TooManyJoiners = 4
raise_code r.OutOfMemory = 99

-- What was answered to an alert that was not refused.
abbrev pub answer_of : Raising → outbox.Raising
answer_of Raised = outbox.Raised
answer_of Already = outbox.Already

-- The error is this answer; out of memory is reported only if the alert would have been raised.
abbrev pub Refuses : outbox.Raising → RaiseError → Type 0
Refuses x r.WrongObserver = x ≡ outbox.WrongObserver
Refuses x r.WrongKind = x ≡ outbox.WrongKind
Refuses x r.OldConfiguration = x ≡ outbox.OldConfiguration
Refuses x r.TooManyJoiners = x ≡ outbox.TooManyJoiners
Refuses x r.OutOfMemory = x ≡ outbox.Raised

-- The error, if there is one, is this answer.
abbrev pub RefusesIfAny : Option outbox.Raising → Option RaiseError → Type 0
RefusesIfAny x None = x ≡ None
RefusesIfAny None (Some e) = ⊥
RefusesIfAny (Some x) (Some e) = Refuses x e
