-- Clauses of public calls cite this file.
-- Messages that change nothing, since an equal one was let through before in the same configuration.
use Rattle.std.specs.Prelude.{◌≡◌, ℕ, ◌+◌, ◌<◌, Bool, true, false, List, [], ◌∷◌, ◌++◌, Contains, Option, Some, None, if◌then◌else◌}
use Rattle.rapid_model.specs.Bytes.{ConfigurationId}
use Rattle.rapid_model.specs.Process.{same_bytes}
use Rattle.rapid_model.specs.Message.{Message, Body, Batch, FastVote, Prepare, Promise, Accept, Accepted, Decision, PreJoin, Reply, JoinRequest, Confirm, Probe, ProbeAck, Leave}
use Rattle.rapid_model.specs.Limits.{question_period}

-- A message that was let through, and how many ticks there had been then.
pub record Passed : Type 0 where
  pub message : Message
  pub ticks : ℕ

-- An equal message was let through.
abbrev pub WasPassed : List Passed → Message → Type 0
WasPassed passed m = (t : ℕ) × Contains passed (record { message = m; ticks = t })

-- An equal message was let through within these ticks.
abbrev pub WasPassedWithin : ℕ → ℕ → List Passed → Message → Type 0
WasPassedWithin within now passed m = (t : ℕ) × Contains passed (record { message = m; ticks = t }) × (now < t + within)

-- In this configuration a message with this body is a repeat. These messages were let through since it was entered, and
-- this many ticks have passed. A fast vote, a batch and a request for this configuration are repeats if they were let
-- through before, and a question if it was within ten ticks.
abbrev pub IsRepeatIn : ConfigurationId → ℕ → List Passed → Message → Body → Type 0
IsRepeatIn here now passed m (Batch id xs) = (id ≡ here) × WasPassed passed m
IsRepeatIn here now passed m (FastVote id v) = (id ≡ here) × WasPassed passed m
IsRepeatIn here now passed m (JoinRequest id k) = (id ≡ here) × WasPassed passed m
IsRepeatIn here now passed m PreJoin = WasPassedWithin question_period now passed m
IsRepeatIn here now passed m (Prepare id b) = ⊥
IsRepeatIn here now passed m (Promise id b vote) = ⊥
IsRepeatIn here now passed m (Accept id b v) = ⊥
IsRepeatIn here now passed m (Accepted id b v) = ⊥
IsRepeatIn here now passed m (Decision id v) = ⊥
IsRepeatIn here now passed m (Reply j a) = ⊥
IsRepeatIn here now passed m (Confirm c) = ⊥
IsRepeatIn here now passed m (Probe id) = ⊥
IsRepeatIn here now passed m (ProbeAck id) = ⊥
IsRepeatIn here now passed m (Leave id k) = ⊥

abbrev pub IsRepeat : ConfigurationId → ℕ → List Passed → Message → Type 0
IsRepeat here now passed m = IsRepeatIn here now passed m m.body

-- The messages let through, after one more was, or was dropped.
abbrev pub passed_after : Bool → Message → ℕ → List Passed → List Passed
passed_after true m now passed = passed ++ record { message = m; ticks = now } ∷ []
passed_after false m now passed = passed

-- Whether members alone are to say this in this configuration; none if repeats of it are not looked for.
abbrev pub of_members_in : ConfigurationId → Body → Option Bool
of_members_in here (Batch id xs) = if same_bytes id here then Some true else None
of_members_in here (FastVote id v) = if same_bytes id here then Some true else None
of_members_in here (JoinRequest id k) = if same_bytes id here then Some false else None
of_members_in here PreJoin = Some false
of_members_in here (Prepare id b) = None
of_members_in here (Promise id b vote) = None
of_members_in here (Accept id b v) = None
of_members_in here (Accepted id b v) = None
of_members_in here (Decision id v) = None
of_members_in here (Reply j a) = None
of_members_in here (Confirm c) = None
of_members_in here (Probe id) = None
of_members_in here (ProbeAck id) = None
of_members_in here (Leave id k) = None

-- If it asks to join, it is within this many ticks.
abbrev pub IsTimely : Body → ℕ → ℕ → Type 0
IsTimely PreJoin before now = now < before + question_period
IsTimely (Batch id xs) before now = Unit {0}
IsTimely (FastVote id v) before now = Unit {0}
IsTimely (JoinRequest id k) before now = Unit {0}
IsTimely (Prepare id b) before now = Unit {0}
IsTimely (Promise id b vote) before now = Unit {0}
IsTimely (Accept id b v) before now = Unit {0}
IsTimely (Accepted id b v) before now = Unit {0}
IsTimely (Decision id v) before now = Unit {0}
IsTimely (Reply j a) before now = Unit {0}
IsTimely (Confirm c) before now = Unit {0}
IsTimely (Probe id) before now = Unit {0}
IsTimely (ProbeAck id) before now = Unit {0}
IsTimely (Leave id k) before now = Unit {0}
