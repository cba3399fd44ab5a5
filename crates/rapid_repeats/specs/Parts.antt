-- Clauses of private calls cite this file, and so does the value of a filter.
-- The parts of messages that a filter keeps.
use Rattle.std.specs.Prelude.{◌≡◌, ◌⊎◌, ◌≤◌, ℕ, Bool, true, false, List, [], ◌++◌, map, length, get_or, All, Contains, Option, Some, None, if◌then◌else◌}
use Rattle.std.specs.declared.cmp.Ordering.{Ordering}
use Rattle.std.specs.BTreeMap.{insert_entry}
use Rattle.rapid_model.specs.Alert.{Alert}
use Rattle.rapid_model.specs.Bytes.{ConfigurationId}
use Rattle.rapid_model.specs.Configuration.{Configuration, configuration_id, position_of}
use Rattle.rapid_model.specs.Cut.{Cut}
use Rattle.rapid_model.specs.Limits.{most_members}
use Rattle.rapid_model.specs.Message.{Message, Body, Batch, FastVote, PreJoin, JoinRequest, item_of}
use Rattle.rapid_model.specs.Process.{Process, same_bytes}
use Rattle.rapid_message.specs.Bodies.{IsFrom}
use Rattle.rapid_repeats.specs.declared.said.Asked.{Asked}
use Rattle.rapid_repeats.specs.declared.said.Asked.TheVariants.{Question, Request}
use Rattle.rapid_repeats.specs.Repeating.{Passed, IsRepeat, passed_after}
use Rattle.rapid_repeats.specs.Remembering.{Filter, Remembers, IsRepeatFor, IsSought, KeepsSame}

-- ---- messages by their parts

-- The member at a place.
abbrev pub speaker : Configuration → ℕ → Process
speaker c place = get_or c.members place []

-- The place of a process that says something of this configuration, if it is a member.
abbrev pub place_in : Configuration → ConfigurationId → Process → Option ℕ
place_in c id p = if same_bytes id (configuration_id c) then position_of c p else None

-- A batch of the member at a place.
abbrev pub batch_by : Configuration → ℕ × List Alert → Message
batch_by c e = record { sender = speaker c e.0; body = Batch (configuration_id c) (map item_of e.1) }

-- A fast vote of the member at a place.
abbrev pub vote_by : Configuration → ℕ × Cut → Message
vote_by c e = record { sender = speaker c e.0; body = FastVote (configuration_id c) e.1 }

-- What a process says that asks this.
abbrev pub asked_in : ConfigurationId → Asked → Body
asked_in here Question = PreJoin
asked_in here (Request ring) = JoinRequest here ring

-- What a process asked, and when.
abbrev pub asked_by : Configuration → (Process × Asked) × ℕ → Passed
asked_by c e =
    record { message = record { sender = e.0.0; body = asked_in (configuration_id c) e.0.1 }; ticks = e.1 }

-- The filter that keeps these parts.
abbrev pub filter_of : Configuration → ℕ → List (ℕ × List Alert) → List (ℕ × Cut) → List ((Process × Asked) × ℕ) → Filter
filter_of c ticks batches votes asked =
    record {
      configuration = c;
      ticks = ticks;
      members = map (batch_by c) batches ++ map (vote_by c) votes;
      others = map (asked_by c) asked;
    }

-- The member there has this place.
abbrev pub IsPlace : Configuration → ℕ → Type 0
IsPlace c place = position_of c (speaker c place) ≡ Some place

-- These are alerts of the member there, for this configuration.
abbrev pub IsBatchThere : Configuration → ℕ × List Alert → Type 0
IsBatchThere c e = IsPlace c e.0 × All (IsFrom (speaker c e.0) (configuration_id c)) e.1

-- A filter can keep these of members: each is of the member at its place, and there is one of each at most.
pub record AreParts (c : Configuration) (bs : List (ℕ × List Alert)) (vs : List (ℕ × Cut)) : Type 0 where
  pub batches : All (IsBatchThere c) bs
  pub votes : All (λ e. IsPlace c e.0) vs
  pub few_batches : length bs ≤ most_members
  pub few_votes : length vs ≤ most_members

-- ---- what is kept after one message more

-- The value is put under its key, or all stays.
abbrev pub Keeps : {K X : Type 0} → (K → K → Ordering) → List (K × X) → K → X → List (K × X) → Type 0
Keeps cmp old k v new = (new ≡ insert_entry cmp old k v) ⊎ (new ≡ old)

-- What is there now was there before, or is this one. This one is there, or all stays.
pub record Adds {E : Type 0} (old : List E) (e : E) (new : List E) : Type 0 where
  pub only : (x : E) → Contains new x → Contains old x ⊎ (x ≡ e)
  pub learned : Contains new e ⊎ (new ≡ old)

-- The message was let through by the filter, or not, as the clauses of `admits` say.
pub record Judges (old : Filter) (m : Message) (passes : Bool) (new : Filter) : Type 0 where
  pub dropped : (c : Configuration) (now : ℕ) (passed : List Passed) → Remembers old c now passed → passes ≡ false → IsRepeat (configuration_id c) now passed m
  pub repeats : IsRepeatFor old m → passes ≡ false
  pub learned : IsSought old.configuration m → passes ≡ true → IsRepeatFor new m ⊎ KeepsSame old new
  pub kept : (c : Configuration) (now : ℕ) (passed : List Passed) → Remembers old c now passed → Remembers new c now (passed_after passes m now passed)
