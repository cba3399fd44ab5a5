-- Clauses of public calls cite this file.
-- Messages as the definitions see them.
use Rattle.std.specs.Prelude.{◌≡◌, ℕ, List, map, All}
use Rattle.rapid_model.specs.Bytes.{ConfigurationId}
use Rattle.rapid_model.specs.Process.{Process}
use Rattle.rapid_model.specs.Alert.{Alert}
use Rattle.rapid_model.specs.Ballot.{IsClassicBallot, fast_ballot}
use Rattle.rapid_model.specs.Message as model
use Rattle.rapid_paxos.specs.Reported.{last_of}
use Rattle.rapid_join.specs.Answers.{NamesObservers, answer_of}
use Rattle.rapid_message.specs.declared.error.MessageError.{MessageError}
use Rattle.rapid_message.specs.declared.error.MessageError.TheVariants.{OtherObserver, OtherConfiguration, FastBallot, NoObserver}
use Rattle.rapid_message.specs.declared.message.Body.{Body}
use Rattle.rapid_message.specs.declared.message.Body.TheVariants.{Batch, FastVote, Prepare, Promise, Accept, Accepted, Decision, PreJoin, Reply, JoinRequest, Confirm, Probe, ProbeAck, Leave}

-- What a message says.
abbrev pub body_of : Body → model.Body
body_of (Batch id xs) = model.Batch id (map model.item_of xs)
body_of (FastVote id v) = model.FastVote id v
body_of (Prepare id b) = model.Prepare id b
body_of (Promise id b vote) = model.Promise id b (last_of vote)
body_of (Accept id b v) = model.Accept id b v
body_of (Accepted id b v) = model.Accepted id b v
body_of (Decision id v) = model.Decision id v
body_of PreJoin = model.PreJoin
body_of (Reply j a) = model.Reply j (answer_of a)
body_of (JoinRequest id k) = model.JoinRequest id k
body_of (Confirm c) = model.Confirm c
body_of (Probe id) = model.Probe id
body_of (ProbeAck id) = model.ProbeAck id
body_of (Leave id k) = model.Leave id k

-- The alert is of this observer and for this configuration.
abbrev pub IsFrom : Process → ConfigurationId → Alert → Type 0
IsFrom observer id a = (a.observer ≡ observer) × (a.config ≡ id)

-- The process can say this. A batch has its own alerts, for the configuration that it names. What is asked, promised or
-- accepted after a Prepare is at a classic ballot.
abbrev pub CanSay : Process → Body → Type 0
CanSay sender (Batch id xs) = All (IsFrom sender id) xs
CanSay sender (FastVote id v) = Unit {0}
CanSay sender (Prepare id b) = IsClassicBallot b
CanSay sender (Promise id b vote) = IsClassicBallot b
CanSay sender (Accept id b v) = IsClassicBallot b
CanSay sender (Accepted id b v) = IsClassicBallot b
CanSay sender (Decision id v) = Unit {0}
CanSay sender PreJoin = Unit {0}
CanSay sender (Reply j a) = NamesObservers a
CanSay sender (JoinRequest id k) = Unit {0}
CanSay sender (Confirm c) = Unit {0}
CanSay sender (Probe id) = Unit {0}
CanSay sender (ProbeAck id) = Unit {0}
CanSay sender (Leave id k) = Unit {0}

-- Why the process cannot say this. Not all alerts of a batch are its own, or else not all are for the configuration
-- that the batch names. It asks, promises or accepts at the fast ballot. A reply Safe names no observer.
abbrev pub CannotSay : Process → Body → MessageError → Type 0
CannotSay sender (Batch id xs) OtherObserver = All (λ a. a.observer ≡ sender) xs → ⊥
CannotSay sender (Batch id xs) OtherConfiguration = All (λ a. a.observer ≡ sender) xs × (All (λ a. a.config ≡ id) xs → ⊥)
CannotSay sender (Prepare id b) FastBallot = b ≡ fast_ballot
CannotSay sender (Promise id b vote) FastBallot = b ≡ fast_ballot
CannotSay sender (Accept id b v) FastBallot = b ≡ fast_ballot
CannotSay sender (Accepted id b v) FastBallot = b ≡ fast_ballot
CannotSay sender (Reply j a) NoObserver = NamesObservers a → ⊥
CannotSay sender b e = ⊥

-- The number of an error.
abbrev pub message_code : MessageError → ℕ
message_code OtherObserver = 1
message_code OtherConfiguration = 2
message_code FastBallot = 3
message_code NoObserver = 4
