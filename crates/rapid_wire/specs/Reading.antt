-- How frames are read: each reader gives what stands in front of the bytes, and the bytes that follow; or nothing does.
use Rattle.std.specs.Prelude.{ℕ, zero, suc, ◌==◌, Bool, ◌&&◌, ◌||◌, nat_lt, nat_le, is_none, List, [], ◌∷◌, length, take, drop, if◌then◌else◌, Option, Some, None}
use Rattle.std.specs.Result.{result_ok}
use Rattle.std.specs.Int.{w16, from_be_bytes}
use Rattle.rapid_model.specs.Bytes.{ConfigurationId}
use Rattle.rapid_model.specs.Process as model
use Rattle.rapid_model.specs.Process.{Process}
use Rattle.rapid_model.specs.Cut.{Cut}
use Rattle.rapid_model.specs.Alert.{Kind, Remove, Join}
use Rattle.rapid_model.specs.Ballot.{Ballot, Vote}
use Rattle.rapid_model.specs.Reading.{cut_fault, bytes_fault, configuration_in}
use Rattle.rapid_model.specs.Message.{AlertItem, Answer, Safe, EndpointInUse, ConfigurationChanged, TooManyJoiners, Body, Batch, FastVote, Prepare, Promise, Accept, Accepted, Decision, PreJoin, Reply, JoinRequest, Confirm, Probe, ProbeAck, Leave, Message}
use Rattle.rapid_model.specs.Limits.{most_alerts, most_members, most_rings, most_rounds}

-- One step after another.
infixl 10 ◌>>=◌
abbrev pub ◌>>=◌ : {A B : Type 0} → Option A → (A → Option B) → Option B
None >>= f = None
(Some x) >>= f = f x

-- What a reader gives: a value and the bytes after it.
abbrev pub Reader : Type 0 → Type 0
Reader A = List ℕ → Option (A × List ℕ)

-- Two values, one after the other.
abbrev pub both : {A B : Type 0} → Reader A → Reader B → Reader (A × B)
both r s bytes = r bytes >>= λ x. s x.1 >>= λ y. Some ((x.0, y.0), y.1)

-- A value made of another.
abbrev pub made : {A B : Type 0} → (A → B) → Reader A → Reader B
made f r bytes = r bytes >>= λ x. Some (f x.0, x.1)

-- A value that passes a test.
abbrev pub only : {A : Type 0} → (A → Bool) → Reader A → Reader A
only test r bytes = r bytes >>= λ x. if test x.0 then Some x else None

-- This many values, one after another.
unfoldable pub many : {A : Type 0} → ℕ → Reader A → Reader (List A)
many zero r bytes = Some ([], bytes)
many (suc n) r bytes = r bytes >>= λ x. many n r x.1 >>= λ y. Some (x.0 ∷ y.0, y.1)

-- A number, and that many values.
abbrev pub counted : {A : Type 0} → Reader ℕ → Reader A → Reader (List A)
counted count r bytes = count bytes >>= λ n. many n.0 r n.1

-- A value that takes all bytes.
abbrev pub all_of : {A : Type 0} → Reader A → List ℕ → Option A
all_of r bytes = r bytes >>= λ x. if length x.1 == 0 then Some x.0 else None

-- One byte.
unfoldable pub byte_at : Reader ℕ
byte_at [] = None
byte_at (b ∷ bytes) = Some (b, bytes)

-- The first n bytes.
abbrev pub front_at : ℕ → Reader (List ℕ)
front_at n bytes = if nat_lt (length bytes) n then None else Some (take n bytes, drop n bytes)

-- A number of two bytes.
unfoldable pub number_at : Reader ℕ
number_at bytes = front_at 2 bytes >>= λ x. Some (from_be_bytes w16 x.0, x.1)

-- A process.
unfoldable pub process_at : Reader Process
process_at bytes = result_ok (model.process_at bytes)

-- An identifier of a configuration.
unfoldable pub id_at : Reader ConfigurationId
id_at bytes = front_at 32 bytes

-- The list is a cut.
abbrev pub is_cut : List Process → Bool
is_cut v = is_none (cut_fault v)

-- A cut.
unfoldable pub cut_at : Reader Cut
cut_at bytes = only is_cut (counted number_at process_at) bytes

-- A round and a position.
abbrev pub ballot_of : ℕ × ℕ → Ballot
ballot_of x = record { round = x.0; position = x.1 }

-- The ballot is a classic one.
abbrev pub is_classic : Ballot → Bool
is_classic b = nat_le 2 b.round && nat_le b.round most_rounds && nat_lt b.position most_members

-- The ballot is the fast one or a classic one.
abbrev pub is_ballot : Ballot → Bool
is_ballot b = is_classic b || ((b.round == 1) && (b.position == 0))

-- Any round and position.
unfoldable pub numbers_at : Reader Ballot
numbers_at bytes = made ballot_of (both byte_at number_at) bytes

-- A classic ballot.
unfoldable pub classic_at : Reader Ballot
classic_at bytes = only is_classic numbers_at bytes

-- A ballot.
unfoldable pub ballot_at : Reader Ballot
ballot_at bytes = only is_ballot numbers_at bytes

-- A ballot and a cut.
abbrev pub vote_from : Ballot × Cut → Option (Vote Cut)
vote_from x = Some (record { ballot = x.0; value = x.1 })

-- What a promise reports, behind its first byte.
abbrev pub report_from : ℕ → Reader (Option (Vote Cut))
report_from b bytes =
    if b == 0 then Some (None, bytes)
    else if b == 1 then made vote_from (both ballot_at cut_at) bytes
    else None

-- What a promise reports.
unfoldable pub report_at : Reader (Option (Vote Cut))
report_at bytes = byte_at bytes >>= λ b. report_from b.0 b.1

-- The kind of an alert, by its byte.
abbrev pub kind_from : ℕ → Option Kind
kind_from b = if b == 1 then Some Remove else if b == 2 then Some Join else None

-- The kind of an alert.
unfoldable pub kind_at : Reader Kind
kind_at bytes = byte_at bytes >>= λ b. kind_from b.0 >>= λ k. Some (k, b.1)

-- A ring, a kind and a subject.
abbrev pub item_from : ℕ × (Kind × Process) → AlertItem
item_from x = record { ring = x.0; kind = x.1.0; subject = x.1.1 }

-- An alert of a batch.
unfoldable pub item_at : Reader AlertItem
item_at bytes = made item_from (both byte_at (both kind_at process_at)) bytes

-- A batch has 1 to 2,048 alerts.
abbrev pub is_batch : List AlertItem → Bool
is_batch xs = nat_le 1 (length xs) && nat_le (length xs) most_alerts

-- The alerts of a batch.
unfoldable pub items_at : Reader (List AlertItem)
items_at bytes = only is_batch (counted number_at item_at) bytes

-- There are 1 to 16 observers.
abbrev pub are_observers : List Process → Bool
are_observers os = nat_le 1 (length os) && nat_le (length os) most_rings

-- The observers of a joiner.
unfoldable pub observers_at : Reader (List Process)
observers_at bytes = only are_observers (counted byte_at process_at) bytes

-- An identifier and observers.
abbrev pub safe_from : ConfigurationId × List Process → Answer
safe_from x = Safe x.0 x.1

-- What a host answers, behind its first byte.
abbrev pub answer_from : ℕ → Reader Answer
answer_from b bytes =
    if b == 1 then made safe_from (both id_at observers_at) bytes
    else if b == 2 then Some (EndpointInUse, bytes)
    else if b == 3 then Some (ConfigurationChanged, bytes)
    else if b == 4 then Some (TooManyJoiners, bytes)
    else None

-- What a host answers.
unfoldable pub answer_at : Reader Answer
answer_at bytes = byte_at bytes >>= λ b. answer_from b.0 b.1

-- An identifier, a ballot and a cut.
unfoldable pub choice_at : Reader ((ConfigurationId × Ballot) × Cut)
choice_at bytes = both (both id_at classic_at) cut_at bytes

-- A configuration, which takes all bytes.
unfoldable pub confirmed_in : List ℕ → Option Body
confirmed_in bytes = if is_none (bytes_fault bytes) then Some (Confirm (configuration_in bytes)) else None

-- Nothing.
abbrev pub nothing_at : Reader Body
nothing_at bytes = Some (PreJoin, bytes)

-- What a message of this kind says in these bytes.
unfoldable pub body_in : ℕ → List ℕ → Option Body
body_in kind bytes =
    if kind == 1 then all_of (made (λ x. Batch x.0 x.1) (both id_at items_at)) bytes
    else if kind == 2 then all_of (made (λ x. FastVote x.0 x.1) (both id_at cut_at)) bytes
    else if kind == 3 then all_of (made (λ x. Prepare x.0 x.1) (both id_at classic_at)) bytes
    else if kind == 4 then all_of (made (λ x. Promise x.0.0 x.0.1 x.1) (both (both id_at classic_at) report_at)) bytes
    else if kind == 5 then all_of (made (λ x. Accept x.0.0 x.0.1 x.1) choice_at) bytes
    else if kind == 6 then all_of (made (λ x. Accepted x.0.0 x.0.1 x.1) choice_at) bytes
    else if kind == 7 then all_of (made (λ x. Decision x.0 x.1) (both id_at cut_at)) bytes
    else if kind == 8 then all_of nothing_at bytes
    else if kind == 9 then all_of (made (λ x. Reply x.0 x.1) (both process_at answer_at)) bytes
    else if kind == 10 then all_of (made (λ x. JoinRequest x.0 x.1) (both id_at byte_at)) bytes
    else if kind == 11 then confirmed_in bytes
    else if kind == 12 then all_of (made Probe id_at) bytes
    else if kind == 13 then all_of (made ProbeAck id_at) bytes
    else if kind == 14 then all_of (made (λ x. Leave x.0 x.1) (both id_at byte_at)) bytes
    else None

-- The message of this kind in these bytes.
unfoldable pub message_in : ℕ → List ℕ → Option Message
message_in kind bytes =
    process_at bytes >>= λ sender. body_in kind sender.1 >>= λ body. Some (record { sender = sender.0; body = body })
