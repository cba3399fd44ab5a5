-- The journal that is kept, as the definitions see it.
use Rattle.std.specs.Prelude.{ℕ, ◌-◌, ◌^◌, Bool, true, false, not, ◌||◌, List, [], ◌∷◌, map, slice_get, nat_lt, if◌then◌else◌, Option, Some, None, is_some, unwrap_or}
use Rattle.std.specs.Option.{option_map}
use Rattle.rapid_model.specs.Bytes.{ConfigurationId}
use Rattle.rapid_model.specs.Process.{Process, same_bytes}
use Rattle.rapid_model.specs.Configuration.{Configuration, configuration_id, position_of}
use Rattle.rapid_model.specs.Message.{Body, Message, Batch, FastVote, Prepare, Promise, Accept, Accepted, Decision, PreJoin, Reply, JoinRequest, Confirm, Probe, ProbeAck, item_of}
use Rattle.rapid_model.specs.Message as message
use Rattle.rapid_model.specs.Node.{Node, Event, EdgeDown, Tick, Receive, Leave}
use Rattle.rapid_model.specs.Journal as model
use Rattle.rapid_paxos.specs.Reported.{last_of}
use Rattle.rapid_node.specs.Steps.{event_of}
use Rattle.rapid_desk.specs.declared.journal.Which.{Which}
use Rattle.rapid_desk.specs.declared.journal.Which.TheVariants.{This, Previous}
use Rattle.rapid_desk.specs.declared.journal.JournalRecord.{JournalRecord}
use Rattle.rapid_desk.specs.declared.journal.JournalRecord.TheVariants as kept

-- A journal: the node where it begins, and its records.
pub record JournalValue : Type 0 where
  pub entry : Node
  pub records : List model.JournalRecord

-- The configuration that a message is about, if its parts can be kept alone.
abbrev pub about : Body → Option ConfigurationId
about (Batch id xs) = Some id
about (FastVote id v) = Some id
about (Prepare id b) = Some id
about (Promise id b vote) = Some id
about (Accept id b v) = Some id
about (Accepted id b v) = Some id
about (Decision id v) = Some id
about (message.Leave id k) = Some id
about PreJoin = None
about (Reply j a) = None
about (JoinRequest id k) = None
about (Confirm c) = None
about (Probe id) = None
about (ProbeAck id) = None

-- Which configuration has this identifier: this one, or the one before it.
abbrev pub which_of : Option Configuration → ConfigurationId → Option Which
which_of None id = None
which_of (Some c) id = if same_bytes id (configuration_id c) then Some This else (if same_bytes id c.previous then Some Previous else None)

-- The identifier of this configuration, or of the one before it.
abbrev pub id_in : Option Configuration → Which → ConfigurationId
id_in None which = []
id_in (Some c) This = configuration_id c
id_in (Some c) Previous = c.previous

-- The place of a member.
abbrev pub place_of : Option Configuration → Process → Option ℕ
place_of None p = None
place_of (Some c) p = position_of c p

-- Which configuration it is about, and a number, if there are both.
abbrev pub both : Option Which → Option ℕ → Option (Which × ℕ)
both None n = None
both (Some which) None = None
both (Some which) (Some n) = Some (which, n)

-- The place of a process, if it is a member of this configuration, and the identifier is that of this one or the one
-- before it.
abbrev pub place_about : Option Configuration → Option ConfigurationId → Process → Option (Which × ℕ)
place_about c None p = None
place_about c (Some id) p = both (which_of c id) (place_of c p)

-- The sender's place, if the message is kept by its parts.
abbrev pub place_in : Option Configuration → Message → Option (Which × ℕ)
place_in c m = place_about c (about m.body) m.sender

-- The message is a joiner's question.
abbrev pub is_question : Body → Bool
is_question PreJoin = true
is_question b = false

-- In which configuration, and on which ring, the sender asks to be let in, if it does.
abbrev pub ring_asked : Option Configuration → Body → Option (Which × ℕ)
ring_asked c (JoinRequest id k) = both (which_of c id) (Some k)
ring_asked c b = None

-- Which configuration, the place of the subject, and the ring, if the event is an edge that went down and has these.
abbrev pub edge_in : Option Configuration → Event → Option (Which × ℕ × ℕ)
edge_in c (EdgeDown id k p) = option_map (λ x. (x.0, x.1, k)) (place_about c (Some id) p)
edge_in c e = None

-- The message is kept whole: it has no place, and is neither a joiner's question nor such a request.
abbrev pub stays_whole : Option Configuration → Message → Bool
stays_whole c m = not (is_some (place_in c m) || is_some (ring_asked c m.body) || is_question m.body)

-- The record has its event whole.
abbrev pub is_whole : JournalRecord → Bool
is_whole (kept.Other e) = true
is_whole r = false

-- The member at a place.
abbrev pub member_at : Option Configuration → ℕ → Process
member_at None place = []
member_at (Some c) place = unwrap_or (slice_get c.members place) []

-- The record of what the member at a place says.
abbrev pub said_by : Option Configuration → ℕ → Body → model.JournalRecord
said_by c place body = model.Other (Receive (record { sender = member_at c place; body = body }))

-- A record of a journal whose entry has this configuration.
abbrev pub record_of : Option Configuration → JournalRecord → model.JournalRecord
record_of c (kept.Ticks n) = model.Ticks n
record_of c (kept.Batch w place xs) = said_by c place (Batch (id_in c w) (map item_of xs))
record_of c (kept.FastVote w place v) = said_by c place (FastVote (id_in c w) v)
record_of c (kept.Prepare w place b) = said_by c place (Prepare (id_in c w) b)
record_of c (kept.Promise w place b vote) = said_by c place (Promise (id_in c w) b (last_of vote))
record_of c (kept.Accept w place b v) = said_by c place (Accept (id_in c w) b v)
record_of c (kept.Accepted w place b v) = said_by c place (Accepted (id_in c w) b v)
record_of c (kept.Decision w place v) = said_by c place (Decision (id_in c w) v)
record_of c (kept.Leave w place k) = said_by c place (message.Leave (id_in c w) k)
record_of c (kept.PreJoin p) = model.Other (Receive (record { sender = p.value; body = PreJoin }))
record_of c (kept.JoinRequest p w k) = model.Other (Receive (record { sender = p.value; body = JoinRequest (id_in c w) k }))
record_of c (kept.EdgeDown w place k) = model.Other (EdgeDown (id_in c w) k (member_at c place))
record_of c kept.OwnLeave = model.Other Leave
record_of c (kept.Other e) = model.Other (event_of e.value)

-- The records of a journal whose entry has this configuration.
abbrev pub records_of : Option Configuration → List JournalRecord → List model.JournalRecord
records_of c journal = map (record_of c) journal

-- How many ticks the last record stands for, if it is one of ticks.
abbrev pub last_ticks : List model.JournalRecord → Option ℕ
last_ticks [] = None
last_ticks (model.Ticks n ∷ []) = Some n
last_ticks (model.Other e ∷ []) = None
last_ticks (x ∷ y ∷ journal) = last_ticks (y ∷ journal)

-- A tick more is joined to the last record.
abbrev pub joins : List model.JournalRecord → Bool
joins [] = false
joins (model.Ticks n ∷ []) = nat_lt n (2 ^ 32 - 1)
joins (model.Other e ∷ []) = false
joins (x ∷ y ∷ journal) = joins (y ∷ journal)

-- How many records an event adds.
abbrev pub added_by : List model.JournalRecord → Event → ℕ
added_by journal Tick = if joins journal then 0 else 1
added_by journal (EdgeDown id k p) = 1
added_by journal (Receive m) = if model.is_kept m.body then 1 else 0
added_by journal Leave = 1
