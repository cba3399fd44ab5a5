-- What `sim` prints: the state of a run, which lines are refused, and the output of an input.
use Rattle.std.specs.Prelude.{ℕ, zero, suc, Bool, false, not, List, [], ◌∷◌, ◌++◌, length, filter, flat_map, replicate, codes, decimal, nat_lt, if◌then◌else◌, Option, Some, None}
use Rattle.std.specs.List.{find, list_any, range_with_len}
use Rattle.std.specs.FinSet as set
use Rattle.std.specs.Ordering.{nat_cmp}
use Rattle.rapid_model.specs.Bytes.{Identifier, Line, Word, Text}
use Rattle.rapid_model.specs.Process.{Process, identifier, tags_bytes_of, same_bytes}
use Rattle.rapid_model.specs.Tags as tags
use Rattle.rapid_model.specs.Configuration.{Params, Configuration, founding}
use Rattle.rapid_model.specs.Reading.{are_params}
use Rattle.rapid_model.specs.World as world
use Rattle.rapid_model.specs.World.{World, Peer, WorldEvent, running, running_under, peer_at, observed, can_deliver}
use Rattle.rapid_model.specs.Refusal as faults
use Rattle.rapid_model.specs.Refusal.{WorldRefusal}
use Rattle.rapid_model.specs.Run.{WorldReport, ReportInstalled, ReportHalted, founded, reports_of, step_reports}
use Rattle.rapid_model.specs.StoredWorld.{StoredWorld, new_world, world_of, event_refusal, with_event, unmarked}
use Rattle.rapid_model.specs.Limits.{down_failures, most_in_flow}
use Rattle.rapid_model.specs.Lines.{line_feed, space, lines, line_words}
use Rattle.rapid_model.specs.Numbered.{number_under}
use Rattle.rapid_model.specs.SimLine.{SimLine, Parameters, Found, Events, WrongTags, Lose, Deliver, Drop, Flow, Packets, command_named}

-- What a run keeps once its founders were taken.
pub record Simulation : Type 0 where
  pub world : StoredWorld
  -- the numbers of the packets that `deliver`, `drop` and `flow` are done with
  pub settled : set.FinSet nat_cmp

-- The state of a run.
pub data SimState : Type 0 where
  -- neither parameters nor founders were taken
  Blank : SimState
  -- parameters were taken
  Prepared : Params → SimState
  -- founders were taken too
  Underway : Simulation → SimState

-- Why a line is refused.
pub data SimRefusal : Type 0 where
  BadLine : SimRefusal
  NoParams : SimRefusal
  BadParams : SimRefusal
  ByTags : tags.TagsRefusal → SimRefusal
  -- the world refuses an event
  ByWorld : WorldRefusal → SimRefusal

-- What a line asks for: nothing if it is skipped, and an unknown command if it is not in the grammar.
pub data Asked : Type 0 where
  Nothing : Asked
  Unknown : Asked
  Command : SimLine → Asked

-- A command, if there is one.
abbrev pub asked_command : Option SimLine → Asked
asked_command None = Unknown
asked_command (Some c) = Command c

-- What the words of a line ask for.
abbrev pub asked_words : Option (List Word) → Asked
asked_words None = Unknown
asked_words (Some []) = Nothing
asked_words (Some (name ∷ ws)) = asked_command (command_named name ws)

-- What a line asks for.
unfoldable pub asked : Line → Asked
asked line = asked_words (line_words line)

-- ---- refusals

-- The world of a run as it stands.
abbrev pub world_in : Simulation → World
world_in s = world_of s.world

-- How many packets were sent.
abbrev pub packets_sent : Simulation → ℕ
packets_sent s = length (world_in s).packets

-- Why a command is refused before parameters were taken: the first that holds. No packet was sent that could be
-- dropped.
abbrev pub blank_refusal : SimLine → Option SimRefusal
blank_refusal (Parameters params) = if are_params params then None else Some BadParams
blank_refusal (Drop k) = Some BadLine
blank_refusal _ = Some NoParams

-- Why a command is refused between parameters and founders: the first that holds.
abbrev pub prepared_refusal : SimLine → Option SimRefusal
prepared_refusal (Parameters params) = Some BadLine
prepared_refusal (Found founders) = None
prepared_refusal (Drop k) = Some BadLine
prepared_refusal _ = Some NoParams

-- Why a command is refused once founders were taken: the first that holds. Of the other lines the world may refuse an
-- event.
abbrev pub underway_refusal : Simulation → SimLine → Option SimRefusal
underway_refusal s (Parameters params) = Some BadLine
underway_refusal s (Found founders) = Some BadLine
underway_refusal s (WrongTags r) = Some (ByTags r)
underway_refusal s (Drop k) = if nat_lt (packets_sent s) k then Some BadLine else None
underway_refusal s _ = None

-- Why a command is refused before it does anything, if it is.
abbrev pub refusal : SimState → SimLine → Option SimRefusal
refusal Blank c = blank_refusal c
refusal (Prepared params) c = prepared_refusal c
refusal (Underway s) c = underway_refusal s c

-- Why the world of a run refuses an event, if it does.
abbrev pub refused : Simulation → WorldEvent → Option WorldRefusal
refused s e = event_refusal s.world e

-- ---- what lines do

-- A run of these founders, in which nothing happened yet.
abbrev pub begun : Params → List Process → Simulation
begun params founders = record { world = new_world (founding params founders); settled = set.empty }

-- The run after an event that is accepted.
abbrev pub taking : Simulation → WorldEvent → Simulation
taking s e = record s { world = with_event s.world (unmarked e) }

-- The run with one more packet settled.
abbrev pub settling : Simulation → ℕ → Simulation
settling s k = record s { settled = set.insert s.settled k }

-- The second is the identifier of the member that is observed.
abbrev pub is_observed_under : Option (Configuration × Process) → Identifier → Bool
is_observed_under None id = false
is_observed_under (Some x) id = same_bytes id (identifier x.1)

-- The peer, if there is one, observes the member of this identifier on the ring.
abbrev pub observes_on : Identifier → Option Peer → ℕ → Bool
observes_on id None k = false
observes_on id (Some p) k = is_observed_under (observed p k) id

-- The rings on which the running node of the first identifier observes the member of the second.
abbrev pub rings_between : World → Identifier → Identifier → List ℕ
rings_between w observer id = filter (observes_on id (peer_at w (running_under w observer))) (range_with_len 0 w.founding.params.k)

-- Four failed probes.
abbrev pub failing : Identifier → ℕ → List WorldEvent
failing observer k = replicate down_failures (world.Probe observer k false)

-- The probes by which all that run lose the member of this identifier: four that fail on each ring on which it is
-- observed, by observer and ring.
unfoldable pub losing : World → Identifier → List WorldEvent
losing w id = flat_map (λ observer. flat_map (failing observer) (rings_between w observer id)) (running w)

-- The least packet that was sent and is not settled.
unfoldable pub least_unsettled : Simulation → Option ℕ
least_unsettled s = find (λ k. not (set.contains s.settled k)) (range_with_len 1 (packets_sent s))

-- A packet can be delivered in the world of a run.
abbrev pub can_reach : Simulation → ℕ → Bool
can_reach s k = can_deliver (world_in s) k

-- ---- texts

-- The name of a refusal of the world.
abbrev pub world_refusal_name : WorldRefusal → Text
world_refusal_name faults.IdentifierUsed = codes "IdentifierUsed"
world_refusal_name faults.EndpointBusy = codes "EndpointBusy"
world_refusal_name faults.NoSuchNode = codes "NoSuchNode"
world_refusal_name faults.NoSuchPacket = codes "NoSuchPacket"
world_refusal_name faults.NotObserved = codes "NotObserved"
world_refusal_name faults.EventsFull = codes "EventsFull"

-- The name of a refusal of tags.
abbrev pub tags_refusal_name : tags.TagsRefusal → Text
tags_refusal_name tags.BadTag = codes "BadTag"
tags_refusal_name tags.TooManyTags = codes "TooManyTags"
tags_refusal_name tags.TagsNotSorted = codes "TagsNotSorted"

-- The name of a refusal.
abbrev pub refusal_name : SimRefusal → Text
refusal_name BadLine = codes "BadLine"
refusal_name NoParams = codes "NoParams"
refusal_name BadParams = codes "BadParams"
refusal_name (ByTags r) = tags_refusal_name r
refusal_name (ByWorld r) = world_refusal_name r

-- The line that a refusal prints.
abbrev pub refusal_line : SimRefusal → Text
refusal_line r = codes "refused " ++ refusal_name r ++ line_feed ∷ []

-- The number of a process, and its tags.
abbrev pub number_text : Process → Text
number_text p = decimal (number_under (identifier p)) ++ tags.tags_text (tags.tags_of (tags_bytes_of p))

-- The numbers of processes with their tags, each after a space.
abbrev pub numbers_text : List Process → Text
numbers_text ps = flat_map (λ p. space ∷ number_text p) ps

-- A node by its number.
abbrev pub node_text : Identifier → Text
node_text id = codes "node " ++ decimal (number_under id)

-- The process of this identifier is among these.
abbrev pub is_among : Identifier → List Process → Bool
is_among id ps = list_any (λ p. same_bytes id (identifier p)) ps

-- What a node that is in a configuration says of it, and one that is not.
abbrev pub view_text : Identifier → Configuration → Text
view_text id c =
    if is_among id c.members then codes " height " ++ decimal c.height ++ codes " members" ++ numbers_text c.members
    else codes " removed at height " ++ decimal c.height

-- The line that a report prints.
abbrev pub report_line : WorldReport → Text
report_line (ReportInstalled id c) = node_text id ++ view_text id c ++ line_feed ∷ []
report_line (ReportHalted id) = node_text id ++ codes " halted" ++ line_feed ∷ []

-- The lines that reports print.
abbrev pub reports_text : List WorldReport → Text
reports_text rs = flat_map report_line rs

-- What an event that is accepted prints.
abbrev pub taken_text : Simulation → WorldEvent → Text
taken_text s e = reports_text (step_reports (world_in s) (unmarked e))

-- ---- what lines print, and what comes of them

-- What is printed, and the run after it.
pub record Said : Type 0 where
  pub text : Text
  pub run : Simulation

-- Nothing is printed, and the run is this.
abbrev pub silent : Simulation → Said
silent s = record { text = []; run = s }

-- This is printed first.
abbrev pub behind : Text → Said → Said
behind text d = record d { text = text ++ d.text }

-- An event, which the world refuses for this reason or accepts; then what follows if it is accepted.
abbrev pub event_then : Simulation → WorldEvent → Option WorldRefusal → Said → Said
event_then s e (Some r) later = record { text = refusal_line (ByWorld r); run = s }
event_then s e None later = behind (taken_text s e) later

-- Events in turn: they stop at the first that is refused.
unfoldable pub do_events : Simulation → List WorldEvent → Said
do_events s [] = silent s
do_events s (e ∷ es) = event_then s e (refused s e) (do_events (taking s e) es)

-- The delivery of a packet, and what follows once it is settled.
abbrev pub deliver_then : Simulation → ℕ → (Simulation → Said) → Said
deliver_then s k later = event_then s (world.Deliver k) (refused s (world.Deliver k)) (later (settling (taking s (world.Deliver k)) k))

-- A packet, if there is one, is delivered and settled if a node runs at its endpoint, else settled alone. Then the flow
-- goes on, unless the delivery was refused.
abbrev pub next_then : Simulation → Option ℕ → (Simulation → Said) → Said
next_then s None flow = silent s
next_then s (Some k) flow = if not (can_reach s k) then flow (settling s k) else deliver_then s k flow

-- A flow of at most this many packets: each is the least unsettled one.
unfoldable pub do_flow : ℕ → Simulation → Said
do_flow zero s = silent s
do_flow (suc n) s = next_then s (least_unsettled s) (do_flow n)

-- What a founding prints: all founders report it.
abbrev pub founding_text : Configuration → Text
founding_text c = reports_text (reports_of (founded c).log)

-- A command of a run.
abbrev pub do_command : Simulation → SimLine → Said
do_command s (Parameters params) = silent s
do_command s (Found founders) = silent s
do_command s (WrongTags r) = silent s
do_command s (Events e n) = do_events s (replicate n e)
do_command s (Lose id) = do_events s (losing (world_in s) id)
do_command s (Deliver k) = deliver_then s k silent
do_command s (Drop k) = silent (settling s k)
do_command s Flow = do_flow most_in_flow s
do_command s Packets = record { text = codes "packets " ++ decimal (packets_sent s) ++ line_feed ∷ []; run = s }

-- What a line prints, and the state after it.
pub record Answer : Type 0 where
  pub text : Text
  pub state : SimState

-- A command that is not refused at once.
abbrev pub obeyed : SimState → SimLine → Answer
obeyed Blank (Parameters params) = record { text = []; state = Prepared params }
obeyed Blank _ = record { text = []; state = Blank }
obeyed (Prepared params) (Found founders) =
    record { text = founding_text (founding params founders); state = Underway (begun params founders) }
obeyed (Prepared params) _ = record { text = []; state = Prepared params }
obeyed (Underway s) c = record { text = (do_command s c).text; state = Underway (do_command s c).run }

-- A command that is refused at once for this reason, or is not.
abbrev pub obeyed_unless : SimState → SimLine → Option SimRefusal → Answer
obeyed_unless s c (Some r) = record { text = refusal_line r; state = s }
obeyed_unless s c None = obeyed s c

-- A line: one that is refused at once or skipped leaves the state.
unfoldable pub answer : SimState → Asked → Answer
answer s Nothing = record { text = []; state = s }
answer s Unknown = record { text = refusal_line BadLine; state = s }
answer s (Command c) = obeyed_unless s c (refusal s c)

-- What a line prints.
abbrev pub printed : SimState → Asked → Text
printed s a = (answer s a).text

-- The state after a line.
abbrev pub after : SimState → Asked → SimState
after s a = (answer s a).state

-- What these lines print, from a state on.
abbrev pub text_of_lines : SimState → List Line → Text
text_of_lines s [] = []
text_of_lines s (line ∷ ls) = printed s (asked line) ++ text_of_lines (after s (asked line)) ls

-- The output of an input, if memory never runs out.
abbrev pub sim_text : Text → Text
sim_text input = text_of_lines Blank (lines input)
