-- The commands of `sim`, and the lines that spell them.
use Rattle.std.specs.Prelude.{ℕ, ◌-◌, ◌^◌, Bool, true, false, ◌==◌, List, [], ◌∷◌, ◌++◌, bytes_eq, codes, if◌then◌else◌, Option, Some, None, is_some}
use Rattle.std.specs.Option.{option_and_then, option_map}
use Rattle.rapid_model.specs.Bytes.{Identifier, Endpoint, Word}
use Rattle.rapid_model.specs.Process.{Process}
use Rattle.rapid_model.specs.Tags.{TagsRefusal, tags_refusal, tags_bytes}
use Rattle.rapid_model.specs.Configuration.{Params}
use Rattle.rapid_model.specs.Reading.{members_fault}
use Rattle.rapid_model.specs.World as world
use Rattle.rapid_model.specs.World.{WorldEvent}
use Rattle.rapid_model.specs.Lines.{number_up_to}
use Rattle.rapid_model.specs.Numbered.{numbered_identifier, local_endpoint, named}
use Rattle.rapid_model.specs.DetectLine.{marks_in}
use Rattle.rapid_model.specs.Limits.{most_repeats}

-- What a line can ask for; nodes go by identifier, packets by number.
pub data SimLine : Type 0 where
  Parameters : Params → SimLine
  -- the founders
  Found : List Process → SimLine
  -- an event, repeated
  Events : WorldEvent → ℕ → SimLine
  -- a start with tags that are refused
  WrongTags : TagsRefusal → SimLine
  Lose : Identifier → SimLine
  Deliver : ℕ → SimLine
  Drop : ℕ → SimLine
  Flow : SimLine
  Packets : SimLine

-- A number that is not 0.
abbrev pub unless_0 : ℕ → Option ℕ
unless_0 n = if n == 0 then None else Some n

-- The number that a word spells, if it is one from 1 to the limit.
abbrev pub number_from_1 : ℕ → Word → Option ℕ
number_from_1 limit w = option_and_then unless_0 (number_up_to limit w)

-- The identifier that a word names, by a number from 1 to 65,535.
abbrev pub identifier_named : Word → Option Identifier
identifier_named w = option_map numbered_identifier (number_from_1 65535 w)

-- The endpoint that a word names, by a port from 0 to 65,535.
abbrev pub endpoint_named : Word → Option Endpoint
endpoint_named w = option_map local_endpoint (number_up_to 65535 w)

-- The result of a probe that a word names.
abbrev pub result_named : Word → Option Bool
result_named w = if bytes_eq w (codes "ok") then Some true else if bytes_eq w (codes "fail") then Some false else None

-- How often an event happens: from 1 to 1,000 times, once if no word says it.
abbrev pub count_in : List Word → Option ℕ
count_in [] = Some 1
count_in (w ∷ []) = number_from_1 most_repeats w
count_in _ = None

-- One identifier.
abbrev pub identifier_in : List Word → Option Identifier
identifier_in (w ∷ []) = identifier_named w
identifier_in _ = None

-- The number of one packet, from 1 to 2^64 - 1.
abbrev pub packet_in : List Word → Option ℕ
packet_in (w ∷ []) = number_from_1 (2 ^ 64 - 1) w
packet_in _ = None

-- A process and those after it, if all could be read.
abbrev pub with_named : Option Process → Option (List Process) → Option (List Process)
with_named (Some p) (Some ps) = Some (p ∷ ps)
with_named _ _ = None

-- The processes that words name, if each word names one.
abbrev pub all_named : List Word → Option (List Process)
all_named [] = Some []
all_named (w ∷ ws) = with_named (named w) (all_named ws)

-- Founders are ascending, and at most 1,024: they can be the members of a configuration.
abbrev pub founding_by : List Process → Option SimLine
founding_by ps = if is_some (members_fault ps) then None else Some (Found ps)

-- One founder or more.
abbrev pub found_in : List Word → Option SimLine
found_in [] = None
found_in (w ∷ ws) = option_and_then founding_by (all_named (w ∷ ws))

-- A process starts, and asks at an endpoint, unless its tags are refused.
abbrev pub start_unless : Option TagsRefusal → Process → Endpoint → SimLine
start_unless None p seed = Events (world.Start p seed) 1
start_unless (Some r) p seed = WrongTags r

-- A process of these tags starts at an endpoint, and asks at another.
abbrev pub start : Option Identifier → Option Endpoint → Option Endpoint → List Word → Option SimLine
start (Some id) (Some place) (Some seed) tags =
    Some (start_unless (tags_refusal tags) (id ++ place ++ tags_bytes tags) seed)
start _ _ _ tags = None

-- The number of a process, its port, the port of its seed, and its tags.
abbrev pub start_in : List Word → Option SimLine
start_in (n ∷ port ∷ seed ∷ tags) = start (identifier_named n) (endpoint_named port) (endpoint_named seed) tags
start_in _ = None

-- A node probes on a ring, with a result, a number of times.
abbrev pub probe : Option Identifier → Option ℕ → Option Bool → Option ℕ → Option SimLine
probe (Some id) (Some k) (Some ok) (Some n) = Some (Events (world.Probe id k ok) n)
probe _ _ _ _ = None

-- The number of a node, a ring from 0 to 255, a result, and perhaps how often.
abbrev pub probe_in : List Word → Option SimLine
probe_in (n ∷ ring ∷ result ∷ count) = probe (identifier_named n) (number_up_to 255 ring) (result_named result) (count_in count)
probe_in _ = None

-- A node has a number of ticks.
abbrev pub tick : Option Identifier → Option ℕ → Option SimLine
tick (Some id) (Some n) = Some (Events (world.Tick id) n)
tick _ _ = None

-- The number of a node, and perhaps how often.
abbrev pub tick_in : List Word → Option SimLine
tick_in (n ∷ count) = tick (identifier_named n) (count_in count)
tick_in [] = None

-- A node crashes.
abbrev pub crash : Identifier → SimLine
crash id = Events (world.Crash id) 1

-- A node wants to leave.
abbrev pub leave : Identifier → SimLine
leave id = Events (world.Leave id) 1

-- A command that has no words but its name.
abbrev pub alone : SimLine → List Word → Option SimLine
alone c [] = Some c
alone c _ = None

-- The command of a name and its words, if there is one.
abbrev pub command_named : Word → List Word → Option SimLine
command_named name ws =
    if bytes_eq name (codes "params") then option_map Parameters (marks_in ws)
    else if bytes_eq name (codes "found") then found_in ws
    else if bytes_eq name (codes "start") then start_in ws
    else if bytes_eq name (codes "probe") then probe_in ws
    else if bytes_eq name (codes "lose") then option_map Lose (identifier_in ws)
    else if bytes_eq name (codes "tick") then tick_in ws
    else if bytes_eq name (codes "deliver") then option_map Deliver (packet_in ws)
    else if bytes_eq name (codes "drop") then option_map Drop (packet_in ws)
    else if bytes_eq name (codes "flow") then alone Flow ws
    else if bytes_eq name (codes "crash") then option_map crash (identifier_in ws)
    else if bytes_eq name (codes "leave") then option_map leave (identifier_in ws)
    else if bytes_eq name (codes "packets") then alone Packets ws
    else None
