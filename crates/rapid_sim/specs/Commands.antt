-- Commands as the definitions see them.
use Rattle.std.specs.Prelude.{◌≡◌, ◌≢◌, ◌<◌, ◌≤◌, List, length, Option, Some, None}
use Rattle.rapid_model.specs.Configuration.{Params, Configuration, founding}
use Rattle.rapid_model.specs.Process as model_process
use Rattle.rapid_model.specs.Reading.{members_fault}
use Rattle.rapid_model.specs.SimLine as model
use Rattle.rapid_model.specs.SimText as text
use Rattle.rapid_model.specs.Tags as tags
use Rattle.rapid_endpoint.specs.declared.parse_error.ParseError.{ParseError}
use Rattle.rapid_endpoint.specs.declared.parse_error.ParseError.TheVariants as parse
use Rattle.rapid_world.specs.Events.{event_of}
use Rattle.rapid_sim.specs.declared.command.SimCommand.{SimCommand}
use Rattle.rapid_sim.specs.declared.command.SimCommand.TheVariants.{Parameters, Found, Events, WrongTags, Lose, Deliver, Drop, Flow, Packets}
use Rattle.rapid_sim.specs.declared.command.SimAsked.{SimAsked}
use Rattle.rapid_sim.specs.declared.command.SimAsked.TheVariants.{Nothing, Unknown, Taken}

-- Why tags are refused, by the error that says so. The errors of other texts do not come of tags.
abbrev pub tags_refusal_of : ParseError → tags.TagsRefusal
tags_refusal_of parse.TooManyTags = tags.TooManyTags
tags_refusal_of parse.TagsNotSorted = tags.TagsNotSorted
tags_refusal_of _ = tags.BadTag

-- A command.
abbrev pub command_of : SimCommand → model.SimLine
command_of (Parameters k h l) = model.Parameters (record { k = k; h = h; l = l })
command_of (Found c) = model.Found c.members
command_of (Events e n) = model.Events (event_of e) n
command_of (WrongTags e) = model.WrongTags (tags_refusal_of e)
command_of (Lose id) = model.Lose id
command_of (Deliver k) = model.Deliver k
command_of (Drop k) = model.Drop k
command_of Flow = model.Flow
command_of Packets = model.Packets

-- What a line asks for.
abbrev pub asked_of : SimAsked → text.Asked
asked_of Nothing = text.Nothing
asked_of Unknown = text.Unknown
asked_of (Taken c) = text.Command (command_of c)

-- A configuration is the founding one of these members; there is none if they cannot be its members.
abbrev pub IsFoundingBy : Params → List model_process.Process → Option Configuration → Type 0
IsFoundingBy params founders None = members_fault founders ≢ None
IsFoundingBy params founders (Some c) = (members_fault founders ≡ None) × (c ≡ founding params founders)

-- The configuration of a founding is the one that these parameters and its members make; they can be members.
abbrev pub HasFounding : Params → SimCommand → Type 0
HasFounding params (Found c) = (members_fault c.members ≡ None) × (c ≡ founding params c.members) × (0 < length c.members)
HasFounding params _ = Unit {0}

-- The packet of a command is one from 1.
abbrev pub IsFromOne : SimCommand → Type 0
IsFromOne (Deliver k) = 1 ≤ k
IsFromOne (Drop k) = 1 ≤ k
IsFromOne _ = Unit {0}

-- The command is no founding, and its packet is one from 1.
abbrev pub IsPlain : SimCommand → Type 0
IsPlain (Found c) = ⊥
IsPlain (Deliver k) = 1 ≤ k
IsPlain (Drop k) = 1 ≤ k
IsPlain _ = Unit {0}

-- The command gives parameters or founders.
abbrev pub IsPreparation : SimCommand → Type 0
IsPreparation (Parameters k h l) = Unit {0}
IsPreparation (Found c) = Unit {0}
IsPreparation _ = ⊥

-- A command can be obeyed: its packet is one from 1, and its founding has these parameters.
pub record IsReady (params : Params) (c : SimCommand) : Type 0 where
  pub packet : IsFromOne c
  pub founding : HasFounding params c

-- So too what a line asks for.
abbrev pub AsksReady : Params → SimAsked → Type 0
AsksReady params (Taken c) = IsReady params c
AsksReady params _ = Unit {0}
