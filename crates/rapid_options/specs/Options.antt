-- Clauses of public calls cite this file.
-- What the words of `node` are read as, and what its options are if nothing is said.
use Rattle.std.specs.Prelude.{◌≡◌, ℕ, List, [], if◌then◌else◌, Option, Some, None, Result, Ok, Err}
use Rattle.rapid_model.specs.Bytes.{Identifier, Endpoint, Text}
use Rattle.rapid_model.specs.Configuration.{Params, AreParams}
use Rattle.rapid_model.specs.Tags.{tags_bytes}
use Rattle.rapid_endpoint.specs.Texts.{endpoint_from, identifier_from, tags_from}
use Rattle.rapid_endpoint.specs.declared.parse_error.ParseError.{ParseError}
use Rattle.rapid_transport.specs.Local.{is_local}
use Rattle.rapid_options.specs.declared.options.NodeOptions.{NodeOptions}
use Rattle.rapid_options.specs.declared.options.OptionsError.{OptionsError}
use Rattle.rapid_options.specs.declared.options.OptionsError.TheVariants.{BadParams, Unreadable, NotLocal}

-- A local endpoint, if this is one.
abbrev pub when_local : Result Endpoint ParseError → Result Endpoint OptionsError
when_local (Ok e) = if is_local e then Ok e else Err NotLocal
when_local (Err fault) = Err (Unreadable fault)

-- The local endpoint that a text spells, or why there is none.
abbrev pub local_from : Text → Result Endpoint OptionsError
local_from text = when_local (endpoint_from text)

-- What was read, if something was.
abbrev pub readable : {X : Type 0} → Result X ParseError → Result (Option X) OptionsError
readable (Ok x) = Ok (Some x)
readable (Err fault) = Err (Unreadable fault)

-- The identifier that the text spells, or why there is none; none if there is no text.
abbrev pub identifier_of : Option Text → Result (Option Identifier) OptionsError
identifier_of None = Ok None
identifier_of (Some text) = readable (identifier_from text)

-- Tags, or why there are none.
abbrev pub readable_tags : Result (List ℕ) ParseError → Result (List ℕ) OptionsError
readable_tags (Ok tags) = Ok tags
readable_tags (Err fault) = Err (Unreadable fault)

-- The bytes of the tags that the text spells, or why it spells none; no tags if there is no text.
abbrev pub tags_of : Option Text → Result (List ℕ) OptionsError
tags_of None = Ok (tags_bytes [])
tags_of (Some text) = readable_tags (tags_from text)

-- An endpoint, if there is one.
abbrev pub perhaps : {X : Type 0} → Result X OptionsError → Result (Option X) OptionsError
perhaps (Ok x) = Ok (Some x)
perhaps (Err fault) = Err fault

-- The local endpoint that the text spells, or why there is none; none if there is no text.
abbrev pub endpoint_of : Option Text → Result (Option Endpoint) OptionsError
endpoint_of None = Ok None
endpoint_of (Some text) = perhaps (local_from text)

-- Why there is no value, if there is none.
abbrev pub fault_of : {X : Type 0} → Result X OptionsError → Option OptionsError
fault_of (Ok x) = None
fault_of (Err fault) = Some fault

-- The first of two faults.
abbrev pub or_then : Option OptionsError → Option OptionsError → Option OptionsError
or_then None other = other
or_then (Some fault) other = Some fault

-- Why the texts behind `--listen`, `--join`, `--id` and `--tags` are refused, if they are: the first that holds.
abbrev pub texts_fault : Text → Option Text → Option Text → Option Text → Option OptionsError
texts_fault listen join id tags =
    or_then (fault_of (local_from listen))
    (or_then (fault_of (endpoint_of join)) (or_then (fault_of (identifier_of id)) (fault_of (tags_of tags))))

-- Why words are refused: the parameters come first.
abbrev pub IsRefusal : Params → Text → Option Text → Option Text → Option Text → OptionsError → Type 0
IsRefusal params listen join id tags BadParams = ¬ AreParams params
IsRefusal params listen join id tags (Unreadable fault) = AreParams params × (texts_fault listen join id tags ≡ Some (Unreadable fault))
IsRefusal params listen join id tags NotLocal = AreParams params × (texts_fault listen join id tags ≡ Some NotLocal)

-- What the texts are read as.
pub record AreRead (listen : Text) (join id tags : Option Text) (place : Endpoint) (seed : Option Endpoint) (identifier : Option Identifier) (words : List ℕ) : Type 0 where
  pub listens : local_from listen ≡ Ok place
  pub joins : endpoint_of join ≡ Ok seed
  pub goes_by : identifier_of id ≡ Ok identifier
  pub is_tagged : tags_of tags ≡ Ok words

-- The options of a node at this endpoint of which nothing else is said.
abbrev pub options_at : Endpoint → NodeOptions
options_at e = record { listen = e; id = None; tags = tags_bytes []; join = None; params = record { k = 10; h = 9; l = 3 }; tick_ms = 100; probers = 1 }
