-- Clauses of public calls cite this file.
-- What texts are read as.
use Rattle.std.specs.Prelude.{ℕ, [], ◌∷◌, ◌++◌, ◌==◌, not, Bool, List, map, length, if◌then◌else◌, Option, Some, None, Result, Ok, Err}
use Rattle.std.specs.List.{list_all}
use Rattle.std.specs.Int.{w16, to_be_bytes}
use Rattle.uuid.specs.Text as uuid
use Rattle.rapid_model.specs.EndpointText.{EndpointFault, endpoint_fault, address_in, port_in, is_number, value_of, in_front, parts}
use Rattle.rapid_endpoint.specs.declared.parse_error.ParseError.{ParseError}
use Rattle.rapid_endpoint.specs.declared.parse_error.ParseError.TheVariants.{NotFourParts, PartRange, BadIdentifier}
use Rattle.rapid_model.specs.Tags.{TagsRefusal, tags_refusal, tags_bytes}
use Rattle.rapid_endpoint.specs.ParseErrors.{error_of, error_of_tags}

-- The value if there is no fault, and else its error.
abbrev pub unless_fault : Option EndpointFault → List ℕ → Result (List ℕ) ParseError
unless_fault None value = Ok value
unless_fault (Some fault) value = Err (error_of fault)

-- What a text is read as if it is to be an endpoint: the bytes of the address and the port, or the first fault.
abbrev pub endpoint_from : List ℕ → Result (List ℕ) ParseError
endpoint_from text = unless_fault (endpoint_fault text) (address_in text ++ to_be_bytes w16 (port_in text))

-- The value if there is one.
abbrev pub or_bad_identifier : Option (List ℕ) → Result (List ℕ) ParseError
or_bad_identifier None = Err BadIdentifier
or_bad_identifier (Some value) = Ok value

-- What a text is read as if it is to be an identifier: the sixteen bytes of the UUID that it spells.
abbrev pub identifier_from : List ℕ → Result (List ℕ) ParseError
identifier_from text = or_bad_identifier (uuid.parsed text)

-- The text is a number that fits a byte.
abbrev pub is_byte : List ℕ → Bool
is_byte = is_number 3 255

-- What the parts of a host are read as: the four bytes of the address, or why there are none.
abbrev pub address_from_parts : List (List ℕ) → Result (List ℕ) ParseError
address_from_parts texts =
    if not (length texts == 4) then Err NotFourParts
    else if not (list_all is_byte texts) then Err PartRange
    else Ok (map value_of texts)

-- What a host is read as.
abbrev pub address_from : List ℕ → Result (List ℕ) ParseError
address_from host = address_from_parts (parts host)

-- The byte of a comma.
abbrev pub comma : ℕ
comma = 44

-- The words between commas.
abbrev pub between_commas : List ℕ → List (List ℕ)
between_commas [] = [] ∷ []
between_commas (x ∷ xs) = if x == comma then [] ∷ between_commas xs else in_front x (between_commas xs)

-- The bytes of tags if these are not refused, and else the error.
abbrev pub unless_refused : Option TagsRefusal → List ℕ → Result (List ℕ) ParseError
unless_refused None bytes = Ok bytes
unless_refused (Some refusal) bytes = Err (error_of_tags refusal)

-- What a text is read as if it is to be tags: the bytes of the words between commas, or why these are no tags.
abbrev pub tags_from : List ℕ → Result (List ℕ) ParseError
tags_from text = unless_refused (tags_refusal (between_commas text)) (tags_bytes (between_commas text))
