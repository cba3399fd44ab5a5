-- The processes that texts name by a number.
use Rattle.std.specs.Prelude.{ℕ, ◌==◌, [], ◌∷◌, ◌++◌, drop, if◌then◌else◌, Option, Some, None}
use Rattle.std.specs.Option.{option_and_then}
use Rattle.std.specs.Int.{w16, w128, to_be_bytes, from_be_bytes}
use Rattle.rapid_model.specs.Bytes.{Identifier, Endpoint, Word}
use Rattle.rapid_model.specs.Process.{Process, endpoint}
use Rattle.rapid_model.specs.Lines.{number_up_to}

-- The identifier of a number.
abbrev pub numbered_identifier : ℕ → Identifier
numbered_identifier n = to_be_bytes w128 n

-- The endpoint of a port at 127.0.0.1.
abbrev pub local_endpoint : ℕ → Endpoint
local_endpoint port = 127 ∷ 0 ∷ 0 ∷ 1 ∷ to_be_bytes w16 port

-- Process n has the number n as its identifier, the endpoint 127.0.0.1:n and no tags.
abbrev pub numbered : ℕ → Process
numbered n = numbered_identifier n ++ local_endpoint n ++ 0 ∷ []

-- The number of an identifier.
abbrev pub number_under : Identifier → ℕ
number_under id = from_be_bytes w128 id

-- The number of such a process is its port.
abbrev pub number_of : Process → ℕ
number_of p = from_be_bytes w16 (drop 4 (endpoint p))

-- The process of a number that is not 0.
abbrev pub numbered_unless_0 : ℕ → Option Process
numbered_unless_0 n = if n == 0 then None else Some (numbered n)

-- The process that a word names, by a number from 1 to 65,535.
abbrev pub named : Word → Option Process
named w = option_and_then numbered_unless_0 (number_up_to 65535 w)
