-- Clauses of public calls cite this file.
-- The endpoints that a peer may have.
use Rattle.std.specs.Prelude.{Bool, ◌&&◌, ◌==◌, drop, slice_index, nat_le}
use Rattle.std.specs.Int.{w16, from_be_bytes}
use Rattle.rapid_model.specs.Bytes.{Endpoint}

-- An endpoint on the loopback network, 127.x.x.x, with a port from 1.
abbrev pub is_local : Endpoint → Bool
is_local e = (slice_index e 0 == 127) && nat_le 1 (from_be_bytes w16 (drop 4 e))
