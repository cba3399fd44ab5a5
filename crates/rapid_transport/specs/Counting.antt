-- Clauses of public calls cite this file.
-- How many calls of a device have failed. The count stays at 2^64 - 1.
use Rattle.std.specs.Prelude.{ℕ, ◌+◌, ◌-◌, ◌^◌, min, Result, Ok, Err}
use Rattle.rapid_transport.specs.declared.error.TransportError.{TransportError}
use Rattle.rapid_transport.specs.declared.error.TransportError.TheVariants.{PeerClosed, Io, Wire, QueueFull, OutOfMemory}

abbrev pub one_more : ℕ → ℕ
one_more count = min (count + 1) (2 ^ 64 - 1)

-- After a call of the device.
abbrev pub after_call : {T E : Type 0} → Result T E → ℕ → ℕ
after_call (Ok x) count = count
after_call (Err e) count = one_more count

-- After calls that end at the first that fails, which is answered by Io, and by Io alone.
abbrev pub after_io : {T : Type 0} → Result T TransportError → ℕ → ℕ
after_io (Ok x) count = count
after_io (Err PeerClosed) count = count
after_io (Err Io) count = one_more count
after_io (Err (Wire fault)) count = count
after_io (Err QueueFull) count = count
after_io (Err OutOfMemory) count = count
