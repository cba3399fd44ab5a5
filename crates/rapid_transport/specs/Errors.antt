-- Clauses of public calls cite this file.
-- The errors of frames on their way.
use Rattle.std.specs.Prelude.{ℕ}
use Rattle.rapid_wire.specs.declared.fault.WireFault.{WireFault}
use Rattle.rapid_wire.specs.declared.fault.WireFault.TheVariants as wire
use Rattle.rapid_transport.specs.declared.error.TransportError.{TransportError}
use Rattle.rapid_transport.specs.declared.error.TransportError.TheVariants.{PeerClosed, Io, Wire, QueueFull, OutOfMemory}

-- The number of an error.
abbrev pub code_of : TransportError → ℕ
code_of PeerClosed = 1
code_of Io = 2
code_of (Wire fault) = 3
code_of QueueFull = 4
code_of OutOfMemory = 99

-- A fault of a feed as an error; out of memory is one of its own.
abbrev pub of_fault : WireFault → TransportError
of_fault wire.TooLong = Wire wire.TooLong
of_fault wire.BadVersion = Wire wire.BadVersion
of_fault wire.BadKind = Wire wire.BadKind
of_fault wire.BadBody = Wire wire.BadBody
of_fault wire.OutOfMemory = OutOfMemory
