-- Clauses of public calls cite this file.
-- What is answered of the bytes of a reader, which go through a feed.
use Rattle.std.specs.Prelude.{◌≡◌, ◌≢◌, ℕ, Bool, true, false, List, [], ◌++◌, Option, Some, None, Result, Ok, Err}
use Rattle.std.specs.Io.KnownBytes.{Consumes, IsAtEnd}
use Rattle.rapid_model.specs.Message.{Message}
use Rattle.rapid_model.specs.Feed.{StreamEnd, Left}
use Rattle.rapid_wire.specs.Feeding.{IsNext, IsLasting, fed}
use Rattle.rapid_transport.specs.declared.error.TransportError.{TransportError}
use Rattle.rapid_transport.specs.declared.error.TransportError.TheVariants.{PeerClosed, Io, Wire, QueueFull, OutOfMemory}

-- No whole frame is held, nor a fault: more bytes are wanted.
abbrev pub Wants : StreamEnd → Type 0
Wants feed = IsNext feed feed (Ok None)

-- What is answered if the feed held these bytes and holds those then, and this is left to read.
abbrev pub Answers : StreamEnd → StreamEnd → Option (List ℕ) → Result (Option Message) TransportError → Type 0
-- the message in front
Answers held new left (Ok (Some m)) = IsNext held new (Ok (Some m))
-- the input has ended, between frames
Answers held new left (Ok None) = IsAtEnd left × (held ≡ Left []) × (new ≡ held)
-- the input has ended, within a frame
Answers held new left (Err PeerClosed) = IsAtEnd left × Wants held × (held ≢ Left []) × (new ≡ held)
-- what was read before is held
Answers held new left (Err Io) = Wants held × (new ≡ held)
-- the fault of the feed
Answers held new left (Err (Wire fault)) = IsNext held new (Err fault) × IsLasting (Some fault)
Answers held new left (Err QueueFull) = ⊥
Answers held new left (Err OutOfMemory) = new ≡ held

-- Bytes are lost only if out of memory.
abbrev pub Loses : Result (Option Message) TransportError → List ℕ → Type 0
Loses (Ok o) lost = lost ≡ []
Loses (Err PeerClosed) lost = lost ≡ []
Loses (Err Io) lost = lost ≡ []
Loses (Err (Wire fault)) lost = lost ≡ []
Loses (Err QueueFull) lost = ⊥
Loses (Err OutOfMemory) lost = Unit {0}

-- Bytes were read and fed, and the answer is the feed's.
pub record Receives (old new : StreamEnd) (before left : Option (List ℕ)) (answer : Result (Option Message) TransportError) : Type 0 where
  pub taken : List ℕ
  pub lost : List ℕ
  pub read : Consumes before left (taken ++ lost)
  pub loses : Loses answer lost
  -- bytes are read only if more are wanted
  pub wanted : taken ++ lost ≢ [] → Wants old
  pub answers : Answers (fed old taken) new left answer

-- Some bytes were read and fed; or the input has ended, which gives false.
abbrev pub Refills : StreamEnd → StreamEnd → Option (List ℕ) → Option (List ℕ) → Result Bool TransportError → Type 0
Refills old new before left (Ok true) = (taken : List ℕ) × Consumes before left taken × (new ≡ fed old taken)
Refills old new before left (Ok false) = Consumes before left [] × IsAtEnd left × (new ≡ old)
Refills old new before left (Err PeerClosed) = ⊥
Refills old new before left (Err Io) = Consumes before left [] × (new ≡ old)
Refills old new before left (Err (Wire fault)) = ⊥
Refills old new before left (Err QueueFull) = ⊥
Refills old new before left (Err OutOfMemory) = (lost : List ℕ) × Consumes before left lost × (new ≡ old)

-- So far bytes were read and fed, and no message is there yet.
pub record IsUnderway (old now : StreamEnd) (before left : Option (List ℕ)) : Type 0 where
  pub taken : List ℕ
  pub read : Consumes before left taken
  pub feed : now ≡ fed old taken
  pub wanted : taken ≢ [] → Wants old
