-- Clauses of public calls cite this file.
-- What is proved of the frames themselves.
use Rattle.std.specs.Prelude.{◌≡◌, ℕ, ◌≤◌, List, [], ◌∷◌, ◌++◌, length, map, All, Option, Some, None, Result, Ok, Err}
use Rattle.std.specs.List.{concat}
use Rattle.rapid_model.specs.Message.{Message}
use Rattle.rapid_model.specs.Frame.{IsMessage, IsFrame, frame, payload}
use Rattle.rapid_model.specs.Feed.{WireFault, StreamEnd, Left, Fault, Stream}
use Rattle.rapid_model.specs.Limits.{longest_frame}
use Rattle.rapid_wire.specs.declared.fault.WireFault.{WireFault as CodeFault}
use Rattle.rapid_wire.specs.Feeding.{IsNext, fed}

-- No frame is the beginning of another, and no two messages have one frame.
abbrev pub NoFrameBeginsAnother : Type 0
NoFrameBeginsAnother = (bytes rest : List ℕ) (m n : Message) → IsFrame bytes m → IsFrame (bytes ++ rest) n → (rest ≡ []) × (m ≡ n)

-- Every message that can be spelt fits into a frame.
abbrev pub EveryMessageFits : Type 0
EveryMessageFits = (m : Message) → IsMessage m → length (payload m) ≤ longest_frame

-- However a stream is cut, its messages are the same. Those of its beginning, and then those of what was left with the
-- bytes that follow, are those of the whole, with its end. A fault in its beginning is the fault of the whole.
abbrev pub CuttingChangesNothing : Type 0
CuttingChangesNothing =
    (bytes more : List ℕ) (ms : List Message) →
    ((rest : List ℕ) (ns : List Message) (end : StreamEnd) → Stream bytes ms (Left rest) → Stream (rest ++ more) ns end → Stream (bytes ++ more) (ms ++ ns) end)
    × ((f : WireFault) → Stream bytes ms (Fault f) → Stream (bytes ++ more) ms (Fault f))

-- A stream has no two lists of messages and no two ends.
abbrev pub StreamsHaveOneAnswer : Type 0
StreamsHaveOneAnswer =
    (bytes : List ℕ) (ms ns : List Message) (one other : StreamEnd) → Stream bytes ms one → Stream bytes ns other → (ms ≡ ns) × (one ≡ other)

-- Messages are read again from their frames, which leave nothing.
abbrev pub FramesAreReadAgain : Type 0
FramesAreReadAgain = (ms : List Message) → All IsMessage ms → Stream (concat (map frame ms)) ms (Left [])

-- The messages among what was answered.
abbrev pub answered : Result (Option Message) CodeFault → List Message
answered (Ok (Some m)) = m ∷ []
answered (Ok None) = []
answered (Err e) = []

-- The life of a feed: the bytes of its pieces in order, the messages that it answered, and what it holds.
pub data History : List ℕ → List Message → StreamEnd → Type 0 where
  new : History [] [] (Left [])
  given : (bytes piece : List ℕ) (ms : List Message) (end : StreamEnd) → History bytes ms end → History (bytes ++ piece) ms (fed end piece)
  asked : (bytes : List ℕ) (ms : List Message) (end next : StreamEnd) (answer : Result (Option Message) CodeFault) → History bytes ms end → IsNext end next answer →
      History bytes (ms ++ answered answer) next

-- What is still to be answered of what a feed holds.
abbrev pub ToCome : StreamEnd → List Message → StreamEnd → Type 0
ToCome (Left bytes) ms end = Stream bytes ms end
ToCome (Fault f) ms end = (ms ≡ []) × (end ≡ Fault f)

-- However its stream was cut, and whenever it was asked: what a feed answered and what is to come are the stream's.
abbrev pub FeedsAnswerTheirStream : Type 0
FeedsAnswerTheirStream =
    (bytes : List ℕ) (ms ns : List Message) (now end : StreamEnd) → History bytes ms now → ToCome now ns end → Stream bytes (ms ++ ns) end
