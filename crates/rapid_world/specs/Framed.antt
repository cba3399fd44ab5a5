-- Clauses of public calls cite this file.
-- Packets and outputs with the frames of their messages, as a world keeps them.
use Rattle.std.specs.Prelude.{◌≡◌, ℕ, List, [], ◌∷◌, map, Option, Some, None}
use Rattle.rapid_model.specs.Bytes.{Endpoint}
use Rattle.rapid_model.specs.Process.{Process, endpoint}
use Rattle.rapid_model.specs.Frame.{IsMessage, IsFrame, frame}
use Rattle.rapid_model.specs.Node.{Destination, To, Others, Itself, Output}
use Rattle.rapid_model.specs.World.{Packet}

-- A frame on its way to an endpoint.
pub record FramedPacket : Type 0 where
  pub to : Endpoint
  pub bytes : List ℕ

-- A frame that goes out.
pub record FramedOutput : Type 0 where
  pub to : Destination
  pub bytes : List ℕ

-- The frame that goes out to a destination.
abbrev pub output_to : List ℕ → Destination → FramedOutput
output_to bytes to = record { to = to; bytes = bytes }

-- The packet with the frame of its message.
unfoldable pub framed_packet : Packet → FramedPacket
framed_packet p = record { to = p.to; bytes = frame p.message }

-- The output with the frame of its message.
unfoldable pub framed_output : Output → FramedOutput
framed_output o = record { to = o.to; bytes = frame o.message }

-- The message of the packet has a frame.
abbrev pub HasFrame : Packet → Type 0
HasFrame p = IsMessage p.message

-- The message of the output has a frame.
abbrev pub CanBeFramed : Output → Type 0
CanBeFramed o = IsMessage o.message

-- The frame on its way to an endpoint.
abbrev pub frame_to : List ℕ → Endpoint → FramedPacket
frame_to bytes to = record { to = to; bytes = bytes }

-- The packets of a frame: one for each to whom it goes.
abbrev pub frames_to : List Process → List ℕ → Destination → List FramedPacket
frames_to others bytes (To e) = frame_to bytes e ∷ []
frames_to others bytes Others = map (λ p. frame_to bytes (endpoint p)) others
frames_to others bytes Itself = []

-- The packets of a framed output; what goes to the others goes to these members.
abbrev pub frames_of : List Process → FramedOutput → List FramedPacket
frames_of others o = frames_to others o.bytes o.to

-- The endpoint to which a packet goes, and the frame of its message, which is the one spelling of it; none if there is
-- no such packet.
abbrev pub IsFrameOf : Option Packet → Option (Endpoint × List ℕ) → Type 0
IsFrameOf None None = Unit {0}
IsFrameOf None (Some x) = ⊥
IsFrameOf (Some p) None = ⊥
IsFrameOf (Some p) (Some x) = (x.0 ≡ p.to) × IsFrame x.1 p.message
