-- Messages that come, and the packets from whose frames they are read.
use Rattle.std.specs.Prelude.{◌≡◌, ◌<◌, ◌≤◌, ◌+◌, ◌-◌, ℕ, List, length, slice_get, Some}
use Rattle.rapid_model.specs.Frame.{IsFrame}
use Rattle.rapid_model.specs.Message.{Message}
use Rattle.rapid_model.specs.Node.{Event, Receive}
use Rattle.rapid_world.specs.Framed.{FramedPacket}
use Rattle.rapid_world.specs.Sent.{Sent, numbered_packet}

-- If the frame is that of a message, the event is that this message comes.
abbrev pub IsReadFrom : List ℕ → Event → Type 0
IsReadFrom frame e = (m : Message) → IsFrame frame m → e ≡ Receive m

-- The event is read from the frame of the packet of a number, if there is one.
abbrev pub Brings : List FramedPacket → ℕ → Event → Type 0
Brings ps k e = (p : FramedPacket) → numbered_packet ps k ≡ Some p → IsReadFrom p.bytes e

-- The event is read from the frame of each packet with a number above the first, up to the end; all these are there.
pub record AreRead (ps : List FramedPacket) (first end : ℕ) (e : Event) : Type 0 where
  pub there : end ≤ length ps
  pub read : (k : ℕ) → first < k → k ≤ end → Brings ps k e

-- The packets with numbers above the first, up to the end, are packets of a step, all with one frame; the one with number k
-- is one of them.
pub record HaveFrame (s : Sent) (first end k : ℕ) : Type 0 where
  pub starts : first < k
  pub ends : k ≤ end
  pub above : s.first ≤ first
  pub there : end ≤ s.first + length s.packets
  pub bytes : List ℕ
  pub same : (j : ℕ) (p : FramedPacket) → first < j → j ≤ end → slice_get s.packets ((j - 1) - s.first) ≡ Some p → p.bytes ≡ bytes
