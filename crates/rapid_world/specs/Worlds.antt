-- Clauses of public calls cite this file.
-- What a world keeps of the run of its events, and what a node of it observes.
use Rattle.std.specs.Prelude.{◌≡◌, ℕ, List, [], ◌∷◌, map, All, if◌then◌else◌, Option}
use Rattle.std.specs.Option.{option_and_then, option_map}
use Rattle.rapid_model.specs.Process.{Process, identifier}
use Rattle.rapid_model.specs.Configuration.{AreParams, AreMembers}
use Rattle.rapid_model.specs.World.{Peer, World, is_running, running_under, peer_at, observed}
use Rattle.rapid_model.specs.StoredWorld.{StoredWorld, world_of}
use Rattle.rapid_world.specs.Framed.{FramedPacket, framed_packet, HasFrame}
use Rattle.rapid_world.specs.Stored.{started_in}

-- These peers are those of the run of the stored events, these framed packets are its packets with the frames of their
-- messages, and its founders can be founders. The peers are all that ever started, each at its place.
pub record IsRunOf (s : StoredWorld) (ps : List Peer) (sent : List FramedPacket) : Type 0 where
  pub params : AreParams s.founding.params
  pub members : AreMembers s.founding.members
  pub peers : ps ≡ (world_of s).peers
  pub who : map (λ p. p.node.me) ps ≡ started_in s
  pub packets : sent ≡ map framed_packet (world_of s).packets
  pub framed : All HasFrame (world_of s).packets

-- The member that the node observes on a ring which runs under an identifier, if there are such.
abbrev pub observed_by : World → List ℕ → ℕ → Option Process
observed_by w id k = option_map (λ x. x.1) (option_and_then (λ p. observed p k) (peer_at w (running_under w id)))

-- The identifier of a peer, if it runs.
abbrev pub running_id : Peer → List (List ℕ)
running_id p = if is_running p then identifier p.node.me ∷ [] else []
