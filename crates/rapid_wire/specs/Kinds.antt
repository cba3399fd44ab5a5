-- The kinds of frames as numbers.
use Rattle.std.specs.Prelude.{ℕ}
use Rattle.rapid_wire.specs.declared.kind.FrameKind.{FrameKind}
use Rattle.rapid_wire.specs.declared.kind.FrameKind.TheVariants.{Batch, FastVote, Prepare, Promise, Accept, Accepted, Decision, PreJoin, Reply, JoinRequest, Confirm, Probe, ProbeAck, Leave}

-- The number of a kind.
abbrev pub number_of : FrameKind → ℕ
number_of Batch = 1
number_of FastVote = 2
number_of Prepare = 3
number_of Promise = 4
number_of Accept = 5
number_of Accepted = 6
number_of Decision = 7
number_of PreJoin = 8
number_of Reply = 9
number_of JoinRequest = 10
number_of Confirm = 11
number_of Probe = 12
number_of ProbeAck = 13
number_of Leave = 14
