-- The parts of a member, which its copies share.
use Rattle.std.specs.Prelude.{◌≡◌, ℕ, ◌<◌, ◌≤◌, Bool, length, Option, Some}
use Rattle.std.specs.Arc.{arc_value}
use Rattle.rapid_model.specs.Configuration.{Configuration, position_of}
use Rattle.rapid_model.specs.Node as node
use Rattle.rapid_model.specs.Node.{MemberState}
use Rattle.rapid_model.specs.Limits.{most_members}
use Rattle.rapid_cut.specs.Watching.{Watching}
use Rattle.rapid_member.specs.declared.member.parts.Context.{Context}
use Rattle.rapid_member.specs.declared.member.parts.Votes.{Votes}
use Rattle.rapid_member.specs.declared.member.parts.Rest.{Rest}

-- Each part is the same, wherever it stands.
abbrev pub AreSameParts : Rest → Rest → Type 0
AreSameParts a b =
    (arc_value b.ballots ≡ arc_value a.ballots)
    × (arc_value b.raised ≡ arc_value a.raised)
    × (arc_value b.waiting ≡ arc_value a.waiting)

-- The member of these parts: whether it has voted, its ticks, and the tick of the first vote.
abbrev pub member_of : Context → Votes → Watching Configuration → Rest → Bool → ℕ → Option ℕ → MemberState
member_of c v d r voted tick first =
    record {
      config = c.configuration;
      me = c.me;
      outbox = (arc_value r.raised).outbox;
      detector = d.detector;
      fast = v.round.round;
      acceptor = (arc_value r.ballots).acceptor;
      coordinator = (arc_value r.ballots).coordinator;
      learner = (arc_value r.ballots).learner;
      pending = (arc_value r.waiting).host.pending;
      proposal = (arc_value r.ballots).proposal;
      voted = voted;
      tick = tick;
      first_vote = first;
      ages = (arc_value r.waiting).ages;
    }

-- What never changes is that of a member: the rings are the configuration's, and the place is its own.
pub record IsContext (c : Context) : Type 0 where
  pub rings : c.rings ≡ c.configuration
  pub found : position_of c.configuration c.me ≡ Some c.place
  pub own : c.place ≡ node.place c.configuration c.me
  pub member : c.place < length c.configuration.members
  pub few : length c.configuration.members ≤ most_members

-- The parts are those of a member of the configuration: they have its rings, its place and the number of members.
pub record AreParts (c : Context) (v : Votes) (d : Watching Configuration) (r : Rest) : Type 0 where
  pub outbox_rings : (arc_value r.raised).table ≡ c.configuration
  pub outbox_owner : (arc_value r.raised).owner ≡ c.me
  pub detector_rings : d.table ≡ c.configuration
  pub fast_size : v.round.round.size ≡ length c.configuration.members
  pub coordinator_size : (arc_value r.ballots).coordinator.size ≡ length c.configuration.members
  pub learner_size : (arc_value r.ballots).learner.size ≡ length c.configuration.members
  pub host_config : (arc_value r.waiting).host.config ≡ c.configuration
  pub host_me : (arc_value r.waiting).host.me ≡ c.me
