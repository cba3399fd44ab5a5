use Rattle.rapid_member.proofs.Ballots.{next_is_classic}
use Rattle.rapid_member.proofs.member.MemberState.begin.Goals as goal

pub returns-clause-classic : goal.returns-clause-classic
returns-clause-classic c =
    next_is_classic c.in_ok-ballots.ballots.now.coordinator c.rnd.result c.in-Ok.ballot
    c.in-Ok.ensures.ballot c.round.ensures.ballot
