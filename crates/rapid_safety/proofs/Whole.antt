-- All that holds of every run.
use Rattle.std.proofs.Common.{List}
use Rattle.rapid_safety.proofs.Values.{Configuration, AreMembers, AreParams}
use Rattle.rapid_safety.proofs.Worlds.{MarkedEvent, run, founded, VotesOnce, AsksOnce, NoCollision, RunHolds}
use Rattle.rapid_safety.proofs.Lived.{lived_run}
use Rattle.rapid_safety.proofs.Voting.{votes_once}
use Rattle.rapid_safety.proofs.Implied.{asks_follow}
use Rattle.rapid_safety.proofs.Speaking.{accepts_go_out_once, members_speak, words_are_of_members}
use Rattle.rapid_safety.proofs.Alerts.{alerts_are_justified}
use Rattle.rapid_safety.proofs.Prompting.{decisions_are_prompt}
use Rattle.rapid_safety.proofs.Told.{confirms_name_installed}
use Rattle.rapid_safety.proofs.Rules.{one_cut_is_chosen, accepts_are_lawful, accepts_exclude_below}
use Rattle.rapid_safety.proofs.Agreement.{run_agrees, decisions_are_chosen}

pub members_vote_once : (c : Configuration) (events : List MarkedEvent) → AreMembers c.members → VotesOnce (run events (founded c))
members_vote_once c es are = votes_once (run es (founded c)) (lived_run c es are)

pub one_cut_is_asked : (c : Configuration) (events : List MarkedEvent) → AreMembers c.members → AsksOnce (run events (founded c))
one_cut_is_asked c es are = asks_follow (run es (founded c)) (accepts_go_out_once c es are)

-- ---- all that holds of every run

pub runs_hold : (c : Configuration) (es : List MarkedEvent) → AreParams c.params → AreMembers c.members → NoCollision (run es (founded c)) → RunHolds (run es (founded c))
runs_hold c es params are apart =
    record {
      agreed = run_agrees c es params are apart;
      one_chosen = one_cut_is_chosen c es are apart;
      accepts_exclude = λ more later. accepts_exclude_below c es more are later;
      accepts_lawful = accepts_are_lawful c es are apart;
      accepts_once = accepts_go_out_once c es are;
      votes_once = members_vote_once c es are;
      members_speak = members_speak c es are;
      spoken_as_members = words_are_of_members c es are;
      alerts_justified = alerts_are_justified c es are;
      prompt = decisions_are_prompt c es are apart;
      confirms_installed = confirms_name_installed c es are;
      decisions_chosen = decisions_are_chosen c es are apart;
    }
