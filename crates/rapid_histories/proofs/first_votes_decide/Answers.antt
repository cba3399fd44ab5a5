use Rattle.rapid_histories.proofs.Voting.{first_votes_count, votes_complete, decides_once}
use Rattle.rapid_histories.proofs.first_votes_decide.Goals as goal

pub returns : goal.returns
returns c = record { counts = first_votes_count; complete = votes_complete; once = decides_once }
