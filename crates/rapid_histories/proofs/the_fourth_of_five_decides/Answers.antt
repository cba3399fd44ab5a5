use Rattle.rapid_histories.proofs.Examples.{fourth, other_vote, second_vote}
use Rattle.rapid_histories.proofs.the_fourth_of_five_decides.Goals as goal

pub returns : goal.returns
returns c = record { last = fourth; other = other_vote; again = second_vote }
