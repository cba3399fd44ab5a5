use Rattle.rapid_histories.proofs.Examples.{two_promised, second_promise, third_promise}
use Rattle.rapid_histories.proofs.the_third_of_five_completes.Goals as goal

pub returns : goal.returns
returns c = record { before = two_promised; again = second_promise; third = third_promise }
