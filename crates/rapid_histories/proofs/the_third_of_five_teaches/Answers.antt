use Rattle.rapid_histories.proofs.Examples.{low_third, high_third, neither}
use Rattle.rapid_histories.proofs.the_third_of_five_teaches.Goals as goal

pub returns : goal.returns
returns c = record { low = low_third; high = high_third; neither = neither }
