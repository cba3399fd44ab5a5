use Rattle.rapid_histories.proofs.Noticing.{givers_count, notices_complete, learns_once}
use Rattle.rapid_histories.proofs.notices_teach.Goals as goal

pub returns : goal.returns
returns c = record { counts = givers_count; complete = notices_complete; once = learns_once }
