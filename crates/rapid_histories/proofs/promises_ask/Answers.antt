use Rattle.rapid_histories.proofs.Promising.{promises_count, promises_complete, requests_once}
use Rattle.rapid_histories.proofs.promises_ask.Goals as goal

pub returns : goal.returns
returns c = record { counts = promises_count; complete = promises_complete; once = requests_once }
