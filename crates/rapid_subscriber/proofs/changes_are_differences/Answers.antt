use Rattle.std.proofs.Common.{not}
use Rattle.rapid_model.specs.Configuration.{is_member}
use Rattle.rapid_subscriber.proofs.changes_are_differences.Goals as goal
use Rattle.rapid_model.proofs.Among.{filter_among}

pub returns : goal.returns
returns c = λ d e p. filter_among (λ q. not (is_member e q)) d.members p
