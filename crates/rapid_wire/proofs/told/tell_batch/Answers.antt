use Rattle.std.proofs.Common.{subst}
use Rattle.std.specs.Prelude.{map}
use Rattle.rapid_model.specs.Message.{item_of}
use Rattle.rapid_model.specs.Frame.{IsBatch}
use Rattle.rapid_alerts.specs.Alerts.{alerts_in}
use Rattle.rapid_wire.proofs.Joined.{is_batch}
use Rattle.rapid_wire.proofs.told.tell_batch.Goals as goal

pub returns : goal.returns
returns c = subst (λ xs. IsBatch (map item_of xs)) c.alerts.ensures.value (is_batch (alerts_in c.alerts.result.now) c.alerts.ensures.some c.alerts.ensures.few c.tell_alerts.ensures)
