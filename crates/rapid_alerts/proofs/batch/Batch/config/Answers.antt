use Rattle.std.proofs.Common.{◌≡◌, List, ℕ, All, sym, subst}
use Rattle.rapid_model.specs.Alert.{Alert}
use Rattle.rapid_alerts.specs.Alerts.{alerts_in}
use Rattle.rapid_alerts.proofs.Listing.{of_config}
use Rattle.rapid_alerts.proofs.batch.Batch.config.Goals as goal

pub returns : goal.returns
returns c =
    subst (All (λ (a : Alert). a.config ≡ c.config.result)) c.alerts.ensures.value
    (subst (λ (o : List ℕ). All (λ (a : Alert). a.config ≡ o) (alerts_in c.alerts.result.now)) (sym c.config.ensures) (of_config c.alerts.result.now))
