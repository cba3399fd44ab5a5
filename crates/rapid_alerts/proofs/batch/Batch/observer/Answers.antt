use Rattle.std.proofs.Common.{◌≡◌, List, ℕ, All, sym, subst}
use Rattle.rapid_model.specs.Alert.{Alert}
use Rattle.rapid_alerts.specs.Alerts.{alerts_in}
use Rattle.rapid_alerts.proofs.Listing.{of_observer}
use Rattle.rapid_alerts.proofs.batch.Batch.observer.Goals as goal

pub returns : goal.returns
returns c =
    subst (All (λ (a : Alert). a.observer ≡ c.observer.result.now)) c.alerts.ensures.value
    (subst (λ (o : List ℕ). All (λ (a : Alert). a.observer ≡ o) (alerts_in c.alerts.result.now)) (sym c.observer.ensures) (of_observer c.alerts.result.now))
