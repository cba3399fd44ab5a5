use Rattle.std.proofs.Common.{◌≡◌, map, refl, sym, ◌∙◌}
use Rattle.std.proofs.lemmas.Bool.{not-false}
use Rattle.std.proofs.lemmas.Slice.Eq.{slice_eq-Decides}
use Rattle.rapid_model.proofs.Orders.{same_bytes_decides}
use Rattle.rapid_alerts.specs.Alerts.{item_in}
use Rattle.rapid_alerts.specs.contracts.alert.KindPartialEq.TheImpl.{ghosts}
use Rattle.rapid_alerts.proofs.Listing.{items_decide, kinds_decide}
use Rattle.rapid_alerts.proofs.list.AlertList.is_kept_as.Goals as goal

pub returns : goal.returns
returns c e =
    let config : c.self.inside.config ≡ c.other.inside.config = (same_bytes_decides _ _).0 (not-false _ (sym c.ne.ensures ∙ c.if-ne.false)) in
    let observer : c.self.inside.observer ≡ c.other.inside.observer = (same_bytes_decides _ _).0 (not-false _ (sym c.ne-2.ensures ∙ c.if-ne-2.false)) in
    let items : c.self.inside.items.items ≡ c.other.inside.items.items =
    (slice_eq-Decides (items_decide ghosts.eq (kinds_decide ghosts.eq refl refl refl refl)) _ _ _ refl).0 (not-false _ (sym c.ne-3.ensures ∙ c.if-ne-3.false)) in
    let subjects : c.self.inside.subjects.items ≡ c.other.inside.subjects.items = (slice_eq-Decides same_bytes_decides _ _ _ c.eq.ensures).0 e in
    sym c.self.view_is
    ∙ (λ i. record { observer = observer i; config = config i; items = map (item_in (subjects i)) (items i) })
    ∙ c.other.view_is
