use Rattle.std.proofs.Common.{◌≡◌, [], ◌∷◌, ◌++◌, List, Some, map, ap, subst, ◌∙◌}
use Rattle.std.specs.Prelude.{slice_get}
use Rattle.rapid_model.specs.Process.{Process}
use Rattle.rapid_model.specs.Message.{AlertItem}
use Rattle.rapid_alerts.specs.Alerts.{ListedAlerts, item_in, kind_of}
use Rattle.rapid_alerts.specs.declared.list.Item.{Item}
use Rattle.rapid_alerts.proofs.Listing.{as_they_were, listed_is, more_items}
use Rattle.rapid_alerts.proofs.list.AlertList.push_if_near.Goals as goal

pub returns-clause-pushed : goal.returns-clause-pushed
returns-clause-pushed c e =
    let ss = c.self.inside.subjects.items in
    let s = c.args.subject.now in
    let x : Item = record { place = c.in-Some.place; ring = c.args.ring; kind = c.args.kind } in
    let at = subst (λ (ps : List Process). slice_get ps c.in-Some.place ≡ Some s) c.deref.ensures.value c.in-Some.ensures in
    let said : AlertItem = record { ring = c.args.ring; kind = kind_of c.args.kind; subject = s } in
    listed_is c.self.inside.observer c.self.inside.config
    (ap (map (item_in ss)) c.in_ok-push.ensures.items ∙ more_items ss ss c.self.inside.items.items x s (as_they_were ss) c.self.invariant at)
    ∙ ap (λ (l : ListedAlerts). let m : ListedAlerts = record { observer = l.observer; config = l.config; items = l.items ++ said ∷ [] } in m) c.self.view_is
