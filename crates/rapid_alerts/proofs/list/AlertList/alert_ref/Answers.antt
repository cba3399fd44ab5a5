use Rattle.std.proofs.Common.{◌<◌, Some, length, map, get_or, refl, ap, sym, subst, ◌∙◌}
use Rattle.std.specs.Prelude.{slice_get}
use Rattle.std.proofs.lemmas.Option.{slice_get_read}
use Rattle.rapid_model.specs.Alert as model
use Rattle.rapid_model.specs.Message.{AlertItem}
use Rattle.rapid_alerts.specs.Alerts.{ListedAlerts, alerts_in, item_in, kind_of}
use Rattle.rapid_alerts.specs.declared.list.Item.{Item}
use Rattle.rapid_alerts.proofs.Listing.{alert_at_place, item_at_place, within_items}
use Rattle.rapid_alerts.proofs.list.AlertList.alert_ref.Goals as goal

pub returns : goal.returns
returns c =
    let ss = c.self.inside.subjects.items in
    let xs = c.self.inside.items.items in
    let x = c.index-item.result.now in
    let s = c.index.result.now in
    let within : c.args.at < length xs = within_items ss xs c.args.at c.args.self.now (ap (λ (l : ListedAlerts). l.items) c.self.view_is) c.requires in
    let placed : x.place < length ss = subst (λ (y : Item). y.place < length ss) (sym c.index-item.ensures) (c.self.invariant c.args.at x within) in
    let said : AlertItem = record { ring = x.ring; kind = kind_of x.kind; subject = s } in
    let seen : ListedAlerts = record { observer = c.self.inside.observer; config = c.self.inside.config; items = map (item_in ss) xs } in
    sym (ap (λ (l : ListedAlerts). slice_get (alerts_in l) c.args.at) c.self.view_is)
    ∙ alert_at_place seen c.args.at said
    (item_at_place ss xs c.args.at x s (slice_get_read xs (length xs) c.args.at x refl within c.index-item.ensures)
    (slice_get_read ss (length ss) x.place s refl placed (c.index.ensures ∙ ap (λ n. get_or ss n s) c.from.ensures)))
    ∙ (λ i. let a : model.Alert = record { observer = sym (c.as_ref.ensures ∙ c.get.ensures) i; subject = sym c.as_ref-2.ensures i; ring = x.ring; kind = kind_of x.kind; config = c.self.inside.config } in Some a)
