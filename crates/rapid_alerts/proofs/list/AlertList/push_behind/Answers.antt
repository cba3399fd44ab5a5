use Rattle.std.proofs.Common.{◌≡◌, ℕ, [], ◌∷◌, ◌++◌, List, Some, length, map, ap, sym, subst, ◌∙◌, arith}
use Rattle.std.specs.Prelude.{slice_get}
use Rattle.rapid_model.specs.Process.{Process}
use Rattle.rapid_model.specs.Message.{AlertItem}
use Rattle.rapid_alerts.specs.Alerts.{ArePlaced, ListedAlerts, item_in, kind_of}
use Rattle.rapid_alerts.specs.declared.list.Item.{Item}
use Rattle.rapid_alerts.proofs.Listing.{at_end, listed_is, more_items, more_placed}
use Rattle.rapid_alerts.proofs.list.AlertList.push_behind.Goals as goal

pub returns-clause-pushed : goal.returns-clause-pushed
returns-clause-pushed c =
    let ss = c.self.inside.subjects.items in
    let new = c.push.new.self.items in
    let s = c.args.subject in
    let x : Item = record { place = c.len-place.result; ring = c.args.ring; kind = c.args.kind } in
    let place : c.len-place.result ≡ length ss = omega (arith, c.len-place.ensures, c.self.inside.subjects.ok.0) in
    let at : slice_get new c.len-place.result ≡ Some s =
    subst (λ (k : ℕ). slice_get new k ≡ Some s) (sym place)
    (subst (λ (ps : List Process). slice_get ps (length ss) ≡ Some s) (sym c.in_ok-push.ensures.items) (at_end ss s)) in
    let said : AlertItem = record { ring = c.args.ring; kind = kind_of c.args.kind; subject = s } in
    listed_is c.self.inside.observer c.self.inside.config
    (ap (map (item_in new)) (c.push_reserved.ensures.items ∙ ap (λ (xs : List Item). xs ++ x ∷ []) c.in_ok-reserve.ensures.items)
    ∙ more_items ss new c.self.inside.items.items x s (s ∷ [], c.in_ok-push.ensures.items) c.self.invariant at)
    ∙ ap (λ (l : ListedAlerts). let m : ListedAlerts = record { observer = l.observer; config = l.config; items = l.items ++ said ∷ [] } in m) c.self.view_is

pub invariant_of-self-2 : goal.invariant_of-self-2
invariant_of-self-2 c =
    let ss = c.self.inside.subjects.items in
    let new = c.push.new.self.items in
    let s = c.args.subject in
    let x : Item = record { place = c.len-place.result; ring = c.args.ring; kind = c.args.kind } in
    let place : c.len-place.result ≡ length ss = omega (arith, c.len-place.ensures, c.self.inside.subjects.ok.0) in
    let at : slice_get new c.len-place.result ≡ Some s =
    subst (λ (k : ℕ). slice_get new k ≡ Some s) (sym place)
    (subst (λ (ps : List Process). slice_get ps (length ss) ≡ Some s) (sym c.in_ok-push.ensures.items) (at_end ss s)) in
    subst (ArePlaced new)
    (sym (c.push_reserved.ensures.items ∙ ap (λ (xs : List Item). xs ++ x ∷ []) c.in_ok-reserve.ensures.items))
    (more_placed ss new c.self.inside.items.items x s (s ∷ [], c.in_ok-push.ensures.items) c.self.invariant at)
