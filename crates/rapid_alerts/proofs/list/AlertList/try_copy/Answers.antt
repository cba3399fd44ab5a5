use Rattle.std.proofs.Common.{◌≡◌, List, sym, subst, map, ◌∙◌}
use Rattle.std.proofs.lemmas.List.Elements.{same_from_all_zip}
use Rattle.rapid_model.specs.Process.{Process}
use Rattle.rapid_alerts.specs.Alerts.{ArePlaced, ListedAlerts, item_in}
use Rattle.rapid_alerts.specs.declared.list.Item.{Item}
use Rattle.rapid_alerts.proofs.list.AlertList.try_copy.Goals as goal

pub invariant_of-result : goal.invariant_of-result
invariant_of-result c =
    let subjects : c.in_ok-clone.field-0.items ≡ c.self.inside.subjects.items =
    same_from_all_zip _ c.self.inside.subjects.items c.in_ok-clone.field-0.items c.in_ok-clone.ensures.cases.0 (λ x y r. r) in
    let items : c.in_ok-clone-2.field-0.items ≡ c.self.inside.items.items =
    same_from_all_zip _ c.self.inside.items.items c.in_ok-clone-2.field-0.items c.in_ok-clone-2.ensures.cases.0 (λ x y r. r) in
    subst (λ (ss : List Process). ArePlaced ss c.in_ok-clone-2.field-0.items) (sym subjects)
    (subst (λ (xs : List Item). ArePlaced c.self.inside.subjects.items xs) (sym items) c.self.invariant)

pub returns : goal.returns
returns c =
    let subjects : c.in_ok-clone.field-0.items ≡ c.self.inside.subjects.items =
    same_from_all_zip _ c.self.inside.subjects.items c.in_ok-clone.field-0.items c.in_ok-clone.ensures.cases.0 (λ x y r. r) in
    let items : c.in_ok-clone-2.field-0.items ≡ c.self.inside.items.items =
    same_from_all_zip _ c.self.inside.items.items c.in_ok-clone-2.field-0.items c.in_ok-clone-2.ensures.cases.0 (λ x y r. r) in
    (λ i. let l : ListedAlerts = record {
      observer = c.in_ok-share.ensures i;
      config = c.self.inside.config;
      items = map (item_in (subjects i)) (items i);
    } in l)
    ∙ c.self.view_is
