use Rattle.std.proofs.Common.{List, ap, sym, subst, ◌∙◌}
use Rattle.std.proofs.lemmas.List.Elements.{same_from_all_zip}
use Rattle.rapid_model.specs.Process.{Process}
use Rattle.rapid_alerts.specs.declared.mark.Marks.{Marks}
use Rattle.rapid_alerts.specs.Marks.{IsIndex, index_in}
use Rattle.rapid_alerts.proofs.index.Index.try_copy.Goals as goal

pub invariant_of-result : goal.invariant_of-result
invariant_of-result c =
    subst (λ (xs : List (Process × Marks)). IsIndex xs c.self.inside.joiners)
    (sym (same_from_all_zip _ c.self.inside.marks.items c.in_ok-clone.field-0.items c.in_ok-clone.ensures.cases.0 (λ x y r i. (r.0 i, r.1 i)))) c.self.invariant

pub returns : goal.returns
returns c =
    ap index_in (same_from_all_zip _ c.self.inside.marks.items c.in_ok-clone.field-0.items c.in_ok-clone.ensures.cases.0 (λ x y r i. (r.0 i, r.1 i)))
    ∙ c.self.view_is
