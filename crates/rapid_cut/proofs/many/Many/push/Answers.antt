use Rattle.std.proofs.Common.{◌∙◌, ◌++◌, ◌∷◌, [], ap, zip}
use Rattle.std.specs.Arc.{arc_value}
use Rattle.rapid_cut.specs.Listed.{masks_at}
use Rattle.rapid_cut.proofs.Zipped.{not_in, both_more}
use Rattle.rapid_cut.proofs.many.Many.push.Goals as goal

pub push_shared-requires : goal.push_shared-requires
push_shared-requires c =
    let s = c.args.subject in
    not_in (arc_value c.self.inside.subjects) c.self.inside.masks.items s c.self.invariant (ap (λ es. masks_at es s) c.self.view_is ∙ c.requires)

pub returns-clause-pushed : goal.returns-clause-pushed
returns-clause-pushed c =
    let ps = arc_value c.self.inside.subjects in
    let ms = c.self.inside.masks.items in
    let m = c.args.masks in
    let items = c.push_reserved.ensures.items ∙ ap (λ xs. xs ++ m ∷ []) c.in_ok-reserve.ensures.items in
    (λ i. zip (c.in_ok-push_shared.ensures.pushed i) (items i))
    ∙ both_more ps ms c.args.subject m c.self.invariant ∙ ap (λ xs. xs ++ (c.args.subject, m) ∷ []) c.self.view_is
