use Rattle.std.proofs.Common.{◌≡◌, IfSome, map, ap, sym, subst, ◌∙◌}
use Rattle.rapid_model.specs.Ring.{subjects_of}
use Rattle.rapid_rounds.specs.Edges.{told_of, all_blank}
use Rattle.rapid_service.proofs.service.Service.take_parts.Goals as goal

-- The edges of the present view are those of the service's own process in that view.
pub returns-in_ok-take_parts-in-Some-clause-parts : goal.returns-in_ok-take_parts-in-Some-clause-parts
returns-in_ok-take_parts-in-Some-clause-parts g c =
    let me = c.args.self.now.me in
    let parts = c.args.parts in
    let here = c.in-Some.present in
    let given = c.in_ok-take_parts-in-Some.field-0 in
    let mine = subst (λ o. IfSome o (λ p. p.watch.me ≡ me)) c.in-Some.is c.args.self.now.mine in
    subst (λ o. IfSome o (λ p. IfSome given (λ all. map told_of all.items ≡ all_blank p.view (subjects_of p.view me) parts parts)))
    (sym c.in-Some.is)
    (subst (λ edges. IfSome given (λ all. map told_of all.items ≡ all_blank here.view edges parts parts))
    (here.here ∙ ap (subjects_of here.view) mine)
    (subst (λ c. IfSome given (λ all. map told_of all.items ≡ all_blank c here.watch.edges.items parts parts)) here.same c.in_ok-take_parts-in-Some.ensures.parts))
