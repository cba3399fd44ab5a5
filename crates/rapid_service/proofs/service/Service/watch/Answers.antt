use Rattle.std.proofs.Common.{◌≡◌, IfSome, IfOk, subst, ◌∙◌}
use Rattle.std.proofs.lemmas.Result.{IfOk-weaker}
use Rattle.rapid_model.specs.Ring.{subjects_of}
use Rattle.rapid_service.proofs.service.Service.watch.Goals as goal

-- The edges of the present view are those of the service's own process.
pub returns-in-Some-clause-edges : goal.returns-in-Some-clause-edges
returns-in-Some-clause-edges g c =
    let mine = subst (λ o. IfSome o (λ p. p.watch.me ≡ c.args.self.now.me)) c.in-Some.is c.args.self.now.mine in
    subst (λ me. IfOk c.next.result (λ w. w.edges.items ≡ subjects_of c.args.configuration.now me)) mine c.next.ensures.edges

pub returns-in-Some-clause-me : goal.returns-in-Some-clause-me
returns-in-Some-clause-me g c =
    let mine = subst (λ o. IfSome o (λ p. p.watch.me ≡ c.args.self.now.me)) c.in-Some.is c.args.self.now.mine in
    IfOk-weaker c.next.result _ _ (λ w made. made.1 ∙ mine) c.next.ensures.made

pub returns-in-Some-clause-rings : goal.returns-in-Some-clause-rings
returns-in-Some-clause-rings g c = IfOk-weaker c.next.result _ _ (λ w made. made.0) c.next.ensures.made
