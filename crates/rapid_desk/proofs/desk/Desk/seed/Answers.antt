use Rattle.std.proofs.Common.{rules, ◌∙◌, ◌++◌, [], ◌∷◌, ap}
use Rattle.rapid_model.specs.Configuration.{stamp}
use Rattle.rapid_desk.specs.Desks.{BoardValue}
use Rattle.rapid_desk.proofs.Keeping.{keeps_seed_held, seed_is}
use Rattle.rapid_desk.proofs.desk.Desk.seed.Goals as goal

pub invariant_of-result : goal.invariant_of-result
invariant_of-result g c =
    let shown = c.in-Ok.ensures.published ∙ ap (λ (b : BoardValue). b.published ++ stamp c.new-view.result ∷ []) c.new-board.ensures ∙ ap (λ v. stamp v ∷ []) (c.new-view.ensures ∙ c.in_ok-try_copy.ensures) in
    (keeps_seed_held c.in_ok-held.held c.publish.new.self.published c.args.configuration.now c.args.process c.in_ok-node.node c.requires.member c.in_ok-node.ensures c.in_ok-held.ensures shown, search rules)

pub returns-clause-state : goal.returns-clause-state
returns-clause-state g c =
    let shown = c.in-Ok.ensures.published ∙ ap (λ (b : BoardValue). b.published ++ stamp c.new-view.result ∷ []) c.new-board.ensures ∙ ap (λ v. stamp v ∷ []) (c.new-view.ensures ∙ c.in_ok-try_copy.ensures) in
    seed_is c.in_ok-held.held c.publish.new.self.published c.args.configuration.now c.args.process c.in_ok-node.node c.in_ok-node.ensures c.in_ok-held.ensures shown
