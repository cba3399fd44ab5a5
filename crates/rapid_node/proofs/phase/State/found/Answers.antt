use Rattle.std.proofs.Common.{ap, ◌∙◌}
use Rattle.rapid_model.specs.Process.{Process}
use Rattle.rapid_model.specs.Configuration.{Configuration}
use Rattle.rapid_model.specs.Node.{fresh_member}
use Rattle.rapid_node.proofs.Showing.{enters}
use Rattle.rapid_node.proofs.phase.State.found.Goals as goal

pub returns-clause-state : goal.returns-clause-state
returns-clause-state c =
    enters c.args.view.now c.args.me.now c.in_ok-boxed.boxed
    (c.in_ok-boxed.ensures.ok
    ∙ c.in_ok-member.ensures
    ∙ ap (λ (k : Configuration). fresh_member k c.in_ok-own.own) (c.deref.ensures ∙ c.configuration.ensures)
    ∙ ap (λ (p : Process). fresh_member c.args.view.now p) c.in_ok-own.ensures)
