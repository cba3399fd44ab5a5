use Rattle.std.proofs.Common.{◌++◌, ap, ◌∙◌, flat_map}
use Rattle.std.proofs.lemmas.Result.{on_ok_weaker}
use Rattle.rapid_model.specs.Process.{Process}
use Rattle.rapid_model.specs.Configuration.{Configuration}
use Rattle.rapid_model.specs.Apply.{apply}
use Rattle.rapid_model.specs.Host.{HostAnswer, confirms}
use Rattle.rapid_model.specs.Node.{MemberState, outputs}
use Rattle.rapid_model.specs.NodeStep.{install}
use Rattle.rapid_model.specs.Receive.{answer_to}
use Rattle.rapid_node.proofs.node.Node.install.Goals as goal

pub returns-clause-out : goal.returns-clause-out
unfolding install
returns-clause-out c =
    on_ok_weaker c.enter.result
    (λ _.
    c.in_ok-confirm_pending.ensures.out
    ∙ ap (λ (s : MemberState). c.args.out.now.items ++ outputs c.shared_process.result.now (flat_map (λ (x : Process × HostAnswer). answer_to x.0 x.1) (confirms c.deref-next.result.now s.pending))) c.deref_mut.ensures.value
    ∙ ap (λ (p : Process). c.args.out.now.items ++ outputs p (flat_map (λ (x : Process × HostAnswer). answer_to x.0 x.1) (confirms c.deref-next.result.now c.args.member.value.pending))) c.shared_process.ensures
    ∙ ap (λ (n : Configuration). c.args.out.now.items ++ outputs c.args.self.now.me (flat_map (λ (x : Process × HostAnswer). answer_to x.0 x.1) (confirms n c.args.member.value.pending)))
    (c.deref-next.ensures ∙ c.configuration.ensures ∙ c.in_ok-view.ensures ∙ ap (λ (s : MemberState). apply s.config c.args.cut) c.deref.ensures))
    c.enter.ensures.me
