use Rattle.std.proofs.Common.{◌++◌, ap, ◌∙◌}
use Rattle.std.proofs.lemmas.Result.{on_ok_weaker, IfErr-weaker}
use Rattle.rapid_model.specs.Process.{Process}
use Rattle.rapid_model.specs.Node.{MemberState, outputs}
use Rattle.rapid_model.specs.Member.{Work}
use Rattle.rapid_model.specs.Tick.{on_tick}
use Rattle.rapid_node.proofs.Settling.{settles, stops_more}
use Rattle.rapid_node.proofs.node.Node.member_tick.Goals as goal

pub returns-clause-ok : goal.returns-clause-ok
returns-clause-ok c =
    let same = ap on_tick c.deref_mut.ensures.value in
    let work = on_tick c.args.member.value in
    on_ok_weaker c.settle.result
    (settles _ _ work _ _ _ _ _ _
    (c.in_ok-decided.ensures.state ∙ ap (λ (w : Work). w.state) same)
    (c.in_ok-decided.ensures.decided ∙ ap (λ (w : Work). w.decided) same)
    (c.in_ok-decided.ensures.out ∙ ap (λ (w : Work). c.args.out.now.items ++ outputs c.deref_mut.result.now.me w.effects) same
    ∙ ap (λ (p : Process). c.args.out.now.items ++ outputs p work.effects) (ap (λ (s : MemberState). s.me) c.deref_mut.ensures.value ∙ c.requires.me)))
    c.settle.ensures.ok

pub returns-clause-stop : goal.returns-clause-stop
returns-clause-stop c =
    let same = ap on_tick c.deref_mut.ensures.value in
    IfErr-weaker c.settle.result _ _
    (stops_more _ _ (on_tick c.args.member.value) _ _ (c.in_ok-decided.ensures.state ∙ ap (λ (w : Work). w.state) same) (c.in_ok-decided.ensures.decided ∙ ap (λ (w : Work). w.decided) same))
    c.settle.ensures.stop
