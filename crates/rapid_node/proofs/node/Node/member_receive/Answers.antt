use Rattle.std.proofs.Common.{◌≡◌, ◌++◌, ap, ◌∙◌}
use Rattle.std.proofs.lemmas.Result.{on_ok_weaker, IfErr-weaker}
use Rattle.rapid_model.specs.Process.{Process}
use Rattle.rapid_model.specs.Node.{Decisions, MemberState, outputs}
use Rattle.rapid_model.specs.Member.{Work}
use Rattle.rapid_model.specs.Receive.{receive_as_member}
use Rattle.rapid_node.proofs.Settling.{settles, stops_more}
use Rattle.rapid_node.proofs.node.Node.member_receive.Goals as goal

-- the work that was done is that of the definitions
same : (c : goal.After-settle) →
    receive_as_member c.decisions.result.now c.deref_mut.result.now c.args.message.now.sender c.args.message.now.body
    ≡ receive_as_member c.args.self.now.decisions c.args.member.value c.args.message.now.sender c.args.message.now.body
same c =
    ap (λ (s : MemberState). receive_as_member c.decisions.result.now s c.args.message.now.sender c.args.message.now.body) c.deref_mut.ensures.value
    ∙ ap (λ (ds : Decisions). receive_as_member ds c.args.member.value c.args.message.now.sender c.args.message.now.body) c.decisions.ensures

pub returns-clause-ok : goal.returns-clause-ok
returns-clause-ok c =
    let work = receive_as_member c.args.self.now.decisions c.args.member.value c.args.message.now.sender c.args.message.now.body in
    on_ok_weaker c.settle.result
    (settles _ _ work _ _ _ _ _ _
    (c.in_ok-decided.ensures.state ∙ ap (λ (w : Work). w.state) (same c))
    (c.in_ok-decided.ensures.decided ∙ ap (λ (w : Work). w.decided) (same c))
    (c.in_ok-decided.ensures.out ∙ ap (λ (w : Work). c.args.out.now.items ++ outputs c.deref_mut.result.now.me w.effects) (same c)
    ∙ ap (λ (p : Process). c.args.out.now.items ++ outputs p work.effects) (ap (λ (s : MemberState). s.me) c.deref_mut.ensures.value ∙ c.requires.me)))
    c.settle.ensures.ok

pub returns-clause-stop : goal.returns-clause-stop
returns-clause-stop c =
    let work = receive_as_member c.args.self.now.decisions c.args.member.value c.args.message.now.sender c.args.message.now.body in
    IfErr-weaker c.settle.result _ _
    (stops_more _ _ work _ _ (c.in_ok-decided.ensures.state ∙ ap (λ (w : Work). w.state) (same c)) (c.in_ok-decided.ensures.decided ∙ ap (λ (w : Work). w.decided) (same c)))
    c.settle.ensures.stop
