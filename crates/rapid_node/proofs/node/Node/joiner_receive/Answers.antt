use Rattle.std.proofs.Common.{sym, ap, subst, ◌∙◌, OnOk, Some}
use Rattle.rapid_model.specs.Process.{Process}
use Rattle.rapid_model.specs.Message.{Body, Reply}
use Rattle.rapid_model.specs.Node.{Joining}
use Rattle.rapid_model.specs.Receive.{receive_as_joiner}
use Rattle.rapid_join.specs.Answers.{answer_of}
use Rattle.rapid_message.specs.Bodies.{body_of}
use Rattle.rapid_node.specs.Steps.{in_phase, Continues}
use Rattle.rapid_node.proofs.node.Node.joiner_receive.Goals as goal

pub returns-in-Reply-clause-ok : goal.returns-in-Reply-clause-ok
unfolding receive_as_joiner
returns-in-Reply-clause-ok c =
    subst
    (λ (b : Body). OnOk c.joiner_reply.result (Continues c.args.self.now.me (Some (receive_as_joiner (in_phase c.args.self.now (Joining c.args.joiner.value.joiner)) c.args.joiner.value.joiner b)) c.joiner_reply.new.self c.args.out.now.items c.joiner_reply.new.out.items))
    (ap (λ (p : Process). Reply p (answer_of c.in-Reply.reply)) c.get.ensures ∙ ap body_of (sym c.in-Reply.is) ∙ c.body.ensures.value)
    c.joiner_reply.ensures.ok
