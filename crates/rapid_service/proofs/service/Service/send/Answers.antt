use Rattle.std.proofs.Common.{OnOk, OnErr, ap, subst, ◌∙◌}
use Rattle.rapid_model.specs.Frame.{frame}
use Rattle.rapid_service.specs.Entering.{view_in}
use Rattle.rapid_service.specs.Posting.{PostsSome}
use Rattle.rapid_service.proofs.Posting.{for_others}
use Rattle.rapid_service.proofs.service.Service.send.Goals as goal

-- A frame to each of the others is what the message comes to.
pub returns-in-Others-clause-posts : goal.returns-in-Others-clause-posts
returns-in-Others-clause-posts g c =
    subst (λ posted. OnOk c.send_others.result (g.P.Post.has_posted c.args.self.now.post posted c.send_others.new.self.post))
    (for_others (view_in c.args.self.now.present) c.args.self.now.me c.args.output.now c.in_ok-frame.frame (c.in_ok-frame.ensures.1 ∙ ap frame c.message.ensures) c.in-Others.ensures)
    c.send_others.ensures.posts

pub returns-in-Others-clause-some : goal.returns-in-Others-clause-some
returns-in-Others-clause-some g c =
    subst (λ posted. OnErr c.send_others.result (PostsSome g.P.Post.has_posted c.args.self.now.post posted c.send_others.new.self.post))
    (for_others (view_in c.args.self.now.present) c.args.self.now.me c.args.output.now c.in_ok-frame.frame (c.in_ok-frame.ensures.1 ∙ ap frame c.message.ensures) c.in-Others.ensures)
    c.send_others.ensures.some
