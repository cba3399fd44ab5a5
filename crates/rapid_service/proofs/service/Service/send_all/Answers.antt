use Rattle.std.proofs.Common.{◌+◌, [], ◌∷◌, take, drop, Option, ap, subst, arith}
use Rattle.rapid_model.specs.Configuration.{Configuration}
use Rattle.rapid_model.specs.Process.{Process}
use Rattle.rapid_service.specs.Entering.{view_in}
use Rattle.rapid_service.specs.Posting.{postings, PostsSome}
use Rattle.rapid_service.proofs.Posting.{postings_first, some_more, on_err}
use Rattle.rapid_service.proofs.service.Service.send_all.Goals as goal

-- The messages before the one that failed went out, and the first frames of that one.
pub returns-in_err-send-clause-some : goal.returns-in_err-send-clause-some
returns-in_err-send-clause-some g c =
    let has = g.P.Post.has_posted in
    let view = view_in c.args.self.now.present in
    let me = c.args.self.now.me in
    let all = c.args.sent.now in
    let i = c.loop-output.output-index in
    let o = c.output-item.result in
    let between = c.loop-output.self.post in
    let end = c.send.new.self.post in
    let here =
    subst (λ (x : Option Configuration). PostsSome has between (postings x me (o ∷ [])) end) (ap view_in c.loop-output.invariant.present)
    (subst (λ (x : Process). PostsSome has between (postings (view_in c.loop-output.self.present) x (o ∷ [])) end) c.loop-output.invariant.me c.in_err-send.ensures.some) in
    on_err c.from_residual.result
    (some_more has g.met.P.Post.later c.args.self.now.post between end (postings view me (take i all)) (postings view me (o ∷ [])) (postings view me (drop (i + 1) all)) (postings view me all)
    (postings_first view me all i o (omega arith) c.output-item.is) c.loop-output.invariant.posted here)
