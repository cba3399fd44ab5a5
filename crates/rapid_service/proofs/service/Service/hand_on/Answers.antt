use Rattle.std.proofs.Common.{[], inr, refl, ap, subst, ◌∙◌}
use Rattle.rapid_model.specs.Frame.{frame}
use Rattle.rapid_model.specs.Message.{Message, Probe}
use Rattle.rapid_model.specs.Process.{Process}
use Rattle.rapid_service.specs.Posting.{to_each, present_in, PostsSome}
use Rattle.rapid_service.proofs.Posting.{on_err}
use Rattle.rapid_service.proofs.service.Service.hand_on.Goals as goal

-- All edges were given to the node, and the first of the probes went out.
pub returns-in_err-probe_all-clause-unsaid : goal.returns-in_err-probe_all-clause-unsaid
returns-in_err-probe_all-clause-unsaid g c =
    let id = c.args.round.now.id in
    let probe = λ (me : Process). let m : Message = record { sender = me; body = Probe id } in m in
    let bytes = c.in_ok-frame.ensures.1 ∙ ap frame (c.probe_of-probe.ensures ∙ ap probe (c.in_ok-share.ensures ∙ c.hand_down.ensures.rest.1)) in
    on_err c.from_residual-in_err-probe_all.result
    (inr (
      c.hand_down.new.self.post,
      c.in_ok-hand_down.ensures.says,
      subst (λ b. PostsSome g.P.Post.has_posted c.hand_down.new.self.post (to_each b (present_in c.args.round.now.probes)) c.probe_all.new.post) bytes c.in_err-probe_all.ensures.some,
    ))

-- All edges were given to the node, and no probe went out.
pub returns-in_err-frame-clause-unsaid : goal.returns-in_err-frame-clause-unsaid
returns-in_err-frame-clause-unsaid g c =
    let m : Message = record { sender = c.args.self.now.me; body = Probe c.args.round.now.id } in
    let probes = to_each (frame m) (present_in c.args.round.now.probes) in
    on_err c.from_residual-in_err-frame.result
    (inr (
      c.hand_down.new.self.post,
      c.in_ok-hand_down.ensures.says,
      ([], probes, refl, g.met.P.Post.idle c.hand_down.new.self.post),
    ))

pub returns-clause-filter : goal.returns-clause-filter
returns-clause-filter g c = c.in_ok-hand_down.ensures.filter

pub returns-clause-seats : goal.returns-clause-seats
returns-clause-seats g c = c.in_ok-hand_down.ensures.seats

pub returns-clause-asked : goal.returns-clause-asked
returns-clause-asked g c = c.in_ok-hand_down.ensures.asked
