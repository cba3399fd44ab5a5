use Rattle.std.proofs.Common.{List, ◌++◌, flat_map, [], ◌∷◌, ap, ◌∙◌}
use Rattle.rapid_model.specs.Ring.{observers_of}
use Rattle.rapid_model.specs.Member.{leave_to}
use Rattle.rapid_model.specs.Node.{Output, outputs}
use Rattle.rapid_member.proofs.Leaving.{more_ring}
use Rattle.rapid_member.proofs.member.MemberState.leave.Goals as goal

pub loop-ring-preserved : goal.loop-ring-preserved
loop-ring-preserved c =
    let s = c.args.self.now in
    c.in_ok-leave_on.ensures
    ∙ ap (λ (l : List Output). l ++ outputs s.me (flat_map (λ k. leave_to s k ((observers_of s.config).observer k s.me)) (c.loop-ring.ring ∷ []))) c.loop-ring.invariant
    ∙ more_ring s.me (λ k. leave_to s k ((observers_of s.config).observer k s.me)) c.args.out.now.items c.loop-ring.ring
