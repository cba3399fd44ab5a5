use Rattle.std.proofs.Common.{List, ◌++◌, map, filter, [], ◌∷◌, ap, ◌∙◌}
use Rattle.rapid_model.specs.Alert.{Alert}
use Rattle.rapid_model.specs.Ring.{observers_of, observes}
use Rattle.rapid_model.specs.Member.{alert_on}
use Rattle.rapid_member.proofs.Echoing.{more_ring}
use Rattle.rapid_member.proofs.member.MemberState.push_echoes.Goals as goal

pub loop-ring-preserved : goal.loop-ring-preserved
loop-ring-preserved c =
    c.in_ok-push_echo.ensures
    ∙ ap (λ (l : List Alert). l ++ map (alert_on c.args.self.now c.args.process.now) (filter (λ k. observes (observers_of c.args.self.now.config) c.args.self.now.me k c.args.process.now) (c.loop-ring.ring ∷ []))) c.loop-ring.invariant
    ∙ more_ring (alert_on c.args.self.now c.args.process.now) (λ k. observes (observers_of c.args.self.now.config) c.args.self.now.me k c.args.process.now) _ c.loop-ring.ring
