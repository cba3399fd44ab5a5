use Rattle.std.proofs.Common.{ap, ◌∙◌}
use Rattle.std.specs.Prelude.{is_ok}
use Rattle.rapid_desk.specs.Notices.{Served}
use Rattle.rapid_desk.proofs.Following.{follow_pushed}
use Rattle.rapid_desk.proofs.desk.Desk.subscribe.Goals as goal

pub invariant_of-self : goal.invariant_of-self
invariant_of-self g c =
    let made = c.in_ok-outlet.ensures.0 in
    (c.self.invariant.0, follow_pushed (is_ok c.push.result) _ c.self.inside.outlets.items c.push.new.self.items c.in_ok-outlet.outlet c.push.ensures.items (ap (λ (s : Served). s.since) made ∙ c.height-since.ensures) (ap (λ (s : Served). s.put) made) c.self.invariant.1)
