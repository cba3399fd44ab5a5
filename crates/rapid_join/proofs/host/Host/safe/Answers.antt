use Rattle.std.proofs.Common.{◌≡◌, ◌≤◌, List, length, ap, subst, sym, ◌∙◌}
use Rattle.rapid_model.specs.Process.{Process}
use Rattle.rapid_model.specs.Configuration.{Configuration, IsConfiguration}
use Rattle.rapid_model.specs.Host.{observers_for}
use Rattle.rapid_model.specs.JoinSides.{HostSide}
use Rattle.rapid_model.proofs.Outside.{observers_outside}
use Rattle.rapid_join.proofs.host.Host.safe.Goals as goal

pub returns-clause-observers : goal.returns-clause-observers
returns-clause-observers c member =
    let config = c.args.self.now.config in
    let joiner = c.args.joiner.now in
    let same : c.self.inside.configuration ≡ config = ap (λ (h : HostSide). h.config) c.self.view_is in
    let found = c.in_ok-observers.ensures ∙ ap (λ (d : Configuration). observers_for d joiner) (c.deref.ensures ∙ c.rings.ensures ∙ c.self.invariant.0 ∙ same) in
    subst (λ (os : List Process). 1 ≤ length os) (sym found) (observers_outside config (subst IsConfiguration same c.tell.ensures) c.args.self.now.me joiner member c.requires).0
