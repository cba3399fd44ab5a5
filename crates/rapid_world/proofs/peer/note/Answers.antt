use Rattle.std.proofs.Common.{◌≡◌, true, false, subst, ◌∙◌}
use Rattle.std.specs.Prelude.{IfSome, IfNone}
use Rattle.rapid_model.specs.Process.{Process}
use Rattle.rapid_world.proofs.Probing.{probed_here}
use Rattle.rapid_world.proofs.peer.note.Goals as goal

pub returns-clause-monitors : goal.returns-clause-monitors
returns-clause-monitors c = c.probe.ensures.after ∙ probed_here c.args.monitors.now c.args.ring c.args.ok c.requires.0 c.requires.1

pub returns-clause-down : goal.returns-clause-down
returns-clause-down c =
    subst (λ b. IfSome c.in_ok-lost.lost (λ (p : Process). (p ≡ c.args.subject.now) × (b ≡ true))) c.goes_down.ensures c.in_ok-lost.ensures.some

pub returns-clause-up : goal.returns-clause-up
returns-clause-up c = subst (λ b. IfNone c.in_ok-lost.lost (b ≡ false)) c.goes_down.ensures c.in_ok-lost.ensures.none
