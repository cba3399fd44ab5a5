use Rattle.std.proofs.Common.{ap, sym, subst, ◌<◌, ℕ}
use Rattle.rapid_monitor.proofs.Moves.{finds}
use Rattle.rapid_monitor.proofs.edge_seat.find.Goals as goal

pub load-requires : goal.load-requires
load-requires c =
    (c.requires.own, subst (λ (n : ℕ). c.args.edge < n) (sym c.requires.within.0) c.requires.within.1, finds _ _ _ _ _ (ap (λ m. m.0.owns) c.requires.owner) (ap (λ m. m.0.edge) c.requires.owner))
