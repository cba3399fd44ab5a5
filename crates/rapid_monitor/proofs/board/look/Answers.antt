use Rattle.std.proofs.Common.{sym, subst, ◌<◌, ℕ}
use Rattle.rapid_monitor.proofs.Moves.{looks}
use Rattle.rapid_monitor.proofs.board.look.Goals as goal

pub load-requires : goal.load-requires
load-requires c = (c.requires.own, subst (λ (n : ℕ). c.args.edge < n) (sym c.requires.within.0) c.requires.within.1, looks _ _ _ _ _ c.requires.within.1)
