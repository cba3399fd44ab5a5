use Rattle.std.proofs.Common.{ap, sym, subst, ◌<◌, ℕ}
use Rattle.rapid_monitor.proofs.Moves.{stores}
use Rattle.rapid_monitor.proofs.edge_seat.store.Goals as goal

pub store-requires : goal.store-requires
store-requires c =
    (c.requires.own, subst (λ (n : ℕ). c.args.edge < n) (sym c.requires.within.0) c.requires.within.1, stores _ _ _ _ _ _ (ap (λ m. m.0) c.requires.owner) c.requires.word)
