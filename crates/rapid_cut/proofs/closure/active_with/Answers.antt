use Rattle.std.proofs.Common.{◌≡◌, refl, subst, ◌++◌, IfOk}
use Rattle.rapid_cut.proofs.Active.{active_among}
use Rattle.rapid_cut.proofs.closure.active_with.Goals as goal

pub returns : goal.returns
returns g c =
    subst (λ l. IfOk c.merged.result (λ found. found.items ≡ l))
    (active_among (g.T.ObserverTable.observers c.args.table.now) c.args.reports.now.direct c.args.before.now c.args.grown.now (c.args.before.now ++ c.args.grown.now) c.requires.rules c.requires.low refl)
    c.merged.ensures
