use Rattle.std.proofs.Common.{◌∙◌, ◌+◌, ap, sym, length}
use Rattle.rapid_cut.proofs.Joiners.{joiners_stay, joiners_grow}
use Rattle.rapid_cut.proofs.taken.joiners_with.Goals as goal

pub returns-then-counted : goal.returns-then-counted
returns-then-counted g c ring =
    c.requires.joiners
    ∙ ap length (sym (joiners_stay (g.T.ObserverTable.observers c.args.table.now) c.args.reports.now.direct c.args.subject.now ring (sym c.requires.counted ∙ c.if-counted.true)))

pub returns-else-counted : goal.returns-else-counted
returns-else-counted g c ring =
    ap (λ n. n + 1) c.requires.joiners
    ∙ sym (joiners_grow (g.T.ObserverTable.observers c.args.table.now) c.args.reports.now.direct c.args.subject.now ring (sym c.requires.counted ∙ c.if-counted.false))
