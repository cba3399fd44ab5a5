use Rattle.rapid_cut.proofs.Passing.{passing_none, passing_grown, passing_alone}
use Rattle.rapid_cut.proofs.closure.close_grown.Goals as goal

pub close-requires-clause-passing : goal.close-requires-clause-passing
close-requires-clause-passing g c =
    passing_alone (g.T.ObserverTable.observers c.args.table.now) c.args.known.now.reports.direct c.args.known.now.reports.all c.args.active.now c.requires.rules c.requires.active
    (c.is_alone.ensures.one c.if-is_alone.true) (c.is_alone.ensures.none c.if-is_alone.true) c.requires.known

pub close-requires-then-may_any_observe-clause-passing : goal.close-requires-then-may_any_observe-clause-passing
close-requires-then-may_any_observe-clause-passing g c =
    passing_none (g.T.ObserverTable.observers c.args.table.now) c.args.known.now.reports.direct c.args.known.now.reports.all c.args.active.now c.requires.rules c.requires.active c.requires.known

pub close-requires-else-may_any_observe-clause-passing : goal.close-requires-else-may_any_observe-clause-passing
close-requires-else-may_any_observe-clause-passing g c =
    passing_grown (g.T.ObserverTable.observers c.args.table.now) c.args.known.now.reports.direct c.args.known.now.reports.all c.args.grown.now c.requires.known c.requires.grown
    (c.may_any_observe.ensures c.if-may_any_observe.false)
