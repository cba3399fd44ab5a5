use Rattle.rapid_fast.proofs.Counting.{count_at, count_none}
use Rattle.rapid_fast.proofs.counts.CutCounts.count.Goals as goal

pub returns-in-Ok : goal.returns-in-Ok
returns-in-Ok c =
    count_at c.args.self.now c.self.inside.counts.items c.deref.result.now c.args.cut.now c.self.invariant c.self.view_is c.deref.ensures.value
    c.in-Ok.i c.index.result.now c.in-Ok.ensures.bound c.in-Ok.ensures.position c.index.ensures

pub returns-in-Err : goal.returns-in-Err
returns-in-Err c =
    count_none c.args.self.now c.self.inside.counts.items c.deref.result.now c.args.cut.now c.self.invariant c.self.view_is c.deref.ensures.value
    c.in-Err.field-0 c.in-Err.ensures.bound c.in-Err.ensures.position
