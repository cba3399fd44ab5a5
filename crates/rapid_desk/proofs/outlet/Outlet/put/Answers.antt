use Rattle.rapid_desk.proofs.Following.{lost_here}
use Rattle.rapid_desk.proofs.outlet.Outlet.put.Goals as goal

pub returns-in_default-put-clause-lost : goal.returns-in_default-put-clause-lost
returns-in_default-put-clause-lost g c =
    let e = c.in_default-put.ensures in
    lost_here c.self.inside.sink c.len.new.self c.put.new.self c.self.inside.since c.self.inside.capacity c.args.self.now c.self.view_is c.len.ensures.same e.queue e.put.1 e.full c.self.invariant.1
