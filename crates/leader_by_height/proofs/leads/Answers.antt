use Rattle.std.proofs.Common.{sym}
use Rattle.leader_by_height.proofs.Leading.{leads_is}
use Rattle.leader_by_height.proofs.leads.Goals as goal

pub returns-in-Some : goal.returns-in-Some
returns-in-Some c = leads_is _ c.in-Some.first c.args.process.now c.eq.result (sym c.in-Some.ensures) c.eq.ensures
