use Rattle.std.proofs.Common.{sym, ◌∙◌, arith, true, false}
use Rattle.rapid_alerts.proofs.Batches.{fault_is}
use Rattle.rapid_alerts.proofs.batch.fault.Goals as goal

pub returns-then-all_alike : goal.returns-then-all_alike
returns-then-all_alike c =
    fault_is c.args.alerts.now c.in-Some.first.now c.in-Some.others.now true c.in-Some.ensures.cases.0 (omega (arith, c.if-alerts-gt-MOST.false)) (sym c.all_alike.ensures ∙ c.if-all_alike.true)

pub returns-else-all_alike : goal.returns-else-all_alike
returns-else-all_alike c =
    fault_is c.args.alerts.now c.in-Some.first.now c.in-Some.others.now false c.in-Some.ensures.cases.0 (omega (arith, c.if-alerts-gt-MOST.false)) (sym c.all_alike.ensures ∙ c.if-all_alike.false)
