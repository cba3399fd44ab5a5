use Rattle.std.proofs.Common.{◌∙◌, ap, subst}
use Rattle.std.proofs.lemmas.List.{take_all}
use Rattle.rapid_model.specs.Process.{is_in}
use Rattle.rapid_rings.specs.Observing.{ObservesNobody}
use Rattle.rapid_cut.proofs.Passing.{nobody_more}
use Rattle.rapid_cut.proofs.closure.may_any_observe.Goals as goal

pub loop-process-init : goal.loop-process-init
loop-process-init g c o h = cc

pub loop-process-preserved : goal.loop-process-preserved
loop-process-preserved g c =
    nobody_more (g.T.ObserverTable.observers c.args.table.now) c.args.processes.now c.loop-process.process-index c.process-item.result c.loop-process-test.true c.process-item.is
    (subst (ObservesNobody (g.T.ObserverTable.observers c.args.table.now)) c.to_process.ensures (c.may_observe.ensures c.if-may_observe.false)) c.loop-process.invariant

pub returns : goal.returns
returns g c _ o h = c.loop-process.invariant o (ap (λ ps. is_in ps o) (take_all c.loop-process.process-index c.args.processes.now c.loop-process-test.false) ∙ h)
