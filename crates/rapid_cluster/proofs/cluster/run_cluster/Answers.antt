use Rattle.std.proofs.Common.{◌*◌, rules, subst, sym}
use Rattle.rapid_cluster.specs.ClusterText.{IsReport}
use Rattle.rapid_cluster.proofs.Reports.{has_ended}
use Rattle.rapid_cluster.proofs.cluster.run_cluster.Goals as goal

pub returns-in-Ok-clause-ended : goal.returns-in-Ok-clause-ended
returns-in-Ok-clause-ended g c =
    let most = c.args.crew.workers * c.args.crew.turns in
    has_ended c.args.params c.args.nodes most _ _ c.write_text.result c.as_slice.result.now
    (subst (IsReport c.args.params c.args.nodes most) (sym c.as_slice.ensures.value) c.in-Ok.ensures) c.write_text.ensures.fault c.write_text.ensures.begun

pub returns-in-Err-clause-written : goal.returns-in-Err-clause-written
returns-in-Err-clause-written g c = search rules
