use Rattle.rapid_commands.proofs.Fronts.{detect_front, cluster_wrote, cluster_front}
use Rattle.rapid_commands.proofs.run.run_invocation.Goals as goal

pub returns-in-Detect-clause-begun : goal.returns-in-Detect-clause-begun
returns-in-Detect-clause-begun g c = detect_front c.run_detect.result c.args.invocation _ _ _ c.in-Detect.is c.run_detect.ensures.begun

pub returns-in-Cluster-clause-written : goal.returns-in-Cluster-clause-written
returns-in-Cluster-clause-written g c = cluster_wrote c.run_cluster.result c.args.invocation _ _ _ _ _ _ c.in-Cluster.is c.from.ensures c.from-in-Cluster.ensures c.run_cluster.ensures.written

pub returns-in-Cluster-clause-begun : goal.returns-in-Cluster-clause-begun
returns-in-Cluster-clause-begun g c = cluster_front c.run_cluster.result c.args.invocation _ _ _ _ _ _ c.in-Cluster.is c.from.ensures c.from-in-Cluster.ensures c.run_cluster.ensures.ended
