use Rattle.rapid_monitor.specs.Probes.{heard}
use Rattle.rapid_monitor.proofs.Books.{changed_next}
use Rattle.rapid_monitor.proofs.probe_book.hear.Goals as goal

pub loop-i-preserved : goal.loop-i-preserved
loop-i-preserved c =
    changed_next (heard c.args.process.now) c.loop-i.i c.args.edges.now c.loop-i.edges c.index-edges-i.result c.heard.result c.loop-i-test.true c.loop-i.invariant c.index-edges-i.is c.heard.ensures
