use Rattle.rapid_monitor.specs.Probes.{unheard}
use Rattle.rapid_monitor.proofs.Books.{changed_next}
use Rattle.rapid_monitor.proofs.probe_book.forget.Goals as goal

pub loop-i-preserved : goal.loop-i-preserved
loop-i-preserved c =
    changed_next unheard c.loop-i.i c.args.edges.now c.loop-i.edges c.index-edges-i.result c.unheard.result c.loop-i-test.true c.loop-i.invariant c.index-edges-i.is c.unheard.ensures
