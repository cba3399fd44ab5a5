use Rattle.rapid_rings.proofs.Lookups.{none_observes_itself}
use Rattle.rapid_rings.proofs.rings.RingsObserverTable.may_any_observe_itself.Goals as goal

pub returns : goal.returns
returns c _ = none_observes_itself c.args.self.now
