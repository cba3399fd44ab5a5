use Rattle.rapid_model.proofs.Observed.{are_observers}
use Rattle.rapid_rings.proofs.rings.RingsObserverTable.params.Goals as goal

pub returns-clause-rules : goal.returns-clause-rules
returns-clause-rules c = rw (← c.self.view_is) (are_observers _ c.tell.ensures)
