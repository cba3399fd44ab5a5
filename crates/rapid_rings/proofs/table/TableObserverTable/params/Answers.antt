use Rattle.rapid_rings.proofs.Tables.{table-AreObservers}
use Rattle.rapid_rings.proofs.table.TableObserverTable.params.Goals as goal

pub returns-clause-rules : goal.returns-clause-rules
returns-clause-rules c = rw (← c.self.view_is) (table-AreObservers _ c.self.invariant.rules)
