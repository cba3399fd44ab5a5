use Rattle.rapid_desk.specs.Notices.{Offered}
use Rattle.rapid_desk.proofs.Each.{Partly}
use Rattle.rapid_desk.proofs.desk.offer_all.Given as goal

abbrev pub invariant-loop-outlet : goal.invariant-loop-outlet
invariant-loop-outlet g l = Partly (Offered l.configuration) l.outlet-index l.fn.outlets.items l.outlet-items
