use Rattle.std.proofs.Common.{◌∙◌, arith}
use Rattle.std.proofs.lemmas.Grind.{common_steps}
use Rattle.rapid_desk.proofs.Marks.{state_of_now}
use Rattle.rapid_desk.proofs.outlet.Outlet.close.Goals as goal

pub invariant_of-self : goal.invariant_of-self
invariant_of-self g c = (grind (arith, common_steps, state_of_now), c.put_when_free.ensures.queue.2 ∙ c.self.invariant.1)
