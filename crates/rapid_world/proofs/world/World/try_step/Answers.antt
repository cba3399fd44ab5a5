use Rattle.std.proofs.Common.{sym, subst}
use Rattle.rapid_model.specs.StoredWorld.{RunsTo}
use Rattle.rapid_world.proofs.Running.{one_taken, one_passed}
use Rattle.rapid_world.proofs.world.World.try_step.Goals as goal

pub returns-in-Ok-clause-run : goal.returns-in-Ok-clause-run
returns-in-Ok-clause-run c = λ s es n w run. one_taken s c.args.self.now c.step.new.self es n w _ _ _ run c.in-Ok.ensures.stored c.last_wants.ensures

pub returns-in-Err-clause-run : goal.returns-in-Err-clause-run
returns-in-Err-clause-run c = λ s es n w run. rw c.error_wants.ensures (subst (RunsTo s _ _ _) (sym c.in-Err.ensures.unchanged) (one_passed s c.args.self.now es n w _ _ run c.in-Err.ensures.refused))
