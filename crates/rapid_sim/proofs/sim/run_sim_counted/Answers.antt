use Rattle.std.proofs.Common.{◌∙◌, sym}
use Rattle.std.proofs.lemmas.Result.{on_ok_weaker, IfErr-weaker}
use Rattle.rapid_sim.proofs.Lines.{all_exact, all_prints, front_exact, front_prints}
use Rattle.rapid_sim.proofs.sim.run_sim_counted.Goals as goal

pub returns-clause-written : goal.returns-clause-written
returns-clause-written g c = on_ok_weaker c.run-ended.result (all_prints c.new-run.result _ _ _ _ _ c.new-run.ensures.state c.new-run.ensures.met c.met.ensures) c.run-ended.ensures.ok

pub returns-clause-exact : goal.returns-clause-exact
returns-clause-exact g c = on_ok_weaker c.run-ended.result (λ w zero. all_exact c.new-run.result _ _ _ _ c.new-run.ensures.state w (sym c.met.ensures ∙ zero)) c.run-ended.ensures.ok

pub returns-clause-begun : goal.returns-clause-begun
returns-clause-begun g c =
    IfErr-weaker c.run-ended.result _ _ (λ fault w. front_prints c.new-run.result _ _ _ fault _ _ c.new-run.ensures.state c.new-run.ensures.met c.met.ensures w) c.run-ended.ensures.begun

pub returns-clause-exactly_begun : goal.returns-clause-exactly_begun
returns-clause-exactly_begun g c =
    IfErr-weaker c.run-ended.result _ _ (λ fault w not zero. front_exact c.new-run.result _ _ _ fault _ c.new-run.ensures.state c.new-run.ensures.met w not (sym c.met.ensures ∙ zero)) c.run-ended.ensures.begun
