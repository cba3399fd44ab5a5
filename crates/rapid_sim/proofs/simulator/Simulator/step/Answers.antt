use Rattle.std.proofs.Common.{◌+◌, ◌++◌, ◌⊎◌, ◌∙◌, ap, sym, refl, subst, map}
use Rattle.rapid_world.specs.Events.{event_of, report_of, error_wants}
use Rattle.rapid_world.proofs.Running.{mark_stored}
use Rattle.rapid_model.specs.StoredWorld.{wants_of}
use Rattle.rapid_model.specs.SimText.{reports_text}
use Rattle.rapid_sim.specs.Wants.{IsRefused, LacksMemory}
use Rattle.rapid_sim.specs.Progress.{error_text}
use Rattle.rapid_sim.specs.Simulators.{simulation_of}
use Rattle.rapid_sim.proofs.Progress.{stops}
use Rattle.rapid_sim.proofs.simulator.Simulator.step.Goals as goal

pub returns-in_ok-write_reports-in-Ok : goal.returns-in_ok-write_reports-in-Ok
returns-in_ok-write_reports-in-Ok c =
    let stores = c.in-Ok.ensures.stored in
    record {
      reports = map report_of c.in-Ok.reports.items;
      next = c.step.new.self;
      stores = stores;
      becomes = refl;
      appended = c.in_ok-write_reports-in-Ok.ensures ∙ ap (λ xs. c.args.output.now.items ++ reports_text (map report_of xs)) c.as_slice.ensures.value;
      counted = c.in_ok-self-in-Ok.ensures ∙ ap (λ n. c.args.self.now.met + n) (c.last_wants.ensures ∙ ap wants_of (mark_stored _ _ _ _ stores));
    }

pub returns-in_ok-extend_from_slice-in-Err : goal.returns-in_ok-extend_from_slice-in-Err
returns-in_ok-extend_from_slice-in-Err c =
    let old = simulation_of c.args.self.now in
    let e = event_of c.args.event.now in
    let error = c.in-Err.error in
    record {
      said = error_text error;
      wants = error_wants error;
      appended = c.in_ok-extend_from_slice-in-Err.ensures.items ∙ ap (λ xs. c.args.output.now.items ++ xs) c.error_line.ensures;
      counted = c.in_ok-self-in-Err.ensures ∙ ap (λ n. c.args.self.now.met + n) c.error_wants.ensures;
      prints =
          subst (λ w. IsRefused old e (error_text error) (record old { world = w }) (error_wants error) ⊎ LacksMemory old e (error_text error) (record old { world = w }) (error_wants error))
          (sym c.in-Err.ensures.unchanged) (stops old e error c.in-Err.ensures.refused);
    }
