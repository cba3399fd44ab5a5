use Rattle.std.proofs.Common.{ℕ, ◌∙◌, ap, map, List}
use Rattle.std.specs.List.{range_with_len}
use Rattle.rapid_model.specs.Process.{Process}
use Rattle.rapid_model.specs.Configuration.{Params}
use Rattle.rapid_monitor.specs.Slots.{slot_for}
use Rattle.rapid_monitor.proofs.Named.{slots_are}
use Rattle.rapid_monitor.proofs.monitors.Monitors.new.Goals as goal

pub returns : goal.returns
returns c =
    c.in_ok-edges.ensures
    ∙ ap (λ (subjects : List (ℕ × Process)). map (slot_for subjects) (range_with_len 0 c.k-count.result)) (c.as_slice.ensures.value ∙ c.in_ok-subjects.ensures)
    ∙ slots_are c.args.rings.now c.args.process.now c.k-count.result (c.k-count.ensures.value ∙ ap (λ (p : Params). p.k) c.params.ensures.value)
