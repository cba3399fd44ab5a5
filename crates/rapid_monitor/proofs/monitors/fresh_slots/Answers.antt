use Rattle.std.proofs.Common.{arith, sym, ap, ◌∙◌, List, [], ◌∷◌, ◌++◌, Option}
use Rattle.std.proofs.lemmas.List.FromFn.{map-range_with_len_more}
use Rattle.rapid_model.specs.Edge.{Edge}
use Rattle.rapid_monitor.specs.Slots.{slot_for}
use Rattle.rapid_monitor.proofs.monitors.fresh_slots.Goals as goal

pub loop-ring-preserved : goal.loop-ring-preserved
loop-ring-preserved c =
    record {
      within = omega arith;
      made =
          c.in_ok-push.ensures.items
          ∙ ap (λ (slot : Option Edge). c.loop-ring.slots.items ++ slot ∷ []) c.in_ok-fresh_slot.ensures
          ∙ ap (λ (slots : List (Option Edge)). slots ++ slot_for c.args.subjects.now c.loop-ring.ring ∷ []) c.loop-ring.invariant.made
          ∙ sym (map-range_with_len_more (slot_for c.args.subjects.now) 0 c.loop-ring.ring c.loop-ring.ring (omega arith));
    }
