use Rattle.std.proofs.Common.{◌≡◌, ℕ, false, not, List, sym, ap, subst, ◌∙◌}
use Rattle.std.specs.List.{list_any}
use Rattle.rapid_model.specs.Process.{same_bytes}
use Rattle.rapid_config.proofs.Slots.{free_is_new, read_free, found, slots_more}
use Rattle.rapid_config.proofs.seen.Seen.insert.Goals as goal
use Rattle.rapid_config.proofs.seen.Seen.insert.Goals.{else-index-via-then-index+else-contains, else-index-via-else-index}

pub returns-then-contains-clause-added : goal.returns-then-contains-clause-added
returns-then-contains-clause-added c =
    sym (ap not (found c.args.endpoint c.deref.result.now c.args.self.now c.contains.result c.contains.ensures.value (c.deref.ensures.value ∙ c.self.view_is) ∙ c.if-contains.true))

pub invariant_of-self-2 : goal.invariant_of-self-2
invariant_of-self-2 c =
    slots_more c.self.inside.taken.items c.self.inside.endpoints.items c.push.new.self.items c.args.endpoint c.slot_of-slot.result
    c.slot_of-slot.ensures.value c.slot_of-slot.ensures.within c.self.invariant.0 c.self.invariant.1 c.in_ok-push.ensures.items

pub returns-clause-added : goal.returns-clause-added
returns-clause-added c =
    let e = c.args.endpoint in
    let ts = c.self.inside.taken.items in
    let new : list_any (same_bytes e) c.args.self.now ≡ false =
    elim c.else-index.branch [
      | else-index-via-then-index+else-contains w ↦
          found e w.deref.result.now c.args.self.now w.contains.result w.contains.ensures.value (w.deref.ensures.value ∙ c.self.view_is) ∙ w.if-contains.false
      | else-index-via-else-index w ↦
          subst (λ (es : List (List ℕ)). list_any (same_bytes e) es ≡ false) c.self.view_is
          (free_is_new ts c.self.inside.endpoints.items e c.self.invariant.1
          (read_free ts c.slot_of-slot.result e c.index.result.now c.index.ensures w.if-index.false c.slot_of-slot.ensures.value))
    ] in
    sym (ap not new)
