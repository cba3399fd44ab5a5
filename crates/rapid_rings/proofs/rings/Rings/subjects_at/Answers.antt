use Rattle.std.proofs.Common.{ℕ, List, ◌++◌, Option, ap, sym, ◌∙◌}
use Rattle.std.specs.Option.{option_map, option_to_list}
use Rattle.rapid_model.specs.Process.{Process}
use Rattle.rapid_model.specs.Ring.{subject_on}
use Rattle.rapid_rings.proofs.Numbers.{filter_map_more}
use Rattle.rapid_rings.proofs.rings.Rings.subjects_at.Goals as goal

pub loop-ring-preserved : goal.loop-ring-preserved
loop-ring-preserved c o at =
    let pairs : ℕ → Option (ℕ × Process) = λ k. option_map (λ s. (k, s)) (subject_on c.args.self.now o k) in
    c.in_ok-push_any.ensures
    ∙ ap (λ (p : Option Process). c.loop-ring.subjects.items ++ option_to_list (option_map (λ s. (c.loop-ring.ring, s)) p)) (c.subject.ensures o at)
    ∙ ap (λ (xs : List (ℕ × Process)). xs ++ option_to_list (pairs c.loop-ring.ring)) (c.loop-ring.invariant o at)
    ∙ sym (filter_map_more pairs c.loop-ring.ring)
