use Rattle.std.proofs.Common.{◌≡◌, Some}
use Rattle.std.specs.Prelude.{filter_map}
use Rattle.std.specs.Option.{option_map}
use Rattle.std.specs.List.{range_with_len}
use Rattle.rapid_model.specs.Process.{Process}
use Rattle.rapid_model.specs.Configuration.{position_of}
use Rattle.rapid_model.specs.Ring.{subject_on}
use Rattle.rapid_rings.proofs.rings.Rings.subjects_at.Given as goal

abbrev pub invariant-loop-ring : goal.invariant-loop-ring
invariant-loop-ring l = (o : Process) → position_of l.self o ≡ Some l.place → l.subjects.items ≡ filter_map (λ k. option_map (λ s. (k, s)) (subject_on l.self o k)) (range_with_len 0 l.ring)
