use Rattle.std.proofs.Common.{◌≡◌, [], not, filter, get_or}
use Rattle.std.specs.List.{range_with_len}
use Rattle.rapid_model.specs.Process.{is_in}
use Rattle.rapid_rings.proofs.places.places_of_strangers.Given as goal

abbrev pub invariant-loop-place : goal.invariant-loop-place
invariant-loop-place l = l.strangers.items ≡ filter (λ i. not (is_in l.configuration.members (get_or l.processes i []))) (range_with_len 0 l.place)
