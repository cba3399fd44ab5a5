-- What is new from a configuration to the next.
use Rattle.std.specs.Prelude.{ℕ, not, List, [], length, filter, get_or}
use Rattle.std.specs.List.{range_with_len}
use Rattle.rapid_model.specs.Process.{Process, is_in}

-- The places of those of the processes that were none before.
abbrev pub places_of_new : List Process → List Process → List ℕ
places_of_new before ps = filter (λ i. not (is_in before (get_or ps i []))) (range_with_len 0 (length ps))
