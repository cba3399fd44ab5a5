-- The probes of an observer that loses a member.
use Rattle.std.specs.Prelude.{ℕ, Bool, List, [], filter, flat_map, if◌then◌else◌}
use Rattle.std.specs.List.{range_with_len}
use Rattle.rapid_model.specs.World.{World, WorldEvent, running_under, peer_at}
use Rattle.rapid_model.specs.SimText.{observes_on, failing}

-- Four failed probes, if the test holds.
abbrev pub failing_where : Bool → List ℕ → ℕ → List WorldEvent
failing_where b observer k = if b then failing observer k else []

-- The failed probes of an observer on each of these rings on which it observes the member of the first identifier; the
-- number says how many rings there are.
unfoldable pub losing_by : World → List ℕ → ℕ → List ℕ → List WorldEvent
losing_by w id rings observer = flat_map (failing observer) (filter (observes_on id (peer_at w (running_under w observer))) (range_with_len 0 rings))
