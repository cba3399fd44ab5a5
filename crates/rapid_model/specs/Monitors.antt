-- The probe windows of all edges of a member.
use Rattle.std.specs.Prelude.{ℕ, Bool, List, map, Option, None, slice_get, slice_set}
use Rattle.std.specs.Option.{option_map, unwrap_or}
use Rattle.rapid_model.specs.Process.{Process}
use Rattle.rapid_model.specs.Configuration.{Configuration}
use Rattle.rapid_model.specs.Ring.{observers_of, rings, subject_on}
use Rattle.rapid_model.specs.Edge.{Edge, fresh_edge, probed}

-- The edges of a member, by ring; none on a ring where it observes no process.
abbrev pub Monitors : Type 0
Monitors = List (Option Edge)

-- An edge that was not probed for each ring on which the member observes another.
abbrev pub fresh_monitors : Configuration → Process → Monitors
fresh_monitors c me = map (λ k. option_map (λ s. fresh_edge) (subject_on c me k)) (rings (observers_of c))

-- The edge on a ring.
abbrev pub edge_at : Monitors → ℕ → Option Edge
edge_at m k = unwrap_or (slice_get m k) None

-- The monitors after one more result on a ring, if there is an edge on it.
abbrev pub probed_at : Monitors → ℕ → Bool → Monitors
probed_at m k ok = slice_set m k (option_map (λ e. probed e ok) (edge_at m k))

-- Whether the edge on a ring is down after one more result; none if no process is observed there.
abbrev pub is_down_after : Monitors → ℕ → Bool → Option Bool
is_down_after m k ok = option_map (λ e. (probed e ok).is_down) (edge_at m k)
