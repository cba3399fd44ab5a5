-- The edges of a member, by the pairs of a ring and the process that it observes there.
use Rattle.std.specs.Prelude.{ℕ, ◌==◌, List, Option, Some, None, if◌then◌else◌}
use Rattle.std.specs.List.{list_any}
use Rattle.rapid_model.specs.Process.{Process}
use Rattle.rapid_model.specs.Edge.{Edge, fresh_edge}

-- An edge on the ring, if a pair names it.
abbrev pub slot_for : List (ℕ × Process) → ℕ → Option Edge
slot_for subjects k = if list_any (λ x. x.0 == k) subjects then Some fresh_edge else None
