-- Counters of which the first cut's stands apart.
use Rattle.std.specs.Prelude.{◌≡◌, ℕ, Option, Some, None}
use Rattle.std.specs.FinMap as map
use Rattle.rapid_model.specs.Cut.{Cut}
use Rattle.rapid_model.specs.FastRound.{Counts}

-- The other counters, and over them the one that stands apart.
abbrev pub with_first : Option (Cut × ℕ) → Counts → Counts
with_first None others = others
with_first (Some first) others = map.insert others first.0 first.1

-- If no cut was counted first, none was counted.
abbrev pub FirstStandsApart : Option (Cut × ℕ) → Counts → Type 0
FirstStandsApart None others = others ≡ map.empty
FirstStandsApart (Some first) others = Unit {0}
