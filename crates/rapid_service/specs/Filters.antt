-- Clauses of public calls cite this file.
-- The filter of repeats of the view in which a service is.
use Rattle.std.specs.Prelude.{◌≡◌, ◌⊎◌, ℕ, ◌+◌, ◌-◌, ◌^◌, ◌<◌, Bool, true, List, [], length, min, Option, Some, None, IsSomeAnd}
use Rattle.std.specs.Option.{option_map}
use Rattle.rapid_model.specs.Bytes.{Text}
use Rattle.rapid_model.specs.Configuration.{Configuration}
use Rattle.rapid_model.specs.Message.{Message}
use Rattle.rapid_repeats.specs.Repeating.{Passed, passed_after}
use Rattle.rapid_repeats.specs.Remembering.{Filter, Remembers}
use Rattle.rapid_service.specs.declared.present.Present.{Present}

-- What the filter of the present view keeps, if there is one.
abbrev pub filter_of : Option Present → Option Filter
filter_of present = option_map (λ (p : Present). p.repeats) present

-- In the view nothing was let through yet, and this many ticks were counted.
abbrev pub HasTicked : ℕ → Present → Type 0
HasTicked ticks p = Remembers p.repeats p.view ticks []

-- The view was entered just now: its filter has let nothing through, and no tick was counted.
abbrev pub IsFresh : Present → Type 0
IsFresh = HasTicked 0

-- What the old filter remembers the new one does too, after a tick more.
abbrev pub Ticked : Filter → Filter → Type 0
Ticked old new = (c : Configuration) (now : ℕ) (passed : List Passed) → Remembers old c now passed → Remembers new c (min (now + 1) (2 ^ 64 - 1)) passed

-- What the old filter remembers the new one does too, and that this message was let through, if it was.
abbrev pub Heard : Bool → Message → Filter → Filter → Type 0
Heard admitted m old new = (c : Configuration) (now : ℕ) (passed : List Passed) → Remembers old c now passed → Remembers new c now (passed_after admitted m now passed)

-- The present view stays, and a tick more was counted in it.
abbrev pub TickedIn : Option Present → Option Present → Type 0
TickedIn None new = new ≡ None
TickedIn (Some p) new = IsSomeAnd new (λ q. (q.view ≡ p.view) × Ticked p.repeats q.repeats)

-- The present view stays, and its filter has let the message through or dropped it.
abbrev pub HeardIn : Bool → Message → Option Present → Option Present → Type 0
HeardIn admitted m None new = new ≡ None
HeardIn admitted m (Some p) new = IsSomeAnd new (λ q. (q.view ≡ p.view) × Heard admitted m p.repeats q.repeats)

-- No line was added, and the present view stays with its filter. Or a view was entered, whose line was added, with a
-- new filter.
abbrev pub StaysOrFresh : Text → Option Present → Text → Option Present → Type 0
StaysOrFresh lines old more new = ((more ≡ lines) × (new ≡ old)) ⊎ ((length lines < length more) × IsSomeAnd new IsFresh)

-- The same after a tick, which counts in the view that is present afterwards.
abbrev pub TickedOrFresh : Text → Option Present → Text → Option Present → Type 0
TickedOrFresh lines old more new = ((more ≡ lines) × TickedIn old new) ⊎ ((length lines < length more) × IsSomeAnd new (HasTicked 1))

-- The same after a message that the filter let through.
abbrev pub HeardOrFresh : Message → Text → Option Present → Text → Option Present → Type 0
HeardOrFresh m lines old more new = ((more ≡ lines) × HeardIn true m old new) ⊎ ((length lines < length more) × IsSomeAnd new IsFresh)
