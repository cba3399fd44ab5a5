-- How the filter of repeats of a service goes on.
use Rattle.std.proofs.Common.{[], length, Option, None, Some, IsSomeAnd, inl, inr, ap, sym, subst, ◌∙◌, arith}
use Rattle.rapid_model.specs.Bytes.{Text}
use Rattle.rapid_repeats.specs.Remembering.{Remembers}
use Rattle.rapid_service.specs.Filters.{IsFresh, HasTicked, TickedIn, StaysOrFresh, TickedOrFresh}
use Rattle.rapid_service.specs.declared.present.Present.{Present}

-- One step after others.
pub stays_more : (lines mid more : Text) (old between new : Option Present) → StaysOrFresh lines old mid between → StaysOrFresh mid between more new → StaysOrFresh lines old more new
stays_more lines mid more old between new (inl same) (inl next) = inl (next.0 ∙ same.0, next.1 ∙ same.1)
stays_more lines mid more old between new (inl same) (inr fresh) = inr (omega (arith, ap length same.0, fresh.0), fresh.1)
stays_more lines mid more old between new (inr fresh) (inl next) = inr (omega (arith, ap length next.0, fresh.0), subst (λ o. IsSomeAnd o IsFresh) (sym next.1) fresh.1)
stays_more lines mid more old between new (inr fresh) (inr next) = inr (omega (arith, fresh.0, next.0), next.1)

-- The first tick in a view.
first_tick : (old new : Option Present) → IsSomeAnd old IsFresh → TickedIn old new → IsSomeAnd new (HasTicked 1)
first_tick None new fresh ticked = absurd fresh
first_tick (Some p) None fresh ticked = absurd ticked
first_tick (Some p) (Some q) fresh ticked = subst (λ view. Remembers q.repeats view 1 []) (sym ticked.0) (ticked.1 p.view 0 [] fresh)

-- A tick is counted after its step.
pub ticked_after : (lines more : Text) (old between new : Option Present) → StaysOrFresh lines old more between → TickedIn between new → TickedOrFresh lines old more new
ticked_after lines more old between new (inl same) ticked = inl (same.0, subst (λ o. TickedIn o new) same.1 ticked)
ticked_after lines more old between new (inr fresh) ticked = inr (fresh.0, first_tick between new fresh.1 ticked)
