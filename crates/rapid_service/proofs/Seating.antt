-- The seats that a service has after steps.
use Rattle.std.proofs.Common.{◌≡◌, ◌⊎◌, ℕ, Bool, true, false, true≢false, ◌||◌, ◌&&◌, not, inl, inr, refl, sym, ap, ◌∙◌}
use Rattle.rapid_desk.specs.Desks.{DeskValue, is_blank}
use Rattle.rapid_service.specs.Seats.{had_seats}

-- They are the same, or as many as the desk counts, after more steps too.
pub seats_more : {V : Type 0} (size : V → ℕ) (count counted : ℕ) (old mid new : V) → counted ≡ count → (mid ≡ old) ⊎ (size mid ≡ count) → (new ≡ mid) ⊎ (size new ≡ counted) → (new ≡ old) ⊎ (size new ≡ count)
seats_more size count counted old mid new e (inl same) (inl next) = inl (next ∙ same)
seats_more size count counted old mid new e (inr all) (inl next) = inr (ap size next ∙ all)
seats_more size count counted old mid new e (inl same) (inr all) = inr (all ∙ e)
seats_more size count counted old mid new e (inr first) (inr all) = inr (all ∙ e)

-- Where seats were to give by the end of two steps, they were by the end of the first and left, or by that of the second.
had_between : (first left blank between last : Bool) → first || (blank && not last) ≡ true → ((first || (blank && not between) ≡ true) × (left ≡ false)) ⊎ (left || (between && not last) ≡ true)
had_between first true blank between last had = inr refl
had_between true false blank between last had = inl (refl, refl)
had_between false false false between last had = absurd (true≢false (sym had))
had_between false false true between true had = absurd (true≢false (sym had))
had_between false false true true false had = inr refl
had_between false false true false false had = inl (refl, refl)

-- Seats that were given are as many as the desk counts, after more steps too.
pub all_more : {V : Type 0} (size : V → ℕ) (count counted : ℕ) (old mid new : DeskValue) (kept next : V) → counted ≡ count → (had_seats old mid ≡ true → mid.seats ≡ false → size kept ≡ count) → (had_seats mid new ≡ true → new.seats ≡ false → size next ≡ counted)
    → (next ≡ kept) ⊎ (size next ≡ counted) → had_seats old new ≡ true → new.seats ≡ false → size next ≡ count
all_more size count counted old mid new kept next e first then given had none =
    by given (had_between old.seats mid.seats (is_blank old.state.published) (is_blank mid.state.published) (is_blank new.state.published) had)
  where
    by : (next ≡ kept) ⊎ (size next ≡ counted) → ((had_seats old mid ≡ true) × (mid.seats ≡ false)) ⊎ (had_seats mid new ≡ true) → size next ≡ count
    by (inr all) h = all ∙ e
    by (inl same) (inl h) = ap size same ∙ first h.0 h.1
    by (inl same) (inr h) = then h none ∙ e

-- A desk that has given its seats has none to give without a step.
pub none_at_first : (d : DeskValue) → had_seats d d ≡ true → d.seats ≡ false → ⊥
none_at_first d had none = by d.seats (is_blank d.state.published) had none
  where
    by : (seats blank : Bool) → seats || (blank && not blank) ≡ true → seats ≡ false → ⊥
    by true blank had none = true≢false none
    by false true had none = true≢false (sym had)
    by false false had none = true≢false (sym had)
