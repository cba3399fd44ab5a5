-- The state after one notice more.
use Rattle.std.proofs.Common.{◌≡◌, ℕ, ◌+◌, Option, Some, None, List, [], ◌∷◌, ◌++◌, refl}
use Rattle.std.specs.Prelude.{MatchOption}
use Rattle.rapid_desk.specs.declared.notice.Notice.{Notice}
use Rattle.rapid_desk.specs.declared.notice.Notice.TheVariants.{Change, Lag, End}
use Rattle.rapid_desk.specs.declared.notice.State.TheVariants.{Open}
use Rattle.rapid_desk.specs.Notices.{state_of, height_from, IsNextFrom, IsNext}

pub state_of_more : (xs : List Notice) (x : Notice) → state_of xs ≡ Open → state_of (xs ++ x ∷ []) ≡ state_of (x ∷ [])
state_of_more [] x open_ = refl
state_of_more (Change v ∷ xs) x open_ = state_of_more xs x open_
state_of_more (Lag loss ∷ xs) x open_ = absurd (cc)
state_of_more (End ∷ xs) x open_ = absurd (cc)

-- the same, of a list that is known to be that
pub state_of_now : (xs ys : List Notice) (x : Notice) → state_of xs ≡ Open → ys ≡ xs ++ x ∷ [] → state_of ys ≡ state_of (x ∷ [])
state_of_now xs ys x open_ is = rw is (state_of_more xs x open_)

-- the height after one notice more
pub height_more : (h : Option ℕ) (xs : List Notice) (x : Notice) → height_from h (xs ++ x ∷ []) ≡ height_from (height_from h xs) (x ∷ [])
height_more h [] x = refl
height_more h (Change v ∷ xs) x = height_more (Some v.height) xs x
height_more h (Lag loss ∷ xs) x = height_more h xs x
height_more h (End ∷ xs) x = height_more h xs x

pub height_now : (h : Option ℕ) (xs ys : List Notice) (x : Notice) → ys ≡ xs ++ x ∷ [] → height_from h ys ≡ height_from (height_from h xs) (x ∷ [])
height_now h xs ys x is = rw is (height_more h xs x)

-- what may come next by the height before all may come next by the heights put
next_by : (h : Option ℕ) (xs : List Notice) (n : ℕ) → MatchOption (height_from h xs) (Unit {0}) (λ last. n ≡ last + 1) → MatchOption (height_from None xs) (Unit {0}) (λ last. n ≡ last + 1)
next_by h [] n is = tt
next_by h (Change v ∷ xs) n is = is
next_by h (Lag loss ∷ xs) n is = next_by h xs n is
next_by h (End ∷ xs) n is = next_by h xs n is

pub next_in_queue : (h : Option ℕ) (xs : List Notice) (n : ℕ) → IsNextFrom h xs n → IsNext xs n
next_in_queue h xs n is = next_by h xs n is
