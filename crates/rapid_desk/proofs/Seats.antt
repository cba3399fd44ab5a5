-- Seats of one cell.
use Rattle.std.proofs.Common.{◌≡◌, ◌<◌, ℕ, true, false, not, List, [], ◌∷◌, ◌++◌, length, refl, sym, ap, ◌∙◌, arith, length-append}
use Rattle.std.specs.Prelude.{Option, Some, None, Result, Ok, Err, IfSome, IsSome, is_some, IfOk, IfErr, All}
use Rattle.atomic_table.specs.Seated.{TableId}
use Rattle.rapid_model.specs.Configuration.{Stamp}
use Rattle.rapid_view.specs.Seen.{Watched, Publishing}
use Rattle.rapid_desk.specs.Desks.{cell_of, is_blank, seen_by}

-- the seats are of the writer's cell
abbrev pub AreOf : {V : Type 0} → (V → List Watched) → (V → Type 0) → Option Publishing → Option V → Type 0
AreOf items P w all = IfSome all (λ a. P a × IsSome w × All (λ (s : Watched). IfSome w (λ (x : Publishing). s.cell ≡ x.cell)) (items a))

pub one_cell : {V : Type 0} (items : V → List Watched) (P : V → Type 0) (w : Option Publishing) (all : Option V) (of : Option TableId) → cell_of w ≡ of → AreOf items P w all → IfSome all (λ a. (cell : TableId) × (of ≡ Some cell) × All (λ (s : Watched). s.cell ≡ cell) (items a))
one_cell items P w None of is h = tt
one_cell items P None (Some a) of is h = let wrong : false ≡ true = h.1 in cc
one_cell items P (Some x) (Some a) of is h = (x.cell, sym is, h.2)

-- a writer has published something
abbrev pub HasBegun : ℕ → Option Publishing → Type 0
HasBegun room w = IfSome w (λ (x : Publishing). (0 < length x.seen) × (x.room ≡ room))

some_is_shown : (seen : List Stamp) → 0 < length seen → true ≡ not (is_blank seen)
some_is_shown [] h = absurd (omega (arith, h))
some_is_shown (s ∷ seen) h = refl

pub shown_by_cell : (room : ℕ) (w : Option Publishing) → HasBegun room w → is_some (cell_of w) ≡ not (is_blank (seen_by w))
shown_by_cell room None h = refl
shown_by_cell room (Some x) h = some_is_shown x.seen h.0

pub no_cell : (room : ℕ) (w : Option Publishing) → HasBegun room w → seen_by w ≡ [] → cell_of w ≡ None
no_cell room None h none = refl
no_cell room (Some x) h none = let l = ap length none in absurd (omega (arith, h.0, l))

pub seats_stay : {V : Type 0} (items : V → List Watched) (P : V → Type 0) (w v : Publishing) (all : Option V) → v.cell ≡ w.cell → AreOf items P (Some w) all → AreOf items P (Some v) all
seats_stay items P w v None same h = tt
seats_stay items P w v (Some a) same h = (h.0, refl, λ k d i. h.2 k d i ∙ sym same)

pub some_seen : {A B : Type 0} (r : Result A B) (w v : Publishing) (s : Stamp) → IfOk r (λ _. v.seen ≡ w.seen ++ s ∷ []) → IfErr r (λ _. v ≡ w) → 0 < length w.seen → 0 < length v.seen
some_seen (Ok a) w v s ok err some = let l = ap length ok in let a = length-append w.seen (s ∷ []) in omega (arith, l, a)
some_seen (Err e) w v s ok err some = let l = ap (λ (x : Publishing). length x.seen) err in omega (arith, l, some)
