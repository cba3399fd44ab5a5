-- Where lines end, and what is kept of a line.
use Rattle.std.proofs.Common.{◌≡◌, ◌≢◌, ℕ, ◌+◌, ◌-◌, ◌<◌, ◌≤◌, zero, suc, Bool, true, false, cond, not, ◌&&◌, ◌==◌, List, [], ◌∷◌, ◌++◌, length, take, drop, get_or, refl, ap, sym, ◌∙◌, arith, eq-eqb, ne_eqb, add-one}
use Rattle.std.proofs.Math.Seq.{drop-cons}
use Rattle.std.proofs.lemmas.List.{take_more, take-append-drop}
use Rattle.std.specs.Io.BufRead.{drop_through}
use Rattle.rapid_model.specs.EndpointText.{in_front}
use Rattle.rapid_model.specs.Lines.{line_feed, carriage_return, ends_here, lines}
use Rattle.rapid_text.specs.Endings.{has_no_end, without_return}
use Rattle.std.proofs.lemmas.Bool.{and_parts}

-- ---- bytes in which no line ends

pub no_end_tail : (x : ℕ) (xs : List ℕ) → has_no_end (x ∷ xs) ≡ true → has_no_end xs ≡ true
no_end_tail x xs h = (and_parts _ _ h).1

pub no_end_head : (x : ℕ) (xs : List ℕ) → has_no_end (x ∷ xs) ≡ true → (x == line_feed) ≡ false
no_end_head x xs h = at (x == line_feed) (and_parts _ _ h).0
  where
    at : (b : Bool) → not b ≡ true → b ≡ false
    at true e = absurd cc
    at false e = refl

pub no_end_append : (xs ys : List ℕ) → has_no_end xs ≡ true → has_no_end ys ≡ true → has_no_end (xs ++ ys) ≡ true
no_end_append [] ys h k = k
no_end_append (x ∷ xs) ys h k = let t = no_end_append xs ys (no_end_tail x xs h) k in rw (no_end_head x xs h) t

pub no_end_take : (n : ℕ) (xs : List ℕ) → has_no_end xs ≡ true → has_no_end (take n xs) ≡ true
no_end_take zero xs h = refl
no_end_take (suc n) [] h = refl
no_end_take (suc n) (x ∷ xs) h = let t = no_end_take n xs (no_end_tail x xs h) in rw (no_end_head x xs h) t

-- ---- one carriage return at the end

return_dropped_at : (xs : List ℕ) (n : ℕ) → length xs ≡ suc n → get_or xs n 0 ≡ carriage_return → take n xs ≡ without_return xs
return_dropped_at [] n e h = absurd (omega arith)
return_dropped_at (x ∷ []) zero e h = rw (eq-eqb x carriage_return h) refl
return_dropped_at (x ∷ []) (suc n) e h = absurd (omega arith)
return_dropped_at (x ∷ y ∷ ys) zero e h = absurd (omega arith)
return_dropped_at (x ∷ y ∷ ys) (suc n) e h = ap (λ zs. x ∷ zs) (return_dropped_at (y ∷ ys) n (omega arith) h)

return_kept_at : (xs : List ℕ) (n : ℕ) → length xs ≡ suc n → get_or xs n 0 ≢ carriage_return → xs ≡ without_return xs
return_kept_at [] n e h = absurd (omega arith)
return_kept_at (x ∷ []) zero e h = rw (ne_eqb x carriage_return h) refl
return_kept_at (x ∷ []) (suc n) e h = absurd (omega arith)
return_kept_at (x ∷ y ∷ ys) zero e h = absurd (omega arith)
return_kept_at (x ∷ y ∷ ys) (suc n) e h = ap (λ zs. x ∷ zs) (return_kept_at (y ∷ ys) n (omega arith) h)

pub return_dropped : (xs : List ℕ) → length xs ≢ 0 → get_or xs (length xs - 1) 0 ≡ carriage_return → take (length xs - 1) xs ≡ without_return xs
return_dropped xs e h = return_dropped_at xs (length xs - 1) (omega arith) h

pub return_kept : (xs : List ℕ) → get_or xs (length xs - 1) 0 ≢ carriage_return → xs ≡ without_return xs
return_kept [] h = refl
return_kept (x ∷ xs) h = return_kept_at (x ∷ xs) (length (x ∷ xs) - 1) (omega arith) h

pub return_none : (xs : List ℕ) → length xs ≡ 0 → xs ≡ without_return xs
return_none [] h = refl
return_none (x ∷ xs) h = absurd (omega arith)

-- No more than one byte goes.
pub without_return_long : (xs : List ℕ) → length xs ≤ length (without_return xs) + 1
without_return_long [] = omega arith
without_return_long (x ∷ []) = at (x == carriage_return)
  where
    at : (b : Bool) → 1 ≤ length (cond b [] (x ∷ [])) + 1
    at true = omega arith
    at false = omega arith
without_return_long (x ∷ y ∷ ys) = let h = without_return_long (y ∷ ys) in omega arith

-- ---- lines

-- A line ends: it stands in front of the lines of the rest.
pub line_ends : (xs rest : List ℕ) → has_no_end xs ≡ true → lines (xs ++ line_feed ∷ rest) ≡ without_return xs ∷ lines rest
line_ends [] rest h = refl
line_ends (x ∷ []) rest h = rw (no_end_head x [] h) (at (x == carriage_return))
  where
    at : (b : Bool) → cond (b && true) (lines (line_feed ∷ rest)) (in_front x (lines (line_feed ∷ rest))) ≡ cond b [] (x ∷ []) ∷ lines rest
    at true = refl
    at false = refl
line_ends (x ∷ y ∷ ys) rest h =
    let f = no_end_head y ys (no_end_tail x (y ∷ ys) h) in
    let t = line_ends (y ∷ ys) rest (no_end_tail x (y ∷ ys) h) in
    let t' = rw f at t in
    rw (no_end_head x (y ∷ ys) h, f) (at (x == carriage_return) _ t')
  where
    at : (b : Bool) (ls : List (List ℕ)) → ls ≡ without_return (y ∷ ys) ∷ lines rest → cond (b && false) ls (in_front x ls) ≡ (x ∷ without_return (y ∷ ys)) ∷ lines rest
    at true ls e = ap (in_front x) e
    at false ls e = ap (in_front x) e

-- What is kept of a line has no end if the line has none.
pub no_end_kept : (xs ys zs : List ℕ) (n : ℕ) → zs ≡ xs ++ take n ys → has_no_end xs ≡ true → has_no_end ys ≡ true → has_no_end zs ≡ true
no_end_kept xs ys zs n e h k = rw e (no_end_append xs (take n ys) h (no_end_take n ys k))

-- The last line may lack its end.
pub line_last : (x : ℕ) (xs : List ℕ) → has_no_end (x ∷ xs) ≡ true → lines (x ∷ xs) ≡ (x ∷ xs) ∷ []
line_last x [] h = rw (no_end_head x [] h) (at (x == carriage_return))
  where
    at : (b : Bool) → cond (b && false) [] ((x ∷ []) ∷ []) ≡ (x ∷ []) ∷ []
    at true = refl
    at false = refl
line_last x (y ∷ ys) h =
    let f = no_end_head y ys (no_end_tail x (y ∷ ys) h) in
    let t = line_last y ys (no_end_tail x (y ∷ ys) h) in
    let t' = rw f at t in
    rw (no_end_head x (y ∷ ys) h, f) (at (x == carriage_return) _ t')
  where
    at : (b : Bool) (ls : List (List ℕ)) → ls ≡ (y ∷ ys) ∷ [] → cond (b && false) ls (in_front x ls) ≡ (x ∷ y ∷ ys) ∷ []
    at true ls e = ap (in_front x) e
    at false ls e = ap (in_front x) e

-- The first line of an input, and those after it.
abbrev pub HasFirst : List (List ℕ) → List ℕ → Type 0
HasFirst ls later = (l : List ℕ) × (ls ≡ l ∷ lines later)

first_step : (x : ℕ) (b : Bool) (ls : List (List ℕ)) (later : List ℕ) → HasFirst ls later → HasFirst (cond b ls (in_front x ls)) later
first_step x true ls later h = h
first_step x false ls later h = (x ∷ h.0, ap (in_front x) h.1)

first_alone : (x : ℕ) (b : Bool) → HasFirst (cond (b && false) [] ((x ∷ []) ∷ [])) []
first_alone x true = (x ∷ [], refl)
first_alone x false = (x ∷ [], refl)

first_by_end : (x : ℕ) (xs : List ℕ) (b : Bool) → HasFirst (cond ((x == carriage_return) && ends_here xs) (lines xs) (in_front x (lines xs))) (drop_through line_feed xs)
    → HasFirst (cond b ([] ∷ lines xs) (cond ((x == carriage_return) && ends_here xs) (lines xs) (in_front x (lines xs)))) (cond b xs (drop_through line_feed xs))
first_by_end x xs true h = ([], refl)
first_by_end x xs false h = h

pub first_line : (x : ℕ) (xs : List ℕ) → HasFirst (lines (x ∷ xs)) (drop_through line_feed (x ∷ xs))
first_line x [] = first_by_end x [] (x == line_feed) (first_alone x (x == carriage_return))
first_line x (y ∷ ys) = first_by_end x (y ∷ ys) (x == line_feed) (first_step x ((x == carriage_return) && ends_here (y ∷ ys)) (lines (y ∷ ys)) (drop_through line_feed (y ∷ ys)) (first_line y ys))

-- The same with bytes in front in which no line ends.
abbrev pub HasLongFirst : ℕ → List (List ℕ) → List ℕ → Type 0
HasLongFirst n ls later = (l : List ℕ) × (ls ≡ l ∷ lines later) × (n ≤ length l + 1)

long_step : (x : ℕ) (b : Bool) (ls : List (List ℕ)) (later : List ℕ) → HasFirst ls later → HasLongFirst 1 (cond b ls (in_front x ls)) later
long_step x true ls later h = (h.0, h.1, omega arith)
long_step x false ls later h = (x ∷ h.0, ap (in_front x) h.1, omega arith)

long_alone : (x : ℕ) (b : Bool) → HasLongFirst 1 (cond (b && false) [] ((x ∷ []) ∷ [])) []
long_alone x true = (x ∷ [], refl, omega arith)
long_alone x false = (x ∷ [], refl, omega arith)

long_more : (x n : ℕ) (b : Bool) (ls : List (List ℕ)) (later : List ℕ) → HasLongFirst n ls later → HasLongFirst (suc n) (cond (b && false) ls (in_front x ls)) later
long_more x n true ls later h = (x ∷ h.0, ap (in_front x) h.1, omega (arith, h.2))
long_more x n false ls later h = (x ∷ h.0, ap (in_front x) h.1, omega (arith, h.2))

pub long_first : (x : ℕ) (xs rest : List ℕ) → has_no_end (x ∷ xs) ≡ true → HasLongFirst (length (x ∷ xs)) (lines (x ∷ xs ++ rest)) (drop_through line_feed rest)
long_first x [] [] h = rw (no_end_head x [] h) (long_alone x (x == carriage_return))
long_first x [] (r ∷ rs) h = rw (no_end_head x [] h) (long_step x ((x == carriage_return) && ends_here (r ∷ rs)) (lines (r ∷ rs)) (drop_through line_feed (r ∷ rs)) (first_line r rs))
long_first x (y ∷ ys) rest h =
    let f = no_end_head y ys (no_end_tail x (y ∷ ys) h) in
    let t = long_first y ys rest (no_end_tail x (y ∷ ys) h) in
    let m = long_more x (length (y ∷ ys)) (x == carriage_return) (lines (y ∷ ys ++ rest)) (drop_through line_feed rest) t in
    rw (no_end_head x (y ∷ ys) h, f) (rw f at m)

-- One more byte that ends no line.
pub no_end_more : (xs : List ℕ) (i : ℕ) → i < length xs → get_or xs i 0 ≢ line_feed → has_no_end (take i xs) ≡ true → has_no_end (take (i + 1) xs) ≡ true
no_end_more xs i h k e = rw (take_more xs i 0 h) (no_end_append (take i xs) (get_or xs i 0 ∷ []) e (rw (ne_eqb (get_or xs i 0) line_feed k) refl))

-- A byte that ends a line, with what stands before and after it.
pub end_at : (xs : List ℕ) (i : ℕ) → i < length xs → get_or xs i 0 ≡ line_feed → xs ≡ take i xs ++ line_feed ∷ drop (i + 1) xs
end_at xs i h e = sym (take-append-drop i xs) ∙ ap (λ ys. take i xs ++ ys) (rw (add-one, drop-cons xs i 0 h, e) refl)
