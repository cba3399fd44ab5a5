-- How the words of a line are found from its front.
use Rattle.std.proofs.Common.{◌≡◌, ◌≢◌, ℕ, ◌==◌, ◌<◌, ◌≤◌, zero, suc, Bool, true, false, cond, List, [], ◌∷◌, length, take, drop, get_or, filter, refl, ap, ◌∙◌, arith, eq-eqb, ne_eqb}
use Rattle.rapid_model.specs.EndpointText.{in_front}
use Rattle.rapid_model.specs.Lines.{space, pieces, is_word, words}
use Rattle.rapid_text.specs.Front.{without_spaces, before_space, from_space}

abbrev filled : List (List ℕ) → List (List ℕ)
filled ps = filter is_word ps

-- The pieces after the first one.
abbrev later_pieces : List ℕ → List (List ℕ)
later_pieces [] = []
later_pieces (x ∷ xs) = pieces xs

first_step : (x : ℕ) (xs : List ℕ) (b : Bool) → pieces xs ≡ before_space xs ∷ later_pieces (from_space xs)
    → cond b ([] ∷ pieces xs) (in_front x (pieces xs)) ≡ cond b [] (x ∷ before_space xs) ∷ later_pieces (cond b (x ∷ xs) (from_space xs))
first_step x xs true h = refl
first_step x xs false h = ap (in_front x) h

first_piece : (xs : List ℕ) → pieces xs ≡ before_space xs ∷ later_pieces (from_space xs)
first_piece [] = refl
first_piece (x ∷ xs) = first_step x xs (x == space) (first_piece xs)

later_step : (x : ℕ) (xs : List ℕ) (b : Bool) → (x == space) ≡ b → filled (later_pieces (from_space xs)) ≡ words (from_space xs)
    → filled (later_pieces (cond b (x ∷ xs) (from_space xs))) ≡ words (cond b (x ∷ xs) (from_space xs))
later_step x xs true e h = rw e refl
later_step x xs false e h = h

later_words : (xs : List ℕ) → filled (later_pieces (from_space xs)) ≡ words (from_space xs)
later_words [] = refl
later_words (x ∷ xs) = later_step x xs (x == space) refl (later_words xs)

none_step : (x : ℕ) (xs : List ℕ) (b : Bool) → (length (without_spaces xs) ≡ 0 → words xs ≡ []) → length (cond b (without_spaces xs) (x ∷ xs)) ≡ 0 → filled (cond b ([] ∷ pieces xs) (in_front x (pieces xs))) ≡ []
none_step x xs true h is = h is
none_step x xs false h is = absurd (omega arith)

-- A line of spaces has no words.
pub no_words : (xs : List ℕ) → length (without_spaces xs) ≡ 0 → words xs ≡ []
no_words [] is = refl
no_words (x ∷ xs) is = none_step x xs (x == space) (no_words xs) is

-- The first word and the others.
abbrev Splits : List ℕ → List ℕ → Type 0
Splits ws xs = filled (pieces ws) ≡ before_space xs ∷ words (from_space xs)

word_first : (x : ℕ) (xs : List ℕ) (b : Bool) → (x == space) ≡ b → b ≡ false → Splits (x ∷ xs) (x ∷ xs)
word_first x xs true e f = absurd cc
word_first x xs false e f = rw e (ap (λ ps. filled (in_front x ps)) (first_piece xs) ∙ ap (λ ws. (x ∷ before_space xs) ∷ ws) (later_words xs))

some_step : (x : ℕ) (xs : List ℕ) (b : Bool) → (x == space) ≡ b → (length (without_spaces xs) ≢ 0 → Splits xs (without_spaces xs)) → length (cond b (without_spaces xs) (x ∷ xs)) ≢ 0
    → filled (cond b ([] ∷ pieces xs) (in_front x (pieces xs))) ≡ before_space (cond b (without_spaces xs) (x ∷ xs)) ∷ words (from_space (cond b (without_spaces xs) (x ∷ xs)))
some_step x xs true e h is = h is
some_step x xs false e h is = let w = word_first x xs false e refl in rw e (rw e at w)

-- After the spaces in front stands the first word, and then the others.
pub first_word : (xs : List ℕ) → length (without_spaces xs) ≢ 0 → words xs ≡ before_space (without_spaces xs) ∷ words (from_space (without_spaces xs))
first_word [] is = absurd (is refl)
first_word (x ∷ xs) is = some_step x xs (x == space) refl (first_word xs) is

-- The first space stands at a place before which there is none.
pub record IsWordEnd (xs : List ℕ) (n : ℕ) : Type 0 where
  pub within : n ≤ length xs
  pub none : (k : ℕ) → k < n → get_or xs k 0 ≢ space
  pub some : n < length xs → get_or xs n 0 ≡ space

pub word_taken : (xs : List ℕ) (n : ℕ) → IsWordEnd xs n → take n xs ≡ before_space xs
word_taken [] n h = let z : n ≡ 0 = omega arith in rw z refl
word_taken (x ∷ xs) zero h = rw (eq-eqb x space (h.some (omega arith))) refl
word_taken (x ∷ xs) (suc n) h =
    rw (ne_eqb x space (h.none 0 (omega arith))) (ap (λ ys. x ∷ ys) (word_taken xs n (record { within = omega arith; none = λ k m. h.none (suc k) (omega arith); some = λ m. h.some (omega arith) })))

pub word_dropped : (xs : List ℕ) (n : ℕ) → IsWordEnd xs n → drop n xs ≡ from_space xs
word_dropped [] n h = let z : n ≡ 0 = omega arith in rw z refl
word_dropped (x ∷ xs) zero h = rw (eq-eqb x space (h.some (omega arith))) refl
word_dropped (x ∷ xs) (suc n) h =
    rw (ne_eqb x space (h.none 0 (omega arith))) (word_dropped xs n (record { within = omega arith; none = λ k m. h.none (suc k) (omega arith); some = λ m. h.some (omega arith) }))
