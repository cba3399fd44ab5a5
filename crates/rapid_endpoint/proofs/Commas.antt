-- The words between commas, from the left.
use Rattle.std.proofs.Common.{◌≡◌, ℕ, zero, suc, ◌<◌, ◌≤◌, ◌+◌, false, List, [], ◌∷◌, ◌++◌, ◌==◌, length, map, take, drop, set, get_or, refl, sym, ap, ◌∙◌, append_assoc, length-append, arith}
use Rattle.std.specs.List.{list_any}
use Rattle.std.specs.Prelude.{Option, Some, None, Result, Ok, Err, IfOk, IfErr, option_map}
use Rattle.std.proofs.lemmas.Bool.{lt-ltb, le-ltb}
use Rattle.std.proofs.lemmas.List.{take_more_set, map-append, length-map, length-take-le}
use Rattle.rapid_model.specs.Tags.{Tag, TagsRefusal, most_tags, tags_bytes, AreTags, tags_refusal}
use Rattle.rapid_endpoint.specs.ParseErrors.{error_of_tags, Reports}
use Rattle.rapid_endpoint.specs.declared.parse_error.ParseError.{ParseError}
use Rattle.rapid_endpoint.specs.declared.parse_error.ParseError.TheVariants.{TooManyTags}
use Rattle.rapid_endpoint.specs.Texts.{between_commas, unless_refused}

-- A text without a comma is its one word.
pub one_word : (xs : List ℕ) (n : ℕ) → length xs ≤ n → list_any (λ b. b == 44) (take n xs) ≡ false → between_commas xs ≡ xs ∷ []
one_word [] n l h = refl
one_word (x ∷ xs) zero l h = absurd (omega (arith, l))
one_word (x ∷ xs) (suc n) l h = grind (arith, one_word xs n)

-- The first word ends at the first comma.
pub first_word : (xs : List ℕ) (i : ℕ) → i < length xs → list_any (λ b. b == 44) (take i xs) ≡ false → get_or xs i 0 ≡ 44
    → between_commas xs ≡ take i xs ∷ between_commas (drop (i + 1) xs)
first_word [] i l h e = absurd (omega (arith, l))
first_word (x ∷ xs) zero l h e = grind (arith)
first_word (x ∷ xs) (suc i) l h e = grind (arith, first_word xs i)

-- There is a word.
pub some_word : (xs : List ℕ) → 1 ≤ length (between_commas xs)
some_word [] = omega arith
some_word (x ∷ xs) = grind (arith, some_word xs)

-- One word more was found.
pub one_more : {W : Type 0} (view : W → List ℕ) (ws : List W) (i : ℕ) (w : W) (rest others all : List ℕ) → i < length ws
    → between_commas rest ≡ view w ∷ between_commas others → map view (take i ws) ++ between_commas rest ≡ between_commas all
    → map view (take (i + 1) (set ws i w)) ++ between_commas others ≡ between_commas all
one_more view ws i w rest others all l e h =
    ap (λ us. map view us ++ between_commas others) (take_more_set ws i w l)
    ∙ ap (λ us. us ++ between_commas others) (map-append view (take i ws) (w ∷ []))
    ∙ append_assoc (map view (take i ws)) (view w ∷ []) (between_commas others)
    ∙ ap (λ us. map view (take i ws) ++ us) (sym e) ∙ h

-- Behind eight words there is a ninth.
pub nine : {W : Type 0} (view : W → List ℕ) (ws : List W) (n : ℕ) (rest all : List ℕ) → length ws ≡ 8 → 8 ≤ n → n ≤ 8
    → map view (take n ws) ++ between_commas rest ≡ between_commas all → 8 < length (between_commas all)
nine view ws n rest all e l m h =
    let total = ap length h in
    let parts = length-append (map view (take n ws)) (between_commas rest) in
    let words = length-map (take n ws) view in
    let front = length-take-le n ws (omega (arith, e, m)) in
    let some = some_word rest in
    omega (arith, total, parts, words, front, some, l)

-- Tags are not refused.
not_refused : (ts : List Tag) (bytes : List ℕ) → AreTags ts bytes → tags_refusal ts ≡ None
not_refused ts bytes h = cc (le-ltb most_tags (length ts) h.few, h.tags, h.ascending)

by_refusal : (r : Option TagsRefusal) (e : ParseError) (bytes : List ℕ) → option_map error_of_tags r ≡ Some e → Err e ≡ unless_refused r bytes
by_refusal None e bytes h = absurd cc
by_refusal (Some x) e bytes h = cc

-- What tags of these words are made or refused as is what the text is read as.
pub judged : (ts : List Tag) (r : Result (List ℕ) ParseError) → IfOk r (AreTags ts) → IfErr r (Reports (tags_refusal ts))
    → r ≡ unless_refused (tags_refusal ts) (tags_bytes ts)
judged ts (Ok bytes) h k = cc (not_refused ts bytes h, h.spelt)
judged ts (Err e) h k = by_refusal (tags_refusal ts) e (tags_bytes ts) k

pub too_many : (ts : List Tag) → 8 < length ts → Err TooManyTags ≡ unless_refused (tags_refusal ts) (tags_bytes ts)
too_many ts l = cc (lt-ltb 8 (length ts) l)
