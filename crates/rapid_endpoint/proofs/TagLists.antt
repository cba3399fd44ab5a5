-- Lists of tags, gone over from the left.
use Rattle.std.proofs.Common.{◌≡◌, ℕ, zero, suc, ◌+◌, ◌*◌, ◌≤◌, ◌<◌, Bool, true, ◌&&◌, List, [], ◌∷◌, ◌++◌, length, get_or, map, drop, sym, ap, subst, ◌∙◌, append_assoc, length-append, arith}
use Rattle.std.specs.Prelude.{flat_map, nat_le}
use Rattle.std.specs.List.{list_all}
use Rattle.std.proofs.lemmas.Bool.{leb-true}
use Rattle.std.proofs.lemmas.List.{drop-map, drop_more}
use Rattle.rapid_model.specs.Tags.{Tag, is_tag_byte, is_tag_length, is_tag, is_below, ascend_from, tags_ascend, tag_bytes, tags_bytes, AreTags, tags_in, tags_of, most_tags, most_tag_bytes}
use Rattle.rapid_model.proofs.Tags.{both_of, tags_in_bytes}

-- the next of what is left
pub next_left : {X : Type 0} (view : X → Tag) (xs : List X) (i : ℕ) (d : X) → i < length xs
    → drop i (map view xs) ≡ view (get_or xs i d) ∷ drop (i + 1) (map view xs)
next_left view xs i d h =
    drop-map view i xs ∙ ap (map view) (drop_more xs i d h)
    ∙ ap (λ ts. view (get_or xs i d) ∷ ts) (sym (drop-map view (i + 1) xs))

-- a test of all, one further
pub all_from : {X : Type 0} (view : X → Tag) (test : Tag → Bool) (xs : List X) (i : ℕ) (d : X) (b : Bool)
    → i < length xs → test (view (get_or xs i d)) ≡ b
    → list_all test (drop i (map view xs)) ≡ (b && list_all test (drop (i + 1) (map view xs)))
all_from view test xs i d b h e =
    ap (list_all test) (next_left view xs i d h) ∙ ap (λ c. c && list_all test (drop (i + 1) (map view xs))) e

-- the test of order, one further
pub ascend_on : {X : Type 0} (view : X → Tag) (xs : List X) (i : ℕ) (d : X) (before : Tag) (b : Bool) → i < length xs
    → is_below before (view (get_or xs i d)) ≡ b
    → ascend_from before (drop i (map view xs)) ≡ (b && ascend_from (view (get_or xs i d)) (drop (i + 1) (map view xs)))
ascend_on view xs i d before b h e =
    ap (ascend_from before) (next_left view xs i d h)
    ∙ ap (λ c. c && ascend_from (view (get_or xs i d)) (drop (i + 1) (map view xs))) e

-- the bytes, one further
pub spelt_on : {X : Type 0} (view : X → Tag) (xs : List X) (i : ℕ) (d : X) (spelt : List ℕ) → i < length xs
    → spelt ++ flat_map tag_bytes (drop i (map view xs)) ≡ (spelt ++ tag_bytes (view (get_or xs i d))) ++ flat_map tag_bytes (drop (i + 1) (map view xs))
spelt_on view xs i d spelt h =
    ap (λ ts. spelt ++ flat_map tag_bytes ts) (next_left view xs i d h)
    ∙ sym (append_assoc spelt (tag_bytes (view (get_or xs i d))) (flat_map tag_bytes (drop (i + 1) (map view xs))))

-- a tag has at most 64 bytes
pub tag_is_short : (t : Tag) → is_tag t ≡ true → length t ≤ 64
tag_is_short t h =
    let p = both_of (is_tag_length (length t)) (list_all is_tag_byte t) h in
    leb-true (length t) most_tag_bytes (both_of (nat_le 1 (length t)) (nat_le (length t) most_tag_bytes) p.0).1

-- a tag more has at most 65 bytes more
pub spelt_length : (old new : List ℕ) (t : Tag) (n : ℕ) → new ≡ old ++ tag_bytes t → is_tag t ≡ true → length old ≤ n
    → length new ≤ n + 65
spelt_length old new t n e h l = omega (arith, ap length e ∙ length-append old (tag_bytes t), tag_is_short t h, l)

-- tags have few bytes
pieces_are_few : (ts : List Tag) → list_all is_tag ts ≡ true → length (flat_map tag_bytes ts) ≤ 65 * length ts
pieces_are_few [] h = omega arith
pieces_are_few (t ∷ ts) h =
    let p = both_of (is_tag t) (list_all is_tag ts) h in
    let first = tag_is_short t p.0 in
    let more = pieces_are_few ts p.1 in
    omega (arith, length-append t (flat_map tag_bytes ts), first, more)

pub bytes_are_few : (ts : List Tag) (bytes : List ℕ) → AreTags ts bytes → length bytes ≤ 521
bytes_are_few ts bytes h = omega (arith, ap length h.spelt, pieces_are_few ts h.tags, h.few)

-- tags that pass all tests
pub are_tags : (ts : List Tag) (bytes : List ℕ) → length ts ≤ most_tags → list_all is_tag ts ≡ true
    → tags_ascend ts ≡ true → bytes ≡ tags_bytes ts → AreTags ts bytes
are_tags ts bytes few tags up e = record { few = few; tags = tags; ascending = up; spelt = e }

pub hold_tags : (ts : List Tag) (bytes : List ℕ) → AreTags ts bytes → AreTags (tags_of bytes) bytes
hold_tags ts bytes h = subst (λ us. AreTags us bytes) (sym (tags_in_bytes ts bytes h)) h

-- no more tags than this are read off bytes
pub no_more : (n : ℕ) (bytes : List ℕ) → length (tags_in n bytes) ≤ n
no_more zero bytes = omega arith
no_more (suc n) [] = omega arith
no_more (suc n) (l ∷ bytes) = let more = no_more n (drop l bytes) in omega (arith, more)
