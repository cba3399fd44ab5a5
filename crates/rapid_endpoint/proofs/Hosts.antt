-- The parts of a host between dots, and the address that they spell.
use Rattle.std.proofs.Common.{◌≡◌, ℕ, ◌<◌, Bool, true, false, ◌&&◌, ◌==◌, not, List, [], ◌∷◌, length, refl, ap, sym, ◌∙◌, arith, Ok, Err, Option, Some, None, if◌then◌else◌, MatchOption, Bor}
use Rattle.std.specs.List.{list_any, before_first, after_first, position_or_len}
use Rattle.std.specs.Option.{ok_or}
use Rattle.rapid_model.specs.EndpointText.{value_of, parts}
use Rattle.rapid_endpoint.specs.declared.parse_error.ParseError.TheVariants.{PartRange}
use Rattle.rapid_endpoint.specs.Texts.{is_byte, address_from, address_from_parts}

-- If the first place is past the end, no element passes.
pub none_passes : {X : Type 0} (p : X → Bool) (xs : List X) → position_or_len p xs ≡ length xs → list_any p xs ≡ false
none_passes p [] h = refl
none_passes p (x ∷ xs) h = grind (arith, none_passes p xs)

-- If it is before the end, one does.
pub one_passes : {X : Type 0} (p : X → Bool) (xs : List X) → position_or_len p xs < length xs → list_any p xs ≡ true
one_passes p [] h = absurd (omega arith)
one_passes p (x ∷ xs) h = grind (arith, one_passes p xs)

-- A text without a dot is its one part.
pub one_part : (xs : List ℕ) → list_any (λ b. b == 46) xs ≡ false → parts xs ≡ xs ∷ []
one_part [] h = refl
one_part (x ∷ xs) h = grind (arith, one_part xs)

-- The first part ends at the first dot.
pub first_of_parts : (xs : List ℕ) → list_any (λ b. b == 46) xs ≡ true
    → parts xs ≡ before_first (λ b. b == 46) xs ∷ parts (after_first (λ b. b == 46) xs)
first_of_parts [] h = absurd (cc)
first_of_parts (x ∷ xs) h = grind (arith, first_of_parts xs)

-- There is a part.
pub some_part : (xs : List ℕ) → 0 < length (parts xs)
some_part [] = omega arith
some_part (x ∷ xs) = grind (arith, some_part xs)

-- What `split_once` gives, told by whether the byte is there.
pub cut_gives : (p : ℕ → Bool) (bs : List ℕ) (r : Option (Bor (List ℕ) × Bor (List ℕ)))
    → MatchOption r (position_or_len p bs ≡ length bs)
    (λ x. (position_or_len p bs < length bs) × (x.0.now ≡ before_first p bs) × (x.1.now ≡ after_first p bs))
    → MatchOption r (list_any p bs ≡ false)
    (λ x. (list_any p bs ≡ true) × (x.0.now ≡ before_first p bs) × (x.1.now ≡ after_first p bs))
cut_gives p bs None h = none_passes p bs h
cut_gives p bs (Some x) h = (one_passes p bs h.0, h.1, h.2)

-- What is cut off a host at its first dot.
pub first_part_gives : (host : List ℕ) (r : Option (Bor (List ℕ) × Bor (List ℕ)))
    → MatchOption r (list_any (λ b. b == 46) host ≡ false)
    (λ x. (list_any (λ b. b == 46) host ≡ true) × (x.0.now ≡ before_first (λ b. b == 46) host)
    × (x.1.now ≡ after_first (λ b. b == 46) host))
    → MatchOption r (parts host ≡ host ∷ []) (λ x. (parts host ≡ x.0.now ∷ parts x.1.now) × (0 < length (parts x.1.now)))
first_part_gives host None h = one_part host h
first_part_gives host (Some x) h =
    (first_of_parts host h.0 ∙ sym (λ i. h.1 i ∷ parts (h.2 i)), some_part x.1.now)

-- One value if all four tests hold, and else another.
all_four : {X : Type 0} (a b c d : Bool) (x y : X) → (if a && b && c && d then x else y) ≡ (if not (a && (b && (c && (d && true)))) then y else x)
all_four true true true true x y = refl
all_four true true true false x y = refl
all_four true true false d x y = refl
all_four true false c d x y = refl
all_four false b c d x y = refl

ok_or_either : {X E : Type 0} (a : Bool) (x : X) (e : E) → ok_or (if a then Some x else None) e ≡ (if a then Ok x else Err e)
ok_or_either true x e = refl
ok_or_either false x e = refl

-- Four parts that are bytes are an address.
pub address_of_parts : (host a b c d : List ℕ) → parts host ≡ a ∷ b ∷ c ∷ d ∷ []
    → ok_or
    (if is_byte a && is_byte b && is_byte c && is_byte d
    then Some (value_of a ∷ value_of b ∷ value_of c ∷ value_of d ∷ []) else None) PartRange
    ≡ address_from host
address_of_parts host a b c d h =
    ok_or_either (is_byte a && is_byte b && is_byte c && is_byte d) (value_of a ∷ value_of b ∷ value_of c ∷ value_of d ∷ []) PartRange
    ∙ all_four (is_byte a) (is_byte b) (is_byte c) (is_byte d) _ _
    ∙ sym (ap address_from_parts h)
