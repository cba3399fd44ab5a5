-- An endpoint has one spelling, the text that is printed of it.
use Rattle.std.proofs.Common.{◌≡◌, ℕ, zero, suc, ◌<◌, ◌≤◌, ◌+◌, ◌-◌, ◌*◌, ◌^◌, Bool, true, false, ◌&&◌, ◌||◌, ◌/◌, ◌%◌, ◌==◌, not, cond, nat_le, List, [], ◌∷◌, ◌++◌, map, fold, length, get_or, take, refl, ap, sym, ◌∙◌, arith, rules, Result, Ok, Some, None, if◌then◌else◌, append_assoc}
use Rattle.std.specs.Fmt.{decimal}
use Rattle.std.specs.Int.{w16, to_be_bytes, from_be_bytes}
use Rattle.std.specs.List.{list_any, list_all, before_first, after_first, position_or_len, slice_split, onto_first, join_with_byte}
use Rattle.std.proofs.lemmas.Bool.{and_parts, and_from, leb-true, le-leb}
use Rattle.std.proofs.lemmas.Bool.Decides.{nat_tests, Decides-eqb}
use Rattle.std.proofs.lemmas.Fmt.{decimal-digits_value, digits_decimal, digits_value-decimal, decimal_nonempty, length-decimal-le, first_decimal, decimal_digit}
use Rattle.std.proofs.lemmas.List.Splits.{join_with_byte-slice_split}
use Rattle.std.proofs.lemmas.List.Folds.{list_any-append}
use Rattle.std.proofs.Math.Seq.{take-append_seam}
use Rattle.std.proofs.lemmas.Nat.{from_be_bytes-to_be_bytes_2}
use Rattle.std.proofs.lemmas.Str.Parse.{IsNumeralModel, numerals_by_fold}
use Rattle.rapid_model.specs.EndpointText.{is_digit, value_of, has_no_needless_zero, is_number, in_front, parts, is_colon, host, has_port, port_in, endpoint_text, dot, colon}
use Rattle.rapid_model.specs.EndpointText.{NotFourParts, PartRange, BadPort}
use Rattle.rapid_endpoint.specs.declared.parse_error.ParseError.{ParseError}
use Rattle.rapid_endpoint.specs.Texts.{endpoint_from, unless_fault}
use Rattle.rapid_endpoint.proofs.Hosts.{one_part}
use Rattle.rapid_endpoint.specs.Spellings.{PrintedIsRead, ReadIsPrinted}

-- The digits and their value, as std's lemmas on numerals take them.
abbrev step : ℕ → ℕ → ℕ
step n d = n * 10 + (d - 48)

pub own : IsNumeralModel (λ ds. list_all is_digit ds ≡ true) value_of
own = numerals_by_fold (λ ds. list_all is_digit ds ≡ true) (search (rules, nat_tests)) (λ n ds. fold step n ds) (search rules)

-- What the test of a number says.
record IsNumberText (digits limit : ℕ) (ds : List ℕ) : Type 0 where
  some : 1 ≤ length ds
  short : length ds ≤ digits
  plain : list_all is_digit ds ≡ true
  front : has_no_needless_zero ds ≡ true
  within : value_of ds ≤ limit

number_text : (digits limit : ℕ) (ds : List ℕ) → is_number digits limit ds ≡ true → IsNumberText digits limit ds
number_text digits limit ds h =
    let last = and_parts (nat_le 1 (length ds) && nat_le (length ds) digits && list_all is_digit ds && has_no_needless_zero ds) (nat_le (value_of ds) limit) h in
    let front = and_parts (nat_le 1 (length ds) && nat_le (length ds) digits && list_all is_digit ds) (has_no_needless_zero ds) last.0 in
    let plain = and_parts (nat_le 1 (length ds) && nat_le (length ds) digits) (list_all is_digit ds) front.0 in
    let sizes = and_parts (nat_le 1 (length ds)) (nat_le (length ds) digits) plain.0 in
    record {
      some = leb-true 1 (length ds) sizes.0;
      short = leb-true (length ds) digits sizes.1;
      plain = plain.1;
      front = front.1;
      within = leb-true (value_of ds) limit last.1;
    }

text_number : (digits limit : ℕ) (ds : List ℕ) → IsNumberText digits limit ds → is_number digits limit ds ≡ true
text_number digits limit ds t =
    and_from _ _
    (and_from _ _
    (and_from _ _ (and_from _ _ (le-leb 1 (length ds) t.some) (le-leb (length ds) digits t.short)) t.plain)
    t.front)
    (le-leb (value_of ds) limit t.within)

lone_zero : (ds : List ℕ) → has_no_needless_zero ds ≡ true → 1 ≤ length ds → get_or ds 0 0 ≡ 48 → length ds ≡ 1
lone_zero [] h some z = absurd (omega arith)
lone_zero (d ∷ []) h some z = refl
lone_zero (d ∷ e ∷ ds) h some z = grind (arith, nat_tests)

-- A number is the decimal of its value.
number_is_decimal : (digits limit : ℕ) (ds : List ℕ) → limit < 2 ^ 64 → is_number digits limit ds ≡ true → decimal (value_of ds) ≡ ds
number_is_decimal digits limit ds small h =
    let t = number_text digits limit ds h in
    decimal-digits_value own ds t.plain t.some (lone_zero ds t.front t.some) (omega (arith, t.within))

front_of_decimal : (n : ℕ) (ds : List ℕ) → (0 < n → 48 < get_or ds 0 0) → (n ≡ 0 → length ds ≡ 1) → has_no_needless_zero ds ≡ true
front_of_decimal n [] h z = refl
front_of_decimal n (d ∷ []) h z = refl
front_of_decimal zero (d ∷ e ∷ ds) h z = absurd (omega (arith, z refl))
front_of_decimal (suc n) (d ∷ e ∷ ds) h z = let above : 48 < d = h (omega arith) in grind (arith, nat_tests)

-- The decimal of a number is a number.
decimal_is_number : (digits limit n : ℕ) → 0 < digits → n < 10 ^ digits → n ≤ limit → n < 2 ^ 64 → is_number digits limit (decimal n) ≡ true
decimal_is_number digits limit n some short h small =
    text_number digits limit (decimal n)
    (record {
      some = decimal_nonempty n small;
      short = length-decimal-le digits n some short small;
      plain = digits_decimal own n small;
      front =
          front_of_decimal n (decimal n) (λ p. first_decimal n p small)
          (λ z. ap (λ (m : ℕ). length (decimal m)) z ∙ ap (λ (l : List ℕ). length l) (decimal_digit 0 (omega arith)));
      within = rw (digits_value-decimal own n small) h;
    })

in_front_is : (x : ℕ) (texts : List (List ℕ)) → in_front x texts ≡ onto_first x texts
in_front_is x [] = refl
in_front_is x (text ∷ texts) = refl

-- The parts are those that std's word for splitting gives.
parts_are_split : (xs : List ℕ) → parts xs ≡ slice_split (λ b. b == dot) xs
parts_are_split [] = refl
parts_are_split (x ∷ xs) =
    λ i. cond (x == dot) ([] ∷ parts_are_split xs i) ((ap (in_front x) (parts_are_split xs) ∙ in_front_is x (slice_split (λ b. b == dot) xs)) i)

-- Four parts with dots between them are the host.
four_joined : (xs a b c d : List ℕ) → parts xs ≡ a ∷ b ∷ c ∷ d ∷ [] → xs ≡ a ++ (dot ∷ (b ++ (dot ∷ (c ++ (dot ∷ d)))))
four_joined xs a b c d h =
    sym (join_with_byte-slice_split dot xs) ∙ ap (join_with_byte dot) (sym (parts_are_split xs) ∙ h)

-- A text with a colon is what stands before it, the colon and what stands after it.
colon_joined : (text : List ℕ) → list_any is_colon text ≡ true → text ≡ before_first is_colon text ++ (colon ∷ after_first is_colon text)
colon_joined [] h = absurd (cc)
colon_joined (x ∷ xs) h = grind (arith, colon_joined xs)

-- What is read of a text, from its parts.
abbrev assembled : Bool → List (List ℕ) → List ℕ → Result (List ℕ) ParseError
assembled has_colon texts rest =
    unless_fault
    (if not (length texts == 4) then Some NotFourParts
    else if not (list_all (is_number 3 255) texts) then Some PartRange
    else if not (has_colon && is_number 5 65535 rest) then Some BadPort
    else None)
    (map value_of texts ++ to_be_bytes w16 (value_of rest))

no_fault : (a b c : Bool) (value place : List ℕ)
    → unless_fault (if not a then Some NotFourParts else if not b then Some PartRange else if not c then Some BadPort else None) value
    ≡ Ok place
    → (a ≡ true) × (b ≡ true) × (c ≡ true) × (value ≡ place)
no_fault true true true value place h = (refl, refl, refl, cc)
no_fault true true false value place h = absurd (cc)
no_fault true false c value place h = absurd (cc)
no_fault false b c value place h = absurd (cc)

-- A list of four.
four_of : (texts : List (List ℕ)) → length texts ≡ 4
    → (a : List ℕ) × (b : List ℕ) × (c : List ℕ) × (d : List ℕ) × (texts ≡ a ∷ b ∷ c ∷ d ∷ [])
four_of [] h = absurd (omega arith)
four_of (a ∷ []) h = absurd (omega arith)
four_of (a ∷ b ∷ []) h = absurd (omega arith)
four_of (a ∷ b ∷ c ∷ []) h = absurd (omega arith)
four_of (a ∷ b ∷ c ∷ d ∷ []) h = (a, b, c, d, refl)
four_of (a ∷ b ∷ c ∷ d ∷ e ∷ texts) h = absurd (omega arith)

-- The numbers in a text, printed again.
printed_again : (a b c d rest : List ℕ) → is_number 3 255 a ≡ true → is_number 3 255 b ≡ true → is_number 3 255 c ≡ true
    → is_number 3 255 d ≡ true → is_number 5 65535 rest ≡ true
    → endpoint_text (value_of a ∷ value_of b ∷ value_of c ∷ value_of d ∷ to_be_bytes w16 (value_of rest))
    ≡ a ++ (dot ∷ b) ++ (dot ∷ c) ++ (dot ∷ d) ++ (colon ∷ rest)
printed_again a b c d rest p q r s t =
    let port : from_be_bytes w16 (to_be_bytes w16 (value_of rest)) ≡ value_of rest =
    from_be_bytes-to_be_bytes_2 (value_of rest) (omega (arith, (number_text 5 65535 rest t).within)) in
    let small : 255 < 2 ^ 64 = omega arith in
    λ i. number_is_decimal 3 255 a small p i ++ (dot ∷ number_is_decimal 3 255 b small q i) ++ (dot ∷ number_is_decimal 3 255 c small r i)
    ++ (dot ∷ number_is_decimal 3 255 d small s i)
    ++ (colon ∷ (ap decimal port ∙ number_is_decimal 5 65535 rest (omega arith) t) i)

with_dots : (a b c d e : List ℕ)
    → (a ++ (dot ∷ (b ++ (dot ∷ (c ++ (dot ∷ d)))))) ++ e ≡ a ++ (dot ∷ b) ++ (dot ∷ c) ++ (dot ∷ d) ++ e
with_dots a b c d e = simp append_assoc

-- What is read is what is printed of it.
pub read_is_printed : ReadIsPrinted
read_is_printed text place h =
    let f = no_fault (length (parts (host text)) == 4) (list_all (is_number 3 255) (parts (host text))) (has_port text) _ place h in
    let texts = four_of (parts (host text)) ((Decides-eqb (length (parts (host text))) 4).0 f.0) in
    let port = and_parts (list_any is_colon text) (is_number 5 65535 (after_first is_colon text)) f.2 in
    let a : List ℕ = texts.0 in let b : List ℕ = texts.1 in let c : List ℕ = texts.2 in let d : List ℕ = texts.3 in
    let rest : List ℕ = after_first is_colon text in
    let numbers : list_all (is_number 3 255) (a ∷ b ∷ c ∷ d ∷ []) ≡ true = ap (list_all (is_number 3 255)) (sym texts.4) ∙ f.1 in
    let first = and_parts (is_number 3 255 a) (list_all (is_number 3 255) (b ∷ c ∷ d ∷ [])) numbers in
    let second = and_parts (is_number 3 255 b) (list_all (is_number 3 255) (c ∷ d ∷ [])) first.1 in
    let third = and_parts (is_number 3 255 c) (list_all (is_number 3 255) (d ∷ [])) second.1 in
    let fourth = and_parts (is_number 3 255 d) true third.1 in
    let before : host text ≡ before_first is_colon text = ap (λ (k : Bool). if k then before_first is_colon text else text) port.0 in
    colon_joined text port.0
    ∙ ap (λ (l : List ℕ). l ++ (colon ∷ rest)) (sym before ∙ four_joined (host text) a b c d texts.4)
    ∙ with_dots a b c d (colon ∷ rest)
    ∙ sym (printed_again a b c d rest first.0 second.0 third.0 fourth.0 port.1)
    ∙ ap endpoint_text (sym (ap (λ (l : List (List ℕ)). map value_of l ++ to_be_bytes w16 (port_in text)) texts.4) ∙ f.3)

-- Digits hold no dot and no colon.
no_dot : (ds : List ℕ) → list_all is_digit ds ≡ true → list_any (λ b. b == dot) ds ≡ false
no_dot [] h = refl
no_dot (d ∷ ds) h = grind (arith, nat_tests, no_dot ds)

no_colon : (ds : List ℕ) → list_all is_digit ds ≡ true → list_any is_colon ds ≡ false
no_colon [] h = refl
no_colon (d ∷ ds) h = grind (arith, nat_tests, no_colon ds)

-- The first part ends at a dot that no other is before.
part_before_dot : (ds xs : List ℕ) → list_any (λ b. b == dot) ds ≡ false → parts (ds ++ (dot ∷ xs)) ≡ ds ∷ parts xs
part_before_dot [] xs h = refl
part_before_dot (d ∷ ds) xs h = grind (arith, part_before_dot ds xs)

-- The text is cut at a colon that no other is before.
colon_there : (ds xs : List ℕ) → list_any is_colon (ds ++ (colon ∷ xs)) ≡ true
colon_there [] xs = refl
colon_there (d ∷ ds) xs = grind (arith, colon_there ds xs)

colon_place : (ds xs : List ℕ) → list_any is_colon ds ≡ false → position_or_len is_colon (ds ++ (colon ∷ xs)) ≡ length ds
colon_place [] xs h = refl
colon_place (d ∷ ds) xs h = grind (arith, colon_place ds xs)

before_colon : (ds xs : List ℕ) → list_any is_colon ds ≡ false → before_first is_colon (ds ++ (colon ∷ xs)) ≡ ds
before_colon ds xs h =
    ap (λ (n : ℕ). take n (ds ++ (colon ∷ xs))) (colon_place ds xs h) ∙ take-append_seam ds (colon ∷ xs)

after_colon : (ds xs : List ℕ) → list_any is_colon ds ≡ false → after_first is_colon (ds ++ (colon ∷ xs)) ≡ xs
after_colon [] xs h = refl
after_colon (d ∷ ds) xs h = grind (arith, after_colon ds xs)

none_of_both : (p : ℕ → Bool) (xs ys : List ℕ) → list_any p xs ≡ false → list_any p ys ≡ false → list_any p (xs ++ ys) ≡ false
none_of_both p xs ys h k = list_any-append p xs ys ∙ (λ i. h i || k i)

-- A host of four numbers has no colon, and these are its parts.
host_of_four : (a b c d : List ℕ) → list_all is_digit a ≡ true → list_all is_digit b ≡ true → list_all is_digit c ≡ true
    → list_all is_digit d ≡ true
    → (list_any is_colon (a ++ (dot ∷ (b ++ (dot ∷ (c ++ (dot ∷ d)))))) ≡ false)
    × (parts (a ++ (dot ∷ (b ++ (dot ∷ (c ++ (dot ∷ d)))))) ≡ a ∷ b ∷ c ∷ d ∷ [])
host_of_four a b c d p q r s = (
  none_of_both is_colon a (dot ∷ (b ++ (dot ∷ (c ++ (dot ∷ d))))) (no_colon a p)
      (none_of_both is_colon b (dot ∷ (c ++ (dot ∷ d))) (no_colon b q)
      (none_of_both is_colon c (dot ∷ d) (no_colon c r) (no_colon d s))),
  part_before_dot a (b ++ (dot ∷ (c ++ (dot ∷ d)))) (no_dot a p)
      ∙ ap (λ (l : List (List ℕ)). a ∷ l)
      (part_before_dot b (c ++ (dot ∷ d)) (no_dot b q)
      ∙ ap (λ (l : List (List ℕ)). b ∷ l)
      (part_before_dot c d (no_dot c r) ∙ ap (λ (l : List (List ℕ)). c ∷ l) (one_part d (no_dot d s)))),
)

-- Four numbers and a port are read.
accepted : (a b c d rest : List ℕ) → is_number 3 255 a ≡ true → is_number 3 255 b ≡ true → is_number 3 255 c ≡ true
    → is_number 3 255 d ≡ true → is_number 5 65535 rest ≡ true
    → assembled true (a ∷ b ∷ c ∷ d ∷ []) rest
    ≡ Ok (value_of a ∷ value_of b ∷ value_of c ∷ value_of d ∷ to_be_bytes w16 (value_of rest))
accepted a b c d rest p q r s t =
    λ i. unless_fault
    (if not (p i && (q i && (r i && (s i && true)))) then Some PartRange else if not (true && t i) then Some BadPort else None)
    (value_of a ∷ value_of b ∷ value_of c ∷ value_of d ∷ to_be_bytes w16 (value_of rest))

-- What is read of four numbers with dots between them, a colon and a port.
text_is_read : (a b c d rest : List ℕ) → is_number 3 255 a ≡ true → is_number 3 255 b ≡ true → is_number 3 255 c ≡ true
    → is_number 3 255 d ≡ true → is_number 5 65535 rest ≡ true
    → endpoint_from (a ++ (dot ∷ b) ++ (dot ∷ c) ++ (dot ∷ d) ++ (colon ∷ rest))
    ≡ Ok (value_of a ∷ value_of b ∷ value_of c ∷ value_of d ∷ to_be_bytes w16 (value_of rest))
text_is_read a b c d rest p q r s t =
    let whole : List ℕ = a ++ (dot ∷ (b ++ (dot ∷ (c ++ (dot ∷ d))))) in
    let text : List ℕ = whole ++ (colon ∷ rest) in
    let parts_of_whole = host_of_four a b c d (number_text 3 255 a p).plain (number_text 3 255 b q).plain
    (number_text 3 255 c r).plain (number_text 3 255 d s).plain in
    let there : list_any is_colon text ≡ true = colon_there whole rest in
    let front : host text ≡ whole =
    ap (λ (k : Bool). if k then before_first is_colon text else text) there ∙ before_colon whole rest parts_of_whole.0 in
    ap endpoint_from (sym (with_dots a b c d (colon ∷ rest)))
    ∙ (λ i. assembled (there i) ((ap parts front ∙ parts_of_whole.1) i) (after_colon whole rest parts_of_whole.0 i))
    ∙ accepted a b c d rest p q r s t

-- The text of six bytes is read as these.
six_are_read : (a b c d high low : ℕ) → a < 256 → b < 256 → c < 256 → d < 256 → high < 256 → low < 256
    → endpoint_from (endpoint_text (a ∷ b ∷ c ∷ d ∷ high ∷ low ∷ [])) ≡ Ok (a ∷ b ∷ c ∷ d ∷ high ∷ low ∷ [])
six_are_read a b c d high low p q r s t u =
    text_is_read (decimal a) (decimal b) (decimal c) (decimal d) (decimal (high * 256 + low))
    (decimal_is_number 3 255 a (omega arith) (omega arith) (omega arith) (omega arith))
    (decimal_is_number 3 255 b (omega arith) (omega arith) (omega arith) (omega arith))
    (decimal_is_number 3 255 c (omega arith) (omega arith) (omega arith) (omega arith))
    (decimal_is_number 3 255 d (omega arith) (omega arith) (omega arith) (omega arith))
    (decimal_is_number 5 65535 (high * 256 + low) (omega arith) (omega arith) (omega arith) (omega arith))
    ∙ (λ i. Ok
    (digits_value-decimal own a (below_word a p) i ∷ digits_value-decimal own b (below_word b q) i
    ∷ digits_value-decimal own c (below_word c r) i ∷ digits_value-decimal own d (below_word d s) i
    ∷ to_be_bytes w16 (digits_value-decimal own (high * 256 + low) (omega arith) i)))
    ∙ (λ i. Ok (a ∷ b ∷ c ∷ d ∷ high_byte high low t u i ∷ low_byte high low t u i ∷ []))
  where
    below_word : (n : ℕ) → n < 256 → n < 2 ^ 64
    below_word n h = omega arith

    high_byte : (m n : ℕ) → m < 256 → n < 256 → (m * 256 + n) / 256 % 256 ≡ m
    high_byte m n h k = omega arith

    low_byte : (m n : ℕ) → m < 256 → n < 256 → (m * 256 + n) % 256 ≡ n
    low_byte m n h k = omega arith

-- What is printed is read.
pub printed_is_read : PrintedIsRead
printed_is_read [] h k = absurd (omega arith)
printed_is_read (a ∷ []) h k = absurd (omega arith)
printed_is_read (a ∷ b ∷ []) h k = absurd (omega arith)
printed_is_read (a ∷ b ∷ c ∷ []) h k = absurd (omega arith)
printed_is_read (a ∷ b ∷ c ∷ d ∷ []) h k = absurd (omega arith)
printed_is_read (a ∷ b ∷ c ∷ d ∷ e ∷ []) h k = absurd (omega arith)
printed_is_read (a ∷ b ∷ c ∷ d ∷ e ∷ f ∷ []) h k =
    six_are_read a b c d e f (k 0 0 (omega arith)) (k 1 0 (omega arith)) (k 2 0 (omega arith)) (k 3 0 (omega arith)) (k 4 0 (omega arith))
    (k 5 0 (omega arith))
printed_is_read (a ∷ b ∷ c ∷ d ∷ e ∷ f ∷ g ∷ place) h k = absurd (omega arith)
