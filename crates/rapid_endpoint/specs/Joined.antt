-- Byte strings made of two parts: how the parts are got back, and how such strings compare.
use Rattle.std.proofs.Common.{◌≡◌, ℕ, ◌<◌, ◌+◌, ◌*◌, ◌/◌, ◌%◌, ◌^◌, Bool, true, false, ◌&&◌, nat_eq, length-append, List, [], ◌∷◌, ◌++◌, length, take, drop, refl, ap, subst, sym, ◌∙◌, arith}
use Rattle.std.specs.declared.cmp.Ordering.{Ordering}
use Rattle.std.specs.declared.cmp.Ordering.TheVariants.{Less, Equal, Greater}
use Rattle.std.specs.Ordering.{ordering_then, nat_cmp, is_eq}
use Rattle.std.specs.Cmp.{unsigned_ties}
use Rattle.std.specs.Int.{w16, to_be_bytes, from_be_bytes}
use Rattle.std.proofs.lemmas.Nat.{from_be_bytes-to_be_bytes_2}
use Rattle.std.proofs.lemmas.Bool.{true≢false, false≢true}
use Rattle.std.proofs.lemmas.Bool.Decides.{nat_tests}
use Rattle.std.proofs.Math.Seq.{take-append_seam, drop-append_seam}
use Rattle.std.proofs.lemmas.List.{take_all}
use Rattle.rapid_model.specs.Process.{bytes_cmp, same_bytes, endpoint}

-- The first part, by its length.
pub first_part : (n : ℕ) (xs ys : List ℕ) → length xs ≡ n → take n (xs ++ ys) ≡ xs
first_part n xs ys e = subst (λ (k : ℕ). take k (xs ++ ys) ≡ xs) e (take-append_seam xs ys)

-- The second part, by the length of the first.
pub second_part : (n : ℕ) (xs ys : List ℕ) → length xs ≡ n → drop n (xs ++ ys) ≡ ys
second_part n xs ys e = subst (λ (k : ℕ). drop k (xs ++ ys) ≡ ys) e (drop-append_seam xs ys)

then_assoc : (a b c : Ordering) → ordering_then (ordering_then a b) c ≡ ordering_then a (ordering_then b c)
then_assoc Less b c = refl
then_assoc Equal b c = refl
then_assoc Greater b c = refl

-- If the first parts are equal the second parts decide, else the first parts do. They are of one length.
pub cmp_joined : (us vs xs ys : List ℕ) → length us ≡ length vs
    → bytes_cmp (us ++ xs) (vs ++ ys) ≡ ordering_then (bytes_cmp us vs) (bytes_cmp xs ys)
cmp_joined [] [] xs ys e = refl
cmp_joined [] (v ∷ vs) xs ys e = absurd (omega arith)
cmp_joined (u ∷ us) [] xs ys e = absurd (omega arith)
cmp_joined (u ∷ us) (v ∷ vs) xs ys e =
    ap (ordering_then (nat_cmp u v)) (cmp_joined us vs xs ys (omega arith))
    ∙ sym (then_assoc (nat_cmp u v) (bytes_cmp us vs) (bytes_cmp xs ys))

not_tied : (a b : Ordering) → is_eq a ≡ false → a ≡ ordering_then a b
not_tied Less b h = refl
not_tied Equal b h = absurd (true≢false h)
not_tied Greater b h = refl

tied : (a b : Ordering) → is_eq a ≡ true → b ≡ ordering_then a b
tied Less b h = absurd (false≢true h)
tied Equal b h = refl
tied Greater b h = absurd (false≢true h)

-- If the first parts differ, they decide.
pub first_decides : (us vs xs ys : List ℕ) → length us ≡ length vs → same_bytes us vs ≡ false
    → bytes_cmp us vs ≡ bytes_cmp (us ++ xs) (vs ++ ys)
first_decides us vs xs ys e h = not_tied (bytes_cmp us vs) (bytes_cmp xs ys) h ∙ sym (cmp_joined us vs xs ys e)

-- If they are the same, the second parts do.
pub second_decides : (us vs xs ys : List ℕ) → length us ≡ length vs → same_bytes us vs ≡ true
    → bytes_cmp xs ys ≡ bytes_cmp (us ++ xs) (vs ++ ys)
second_decides us vs xs ys e h = tied (bytes_cmp us vs) (bytes_cmp xs ys) h ∙ sym (cmp_joined us vs xs ys e)

then_is_eq : (a b : Ordering) → is_eq (ordering_then a b) ≡ (is_eq a && is_eq b)
then_is_eq Less b = refl
then_is_eq Equal b = refl
then_is_eq Greater b = refl

-- Such strings are the same if both parts are.
pub same_joined : (us vs xs ys : List ℕ) → length us ≡ length vs
    → same_bytes (us ++ xs) (vs ++ ys) ≡ (same_bytes us vs && same_bytes xs ys)
same_joined us vs xs ys e = ap is_eq (cmp_joined us vs xs ys e) ∙ then_is_eq (bytes_cmp us vs) (bytes_cmp xs ys)

by_digits : (a b c d m n : ℕ) → m ≡ a * 256 + c → n ≡ b * 256 + d → c < 256 → d < 256
    → ordering_then (nat_cmp a b) (ordering_then (nat_cmp c d) Equal) ≡ nat_cmp m n
by_digits a b c d m n e f h k = grind (arith, nat_tests)

-- Numbers of two bytes, high byte first, are ordered as their bytes are.
pub cmp_two_bytes : (m n : ℕ) → m < 2 ^ 16 → n < 2 ^ 16 → bytes_cmp (to_be_bytes w16 m) (to_be_bytes w16 n) ≡ nat_cmp m n
cmp_two_bytes m n h k =
    by_digits (m / 256 % 256) (n / 256 % 256) (m % 256) (n % 256) m n (omega arith) (omega arith) (omega arith) (omega arith)

-- A port after four bytes of address is read back.
pub port_returns : (address : List ℕ) (port : ℕ) → length address ≡ 4 → port < 2 ^ 16
    → from_be_bytes w16 (drop 4 (address ++ to_be_bytes w16 port)) ≡ port
port_returns address port e h =
    ap (from_be_bytes w16) (second_part 4 address (to_be_bytes w16 port) e) ∙ from_be_bytes-to_be_bytes_2 port h

-- Two endpoints compare as their addresses and ports do.
pub cmp_endpoints : (a b : List ℕ) (p q : ℕ) → length a ≡ 4 → length b ≡ 4 → p < 2 ^ 16 → q < 2 ^ 16
    → bytes_cmp (a ++ to_be_bytes w16 p) (b ++ to_be_bytes w16 q) ≡ ordering_then (bytes_cmp a b) (nat_cmp p q)
cmp_endpoints a b p q e f h k =
    cmp_joined a b (to_be_bytes w16 p) (to_be_bytes w16 q) (e ∙ sym f) ∙ ap (ordering_then (bytes_cmp a b)) (cmp_two_bytes p q h k)

-- They are the same if their addresses and ports are.
pub same_endpoints : (a b : List ℕ) (p q : ℕ) → length a ≡ 4 → length b ≡ 4 → p < 2 ^ 16 → q < 2 ^ 16
    → same_bytes (a ++ to_be_bytes w16 p) (b ++ to_be_bytes w16 q) ≡ (same_bytes a b && nat_eq p q)
same_endpoints a b p q e f h k =
    ap is_eq (cmp_endpoints a b p q e f h k) ∙ then_is_eq (bytes_cmp a b) (nat_cmp p q)
    ∙ sym (λ i. same_bytes a b && unsigned_ties p q i)

-- The identifier is the first part of a process, and the endpoint is the second.
pub endpoint_part : (id place : List ℕ) → length id ≡ 16 → length (id ++ place) ≡ 22 → endpoint (id ++ place) ≡ place
endpoint_part id place e f =
    ap (take 6) (second_part 16 id place e) ∙ take_all 6 place (omega (arith, length-append id place))

-- The answer of `a && b`, if a is true.
pub and_then_second : (a b c : Bool) → a ≡ b → a ≡ true → c ≡ (b && c)
and_then_second a b c e h = sym (ap (λ (d : Bool). d && c) (sym e ∙ h))

-- The answer of `a && b`, if a is false.
pub and_else_first : (a b c : Bool) → a ≡ b → a ≡ false → a ≡ (b && c)
and_else_first a b c e h = h ∙ sym (ap (λ (d : Bool). d && c) (sym e ∙ h))
