-- Reading digits one by one.
use Rattle.std.proofs.Common.{◌≡◌, ℕ, suc, ◌+◌, ◌^◌, ◌<◌, ◌≤◌, ◌&&◌, Bool, true, false, cond, List, [], ◌∷◌, length, drop, get_or, nat_lt, nat_le, if◌then◌else◌, fold, Option, Some, None, refl, arith, add-one, lit<}
use Rattle.std.specs.List.{list_all}
use Rattle.std.proofs.Math.Seq.{drop-cons}
use Rattle.std.proofs.lemmas.Bool.Decides.{nat_tests}
use Rattle.rapid_model.specs.Lines.{number_up_to}
use Rattle.rapid_model.specs.EndpointText.{is_digit, value_of, has_no_needless_zero}
use Rattle.rapid_text.specs.Spelled.{with_digit, spelled_from}

step : (n m d : ℕ) (ds : List ℕ) (b : Bool) → Some m ≡ cond b (Some (with_digit n d)) None → cond b (spelled_from (with_digit n d) ds) None ≡ spelled_from m ds
step n m d ds true e = let k : m ≡ with_digit n d = cc in rw k refl
step n m d ds false e = absurd cc

stop : (n d : ℕ) (ds : List ℕ) (b : Bool) → None ≡ cond b (Some (with_digit n d)) None → cond b (spelled_from (with_digit n d) ds) None ≡ None
stop n d ds true e = absurd cc
stop n d ds false e = refl

-- A digit more was read.
pub spelled_step : (n m i : ℕ) (ds : List ℕ) → i < length ds → Some m ≡ spelled_from n (get_or ds i 0 ∷ []) → spelled_from n (drop i ds) ≡ spelled_from m (drop (i + 1) ds)
spelled_step n m i ds h e = rw (add-one, drop-cons ds i 0 h) (step n m (get_or ds i 0) (drop (suc i) ds) _ e)

-- What was read is no digit, or too much.
pub spelled_stop : (n i : ℕ) (ds : List ℕ) → i < length ds → None ≡ spelled_from n (get_or ds i 0 ∷ []) → spelled_from n (drop i ds) ≡ None
spelled_stop n i ds h e = rw (drop-cons ds i 0 h) (stop n (get_or ds i 0) (drop (suc i) ds) _ e)

abbrev read : ℕ → List ℕ → ℕ
read n ds = fold with_digit n ds

read_grows : (n : ℕ) (ds : List ℕ) → n ≤ read n ds
read_grows n [] = omega arith
read_grows n (d ∷ ds) = let h = read_grows (with_digit n d) ds in omega arith

abbrev fits : ℕ → List ℕ → Bool → Option ℕ
fits n ds b = cond (b && nat_lt (read n ds) (2 ^ 64)) (Some (read n ds)) None

read_step : (n d : ℕ) (ds : List ℕ) (b : Bool) (low : Bool) → nat_lt (with_digit n d) (2 ^ 64) ≡ low
    → (with_digit n d < 2 ^ 64 → spelled_from (with_digit n d) ds ≡ fits (with_digit n d) ds (list_all is_digit ds))
    → cond (b && low) (spelled_from (with_digit n d) ds) None ≡ fits (with_digit n d) ds (b && list_all is_digit ds)
read_step n d ds false low e h = refl
read_step n d ds true true e h = h (grind (arith, nat_tests))
read_step n d ds true false e h =
    let g = read_grows (with_digit n d) ds in
    let big : nat_lt (read (with_digit n d) ds) (2 ^ 64) ≡ false = grind (arith, nat_tests) in
    rw big (none_both (list_all is_digit ds))
  where
    none_both : (b : Bool) → None ≡ cond (b && false) (Some (read (with_digit n d) ds)) None
    none_both true = refl
    none_both false = refl

-- Digit by digit, the value of a word of digits comes, if it is below 2^64.
pub spelled_is : (n : ℕ) (ds : List ℕ) → n < 2 ^ 64 → spelled_from n ds ≡ fits n ds (list_all is_digit ds)
spelled_is n [] h = let e : nat_lt n (2 ^ 64) ≡ true = grind (arith, nat_tests) in rw e refl
spelled_is n (d ∷ ds) h = read_step n d ds (is_digit d) _ refl (spelled_is (with_digit n d) ds)

-- A number that was read, if it is up to the limit.
abbrev pub up_to : ℕ → Option ℕ → Option ℕ
up_to limit None = None
up_to limit (Some n) = if nat_le n limit then Some n else None

number_step : (limit v : ℕ) (digits low : Bool) → nat_lt v (2 ^ 64) ≡ low → limit < 2 ^ 64
    → cond (digits && nat_le v limit) (Some v) None ≡ up_to limit (cond (digits && low) (Some v) None)
number_step limit v false low e h = refl
number_step limit v true true e h = refl
number_step limit v true false e h = let big : nat_le v limit ≡ false = grind (arith, nat_tests) in rw big refl

-- A word of 1 to 20 bytes without leading zeros is read digit by digit.
pub number_is : (limit : ℕ) (w : List ℕ) → limit < 2 ^ 64 → 0 < length w → length w ≤ 20 → has_no_needless_zero w ≡ true
    → number_up_to limit w ≡ up_to limit (spelled_from 0 w)
number_is limit w h low high zero =
    let some : nat_le 1 (length w) ≡ true = grind (arith, nat_tests) in
    let few : nat_le (length w) 20 ≡ true = grind (arith, nat_tests) in
    rw (some, few, zero, spelled_is 0 w (lit< tt)) (by_digits (list_all is_digit w))
  where
    by_digits : (b : Bool) → cond (b && true && nat_le (value_of w) limit) (Some (value_of w)) None ≡ up_to limit (fits 0 w b)
    by_digits true = number_step limit (value_of w) true _ refl h
    by_digits false = refl
