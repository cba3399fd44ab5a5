-- How bytes that were joined are taken apart again.
use Rattle.std.proofs.Common.{◌≡◌, ℕ, ◌*◌, ◌^◌, ◌<◌, ◌≤◌, List, [], ◌∷◌, ◌++◌, length, refl, sym, ap, ◌∙◌, arith, length-append}
use Rattle.std.specs.Prelude.{All}
use Rattle.std.specs.List.{concat}
use Rattle.std.specs.Int.{w32, to_be_bytes, from_be_bytes}
use Rattle.std.proofs.lemmas.Nat.{from_be_bytes-to_be_bytes_4}
use Rattle.std.proofs.lemmas.List.Elements.{All-head, All-tail}

-- the first of a list that is not empty
pub head_same : (x y : ℕ) (xs ys : List ℕ) → x ∷ xs ≡ y ∷ ys → x ≡ y
head_same x y xs ys e = cc

pub tail_same : {A : Type 0} (x y : A) (xs ys : List A) → x ∷ xs ≡ y ∷ ys → xs ≡ ys
tail_same x y xs ys e = cc

-- what two lists of one length begin is the same, and so is what follows
pub split : (xs ys us vs : List ℕ) → length xs ≡ length ys → xs ++ us ≡ ys ++ vs → (xs ≡ ys) × (us ≡ vs)
split [] [] us vs l e = (refl, e)
split [] (y ∷ ys) us vs l e = absurd (omega (arith, l))
split (x ∷ xs) [] us vs l e = absurd (omega (arith, l))
split (x ∷ xs) (y ∷ ys) us vs l e =
    let r = split xs ys us vs (omega (arith, l)) (tail_same x y (xs ++ us) (ys ++ vs) e) in
    let h = head_same x y (xs ++ us) (ys ++ vs) e in
    ((let f = r.0 in cc), r.1)

pub same_32 : (m n : ℕ) → m < 2 ^ 32 → n < 2 ^ 32 → to_be_bytes w32 m ≡ to_be_bytes w32 n → m ≡ n
same_32 m n h k e = sym (from_be_bytes-to_be_bytes_4 m h) ∙ ap (from_be_bytes w32) e ∙ from_be_bytes-to_be_bytes_4 n k

-- pieces of few bytes, one after another
pub concat_few : (n : ℕ) (ps : List (List ℕ)) → All (λ p. length p ≤ n) ps → length (concat ps) ≤ n * length ps
concat_few n [] h = omega arith
concat_few n (p ∷ ps) h =
    let first = All-head (λ p. length p ≤ n) p ps h in
    let rest = concat_few n ps (All-tail (λ p. length p ≤ n) p ps h) in
    let parts = length-append p (concat ps) in
    omega (arith, first, rest, parts)
