-- How much of a frame was written.
use Rattle.std.proofs.Common.{◌≡◌, ◌+◌, ◌<◌, ℕ, List, [], ◌++◌, Option, Result, Ok, Err, OnErr, length, take, drop, subst, sym, ap, ◌∙◌, arith, append-nil, length-drop}
use Rattle.std.proofs.lemmas.List.{take-append-drop}
use lib.Seq.{take-add}
use Rattle.std.specs.Io.KnownBytes.{Appends}
use Rattle.std.proofs.KnownBytes.{Appends-trans}
use Rattle.rapid_transport.specs.Sending.{WritesPart}

-- Less than all was written.
pub part_of : (a b : Option (List ℕ)) (xs : List ℕ) (n : ℕ) → n < length xs → Appends a b (take n xs) → WritesPart a b xs
part_of a b xs n less h = record {
  written = take n xs;
  rest = drop n xs;
  is = sym (take-append-drop n xs);
  not_all = λ e. absurd (omega (arith, less, length-drop n xs, ap (length {A = ℕ}) e));
  appended = h;
}

-- Then nothing more was written.
pub part_and_none : (a b c : Option (List ℕ)) (xs : List ℕ) (n : ℕ) → n < length xs → Appends a b (take n xs) → Appends b c [] → WritesPart a c xs
part_and_none a b c xs n less h k = part_of a c xs n less (subst (Appends a c) (append-nil (take n xs)) (Appends-trans a b c (take n xs) [] h k))

-- Then more was written.
pub wrote_more : (a b c : Option (List ℕ)) (xs : List ℕ) (m n : ℕ) (ys : List ℕ) → Appends a b (take m xs) → ys ≡ drop m xs → Appends b c (take n ys) → Appends a c (take (m + n) xs)
wrote_more a b c xs m n ys h e k =
    subst (Appends a c) (ap (λ zs. take m xs ++ take n zs) e ∙ sym (take-add m n xs)) (Appends-trans a b c (take m xs) (take n ys) h k)

pub on_err : {T D : Type 0} (P : Type 0) (r : Result T D) → P → OnErr r P
on_err P (Ok x) p = tt
on_err P (Err e) p = p
