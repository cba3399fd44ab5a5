-- Texts that are written one after another, behind what was there.
use Rattle.std.proofs.Common.{◌≡◌, ℕ, zero, suc, ◌+◌, add-one, List, [], ◌∷◌, ◌++◌, append_assoc, append-nil, ◌<◌, length, get_or, flat_map, take, drop, ap, sym, subst, ◌∙◌, arith}
use Rattle.std.proofs.Math.Seq.{take-append_seam, take-length}
use Rattle.std.proofs.lemmas.List.{take-append-drop}

more : {X A : Type 0} (f : X → List A) (xs : List X) (i : ℕ) (x : X) → i < length xs → x ≡ get_or xs i x → flat_map f (take i xs) ++ f x ≡ flat_map f (take (i + 1) xs)
more f [] i x h is = absurd (omega arith)
more f (y ∷ ys) zero x h is = ap f is ∙ sym (append-nil (f y))
more f (y ∷ ys) (suc i) x h is =
    rw add-one (append_assoc (f y) (flat_map f (take i ys)) (f x) ∙ ap (λ zs. f y ++ zs) (subst (λ n. flat_map f (take i ys) ++ f x ≡ flat_map f (take n ys)) (add-one i) (more f ys i x (omega arith) is)))

-- One more text was written.
pub written_more : {X A : Type 0} (f : X → List A) (xs : List X) (i : ℕ) (before output new : List A) (x : X) → i < length xs → x ≡ get_or xs i x → output ≡ before ++ flat_map f (take i xs) → new ≡ output ++ f x
    → new ≡ before ++ flat_map f (take (i + 1) xs)
written_more f xs i before output new x h is e k =
    k ∙ ap (λ ys. ys ++ f x) e ∙ append_assoc before (flat_map f (take i xs)) (f x) ∙ ap (λ ys. before ++ ys) (more f xs i x h is)

-- What stays as it was begins with what it was,
pub front_same : (old new : List ℕ) → new ≡ old → take (length old) new ≡ old
front_same old new e = ap (take (length old)) e ∙ take-length old

-- and so does what has more behind it,
pub front_more : (old new more : List ℕ) → new ≡ old ++ more → take (length old) new ≡ old
front_more old new more e = ap (take (length old)) e ∙ take-append_seam old more

-- and what begins with that.
pub front_within : (old mid new more : List ℕ) → mid ≡ old ++ more → take (length mid) new ≡ mid → take (length old) new ≡ old
front_within old mid new more e k =
    let rest = drop (length mid) new in
    front_more old new (more ++ rest)
    (sym (take-append-drop (length mid) new) ∙ ap (λ xs. xs ++ rest) (k ∙ e) ∙ append_assoc old more rest)

-- One byte and two texts.
pub two_behind : (before one two all d e : List ℕ) (x : ℕ) → one ≡ before ++ x ∷ [] → two ≡ one ++ d → all ≡ two ++ e
    → all ≡ before ++ (x ∷ (d ++ e))
two_behind before one two all d e x i j k =
    k ∙ ap (λ l. l ++ e) (j ∙ ap (λ l. l ++ d) i)
    ∙ append_assoc (before ++ x ∷ []) d e ∙ append_assoc before (x ∷ []) (d ++ e)
