-- The alerts of an echo, one ring and one process after another.
use Rattle.std.proofs.Common.{◌≡◌, ℕ, ◌+◌, Bool, List, [], ◌∷◌, ◌++◌, map, filter, flat_map, sym, ap, ◌∙◌, append_assoc}
use Rattle.std.specs.List.{range_with_len}
use Rattle.std.proofs.lemmas.List.{map-append}
use Rattle.std.proofs.lemmas.List.Elements.{filter-append}
use Rattle.std.proofs.lemmas.List.Concat.{flat_map-append}
use Rattle.rapid_rings.proofs.Numbers.{range_more}

pub more_ring : {A : Type 0} (f : ℕ → A) (p : ℕ → Bool) (before : List A) (n : ℕ) →
    (before ++ map f (filter p (range_with_len 0 n))) ++ map f (filter p (n ∷ [])) ≡ before ++ map f (filter p (range_with_len 0 (n + 1)))
more_ring f p before n =
    append_assoc before _ _
    ∙ ap (λ l. before ++ l) (sym (map-append f (filter p (range_with_len 0 n)) (filter p (n ∷ []))))
    ∙ ap (λ l. before ++ map f l) (sym (filter-append p (range_with_len 0 n) (n ∷ [])))
    ∙ ap (λ l. before ++ map f (filter p l)) (sym (range_more n))

pub more_process : {A B : Type 0} (f : A → List B) (p : A → Bool) (xs : List A) (x : A) →
    flat_map f (filter p xs) ++ flat_map f (filter p (x ∷ [])) ≡ flat_map f (filter p (xs ++ x ∷ []))
more_process f p xs x = sym (flat_map-append f (filter p xs) (filter p (x ∷ []))) ∙ ap (flat_map f) (sym (filter-append p xs (x ∷ [])))
