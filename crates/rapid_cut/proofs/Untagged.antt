-- Processes without tags.
use Rattle.std.proofs.Common.{◌≡◌, ℕ, true, ◌&&◌, List, [], ◌∷◌, ◌++◌, length, length-append, drop, sym, ap, ◌∙◌, arith}
use Rattle.std.specs.Cmp.{both_ways}
use Rattle.std.proofs.lemmas.Bool.{and_parts, and_from}
use Rattle.std.proofs.lemmas.List.{append_assoc, take-append-drop, drop-drop}
use Rattle.rapid_model.specs.Process.{Process, identifier, endpoint, tags_bytes_of, same_bytes}
use Rattle.rapid_model.proofs.Orders.{same_bytes_decides}
use Rattle.rapid_endpoint.specs.Joined.{second_part}
use Rattle.rapid_cut.specs.Untagged.{front_part, middle_part}

three_parts : (p : Process) → p ≡ identifier p ++ endpoint p ++ tags_bytes_of p
three_parts p =
    sym (take-append-drop 16 p) ∙ ap (λ l. identifier p ++ l) (sym (take-append-drop 6 (drop 16 p)) ∙ ap (λ l. endpoint p ++ l) (drop-drop 6 16 p))
    ∙ sym (append_assoc (identifier p) (endpoint p) (tags_bytes_of p))

-- a process of these parts, and no tags
pub is_bare : (p id place : List ℕ) → id ≡ identifier p → place ≡ endpoint p → same_bytes (tags_bytes_of p) (0 ∷ []) ≡ true → id ++ place ++ 0 ∷ [] ≡ p
is_bare p id place i e none = (λ j. i j ++ e j ++ sym ((same_bytes_decides (tags_bytes_of p) (0 ∷ [])).0 none) j) ∙ sym (three_parts p)

-- it is told by its parts
pub told_by_parts : (p id place : List ℕ) → length id ≡ 16 → length place ≡ 6
    → ((same_bytes (identifier p) id && same_bytes (endpoint p) place) && same_bytes (tags_bytes_of p) (0 ∷ [])) ≡ same_bytes p (id ++ place ++ 0 ∷ [])
told_by_parts p id place l m =
    both_ways _ _
    (λ h.
    let a = and_parts _ _ h in
    let b = and_parts _ _ a.0 in
    (same_bytes_decides p (id ++ place ++ 0 ∷ [])).1 (sym (is_bare p id place (sym ((same_bytes_decides (identifier p) id).0 b.0)) (sym ((same_bytes_decides (endpoint p) place).0 b.1)) a.1)))
    (λ h.
    let is : p ≡ id ++ place ++ 0 ∷ [] = (same_bytes_decides p (id ++ place ++ 0 ∷ [])).0 h in
    and_from _ _ (and_from _ _ ((same_bytes_decides (identifier p) id).1 (ap identifier is ∙ front_part id place (0 ∷ []) l))
    ((same_bytes_decides (endpoint p) place).1 (ap endpoint is ∙ middle_part id place (0 ∷ []) l m)))
    ((same_bytes_decides (tags_bytes_of p) (0 ∷ [])).1 (ap tags_bytes_of is ∙ second_part 22 (id ++ place) (0 ∷ []) (omega (arith, l, m, length-append id place)))))
