-- Whether a member has an identifier or an endpoint, by two searches.
use Rattle.std.proofs.Common.{◌≡◌, ℕ, ◌<◌, Bool, true, false, ◌||◌, List, [], ◌∷◌, map, length, refl, sym, ap, ◌∙◌, inl, inr, arith}
use Rattle.std.specs.Prelude.{Ok, Err}
use Rattle.std.specs.List.{list_any}
use Rattle.std.specs.List.Sorted.{IsSorted, IsBinarySearchResult, IsPermutation}
use Rattle.std.specs.declared.cmp.Ordering.TheVariants.{Less, Greater}
use Rattle.std.specs.Ordering.{is_eq}
use Rattle.std.specs.FinSet as set
use Rattle.std.proofs.lemmas.Bool.{cases_lt}
use Rattle.std.proofs.lemmas.List.Sorted.{searchable_from_sorted, list_any-IsPermutation}
use Rattle.rapid_model.specs.Process.{Process, endpoint, bytes_cmp, same_bytes, same_identifier}
use Rattle.rapid_model.specs.Apply.{collides}
use Rattle.rapid_model.proofs.Orders.{processes_total, processes_exact}
use Rattle.rapid_config.proofs.Ascending.{flipped}
use Rattle.rapid_config.proofs.Places.{any_none, search_finds}
use Rattle.rapid_join.specs.Endpoints.{EndpointSet, endpoints_of}

-- a search among endpoints that ascend, which finds one
pub endpoint_found : (xs : List (List ℕ)) (x : List ℕ) (i : ℕ) → i < length xs → IsBinarySearchResult (λ y. bytes_cmp y x) xs (Ok i) → set.contains (set.from_list {R = bytes_cmp} xs) x ≡ true
endpoint_found xs x i l h = set.contains-from_list processes_total xs x ∙ search_finds xs x i l h

-- a search among endpoints that ascend, which finds none
pub endpoint_missed : (xs : List (List ℕ)) (x : List ℕ) (i : ℕ) → IsSorted bytes_cmp xs → IsBinarySearchResult (λ y. bytes_cmp y x) xs (Err i) → set.contains (set.from_list {R = bytes_cmp} xs) x ≡ false
endpoint_missed xs x i up h =
    let parted = h (searchable_from_sorted processes_total (λ (y : List ℕ). y) xs x up) in
    set.contains-from_list processes_total xs x
    ∙ any_none (same_bytes x) xs (λ k d m.
    elim (cases_lt k i) [
      | inl below ↦ ap is_eq (flipped _ x Less (parted.0 k d (omega arith) below))
      | inr above ↦ ap is_eq (flipped _ x Greater (parted.1 k d above m))
    ])

-- endpoints in another order are the same set
pub same_endpoints : (ps : List Process) (xs ys : List (List ℕ)) → xs ≡ map endpoint ps → IsPermutation xs ys → ◌≡◌ {A = EndpointSet} (set.from_list ys) (endpoints_of ps)
unfolding endpoints_of
same_endpoints ps xs ys e moved =
    set.same_set processes_total processes_exact _ _ (λ q.
    set.contains-from_list processes_total ys q ∙ sym (list_any-IsPermutation (same_bytes q) xs ys moved)
    ∙ sym (set.contains-from_list processes_total xs q))
    ∙ ap (λ (l : List (List ℕ)). set.from_list {R = bytes_cmp} l) e

-- a process collides with members if one of them has its identifier, or if its endpoint is among theirs
pub collides_is : (ps : List Process) (p : Process) → collides ps p ≡ (list_any (same_identifier p) ps || set.contains (endpoints_of ps) (endpoint p))
unfolding endpoints_of
collides_is ps p = split ps ∙ ap (λ b. list_any (same_identifier p) ps || b) (sym (set.contains-from_list processes_total (map endpoint ps) (endpoint p)))
  where
    shuffle : (a b c d : Bool) → ((a || b) || (c || d)) ≡ ((a || c) || (b || d))
    shuffle true b c d = refl
    shuffle false true true d = refl
    shuffle false true false d = refl
    shuffle false false c d = refl

    split : (qs : List Process) → collides qs p ≡ (list_any (same_identifier p) qs || list_any (same_bytes (endpoint p)) (map endpoint qs))
    split [] = refl
    split (q ∷ qs) =
        ap (λ b. (same_identifier p q || same_bytes (endpoint p) (endpoint q)) || b) (split qs)
        ∙ shuffle (same_identifier p q) (same_bytes (endpoint p) (endpoint q)) (list_any (same_identifier p) qs) (list_any (same_bytes (endpoint p)) (map endpoint qs))

-- what a search by identifier and one by endpoint say together
pub collides_by : (ms ps : List Process) (p : Process) (a b : Bool) → ms ≡ ps → a ≡ list_any (same_identifier p) ms → b ≡ set.contains (endpoints_of ps) (endpoint p) → (a || b) ≡ collides ps p
collides_by ms ps p a b e f g =
    ap (λ (x : Bool). x || b) (f ∙ ap (list_any (same_identifier p)) e) ∙ ap (λ (x : Bool). list_any (same_identifier p) ps || x) g ∙ sym (collides_is ps p)

-- if the identifier is held, its search alone says so
pub collides_at_once : (ms ps : List Process) (p : Process) (a : Bool) → ms ≡ ps → a ≡ list_any (same_identifier p) ms → a ≡ true → a ≡ collides ps p
collides_at_once ms ps p a e f held =
    held ∙ ap (λ (x : Bool). x || set.contains (endpoints_of ps) (endpoint p)) (sym held)
    ∙ collides_by ms ps p a (set.contains (endpoints_of ps) (endpoint p)) e f refl

-- if it is not, the search by endpoint does
pub collides_by_endpoint : (ms ps : List Process) (p : Process) (a b : Bool) → ms ≡ ps → a ≡ list_any (same_identifier p) ms → a ≡ false → b ≡ set.contains (endpoints_of ps) (endpoint p) → b ≡ collides ps p
collides_by_endpoint ms ps p a b e f free g = ap (λ (x : Bool). x || b) (sym free) ∙ collides_by ms ps p a b e f g
