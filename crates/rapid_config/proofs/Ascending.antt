-- Lists in which each element passes a test with all later ones, checked by neighbours.
use Rattle.std.proofs.Common.{◌≡◌, map, ℕ, zero, suc, ◌+◌, ◌<◌, Bool, true, false, ◌&&◌, List, [], ◌∷◌, length, refl, sym, ap, ◌∙◌, arith, get_or, take, cond}
use Rattle.std.proofs.Math.Nat.{suc-add}
use Rattle.std.specs.declared.cmp.Ordering.{Ordering}
use Rattle.std.specs.declared.cmp.Ordering.TheVariants.{Less, Equal, Greater}
use Rattle.std.specs.Ordering.{is_lt, nat_cmp, ordering_then, ordering_reverse}
use Rattle.std.specs.Cmp.{IsTotalOrder}
use Rattle.std.proofs.lemmas.Cmp.{nat_list_cmp_total}
use Rattle.std.proofs.lemmas.List.{get_or-map, length-map}
use Rattle.rapid_model.specs.Process.{Process, identifier, bytes_cmp, process_cmp}
use Rattle.rapid_model.specs.Cut.{is_ascending}
use Rattle.rapid_model.specs.Configuration.{identifiers_ascend}
use Rattle.std.specs.List.{IsAllAdjacentAnswer, list_all, filter}
use Rattle.std.proofs.lemmas.Bool.{and_parts, and_from, and_left, and_right}
use Rattle.rapid_model.proofs.Logic.{less_is}
use Rattle.rapid_endpoint.proofs.Ascents.{all_later, is_lt_trans}

pub bytes_total : IsTotalOrder bytes_cmp
bytes_total = nat_list_cmp_total

-- neighbours in a longer list
later : {X : Type 0} (lt : X → X → Bool) (x : X) (xs : List X) (k : ℕ) (d : X) (b : Bool) → b ≡ lt (get_or (x ∷ xs) (suc k) d) (get_or (x ∷ xs) (suc k + 1) d) → b ≡ lt (get_or xs k d) (get_or xs (k + 1) d)
later lt x xs k d b h = h ∙ ap (λ i. lt (get_or xs k d) (get_or (x ∷ xs) i d)) (suc-add k 1)

-- if all pass, each does
pub each_passes : {X : Type 0} (t : X → Bool) (xs : List X) → list_all t xs ≡ true → (k : ℕ) (d : X) → k < length xs → t (get_or xs k d) ≡ true
each_passes t [] h k d l = absurd (omega (arith, l))
each_passes t (x ∷ xs) h zero d l = (and_parts (t x) (list_all t xs) h).0
each_passes t (x ∷ xs) h (suc k) d l = each_passes t xs (and_parts (t x) (list_all t xs) h).1 k d (omega (arith, l))

-- f says that each element passes lt with all later ones
pub ascends_by_neighbours : {X : Type 0} (lt : X → X → Bool) (f : List X → Bool) → ((x y z : X) → lt x y ≡ true → lt y z ≡ true → lt x z ≡ true) → f [] ≡ true → ((x : X) (xs : List X) → f (x ∷ xs) ≡ (list_all (lt x) xs && f xs)) → (xs : List X) (r : Bool) → IsAllAdjacentAnswer (λ x y b. b ≡ lt x y) xs r → r ≡ f xs
ascends_by_neighbours {X} lt f t none more xs true h = sym (rising xs (λ k d l. sym (h k d l)))
  where
    rising : (xs : List X) → ((k : ℕ) (d : X) → k + 1 < length xs → lt (get_or xs k d) (get_or xs (k + 1) d) ≡ true) → f xs ≡ true
    rising [] h = none
    rising (x ∷ []) h = more x [] ∙ none
    rising (x ∷ y ∷ ys) h =
        let r = rising (y ∷ ys) (λ k d l. sym (later lt x (y ∷ ys) k d true (sym (h (suc k) d (omega (arith, l)))))) in
        let p = and_parts (list_all (lt y) ys) (f ys) (sym (more y ys) ∙ r) in
        let here : lt x y ≡ true = h 0 x (omega arith) in
        more x (y ∷ ys) ∙ and_from (list_all (lt x) (y ∷ ys)) (f (y ∷ ys)) (and_from (lt x y) (list_all (lt x) ys) here (all_later lt t x y ys here p.0)) r
ascends_by_neighbours {X} lt f t none more xs false (k, l, h) = sym (falling xs k l h)
  where
    falling : (xs : List X) (k : ℕ) → k + 1 < length xs → ((d : X) → false ≡ lt (get_or xs k d) (get_or xs (k + 1) d)) → f xs ≡ false
    falling [] k l h = absurd (omega (arith, l))
    falling (x ∷ []) k l h = absurd (omega (arith, l))
    falling (x ∷ y ∷ ys) zero l h =
        more x (y ∷ ys) ∙ and_left (list_all (lt x) (y ∷ ys)) (f (y ∷ ys)) (and_left (lt x y) (list_all (lt x) ys) (sym (h x)))
    falling (x ∷ y ∷ ys) (suc k) l h =
        more x (y ∷ ys) ∙ and_right (list_all (lt x) (y ∷ ys)) (f (y ∷ ys)) (falling (y ∷ ys) k (omega (arith, l)) (λ d. later lt x (y ∷ ys) k d false (h d)))

-- if f says that each element is below all later ones, one is below a later one
pub later_less : {X : Type 0} (R : X → X → Ordering) (f : List X → Bool) → ((x : X) (xs : List X) → f (x ∷ xs) ≡ (list_all (λ y. is_lt (R x y)) xs && f xs)) → (xs : List X) → f xs ≡ true → (i j : ℕ) (d : X) → i < j → j < length xs → R (get_or xs i d) (get_or xs j d) ≡ Less
later_less R f more [] up i j d l m = absurd (omega (arith, m))
later_less R f more (x ∷ xs) up zero zero d l m = absurd (omega (arith, l))
later_less {X} R f more (x ∷ xs) up zero (suc j) d l m =
    less_is (R x (get_or xs j d)) (each_passes (λ y. is_lt (R x y)) xs (and_parts (list_all (λ y. is_lt (R x y)) xs) (f xs) (sym (more x xs) ∙ up)).0 j d (omega (arith, m)))
later_less R f more (x ∷ xs) up (suc i) zero d l m = absurd (omega (arith, l))
later_less R f more (x ∷ xs) up (suc i) (suc j) d l m =
    later_less R f more xs (and_parts (list_all (λ y. is_lt (R x y)) xs) (f xs) (sym (more x xs) ∙ up)).1 i j d (omega (arith, l)) (omega (arith, m))

-- what all pass, all that are kept pass
pub kept_all : {X : Type 0} (q t : X → Bool) (xs : List X) → list_all q xs ≡ true → list_all q (filter t xs) ≡ true
kept_all q t [] h = refl
kept_all q t (x ∷ xs) h =
    let p = and_parts (q x) (list_all q xs) h in
    elim (t x) as (λ b. list_all q (cond b (x ∷ filter t xs) (filter t xs)) ≡ true) [
      | true ↦ and_from (q x) (list_all q (filter t xs)) p.0 (kept_all q t xs p.1)
      | false ↦ kept_all q t xs p.1
    ]

-- f says that each element passes lt with all later ones: it does so of those that are kept
pub kept_ascends : {X : Type 0} (lt : X → X → Bool) (f : List X → Bool) → f [] ≡ true → ((x : X) (xs : List X) → f (x ∷ xs) ≡ (list_all (lt x) xs && f xs)) → (t : X → Bool) (xs : List X) → f xs ≡ true → f (filter t xs) ≡ true
kept_ascends lt f none more t [] h = none
kept_ascends lt f none more t (x ∷ xs) h =
    let p = and_parts (list_all (lt x) xs) (f xs) (sym (more x xs) ∙ h) in
    elim (t x) as (λ b. f (cond b (x ∷ filter t xs) (filter t xs)) ≡ true) [
      | true ↦ more x (filter t xs) ∙ and_from (list_all (lt x) (filter t xs)) (f (filter t xs)) (kept_all (lt x) t xs p.0) (kept_ascends lt f none more t xs p.1)
      | false ↦ kept_ascends lt f none more t xs p.1
    ]

-- first parts in order decide
pub cmp_take : (n : ℕ) (xs ys : List ℕ) → bytes_cmp (take n xs) (take n ys) ≡ Less → bytes_cmp xs ys ≡ Less
cmp_take zero xs ys e = cc
cmp_take (suc n) [] [] e = cc
cmp_take (suc n) [] (y ∷ ys) e = refl
cmp_take (suc n) (x ∷ xs) [] e = cc
cmp_take (suc n) (x ∷ xs) (y ∷ ys) e =
    elim (nat_cmp x y) as (λ o. ordering_then o (bytes_cmp (take n xs) (take n ys)) ≡ Less → ordering_then o (bytes_cmp xs ys) ≡ Less) [
      | Less ↦ λ h. refl
      | Equal ↦ λ h. cmp_take n xs ys h
      | Greater ↦ λ h. h
    ] e

-- what is below by identifier is below
pub below_by_identifier : (p q : Process) → bytes_cmp (identifier p) (identifier q) ≡ Less → process_cmp p q ≡ Less
below_by_identifier p q e = cmp_take 16 p q e

pub flipped : (x y : List ℕ) (o : Ordering) → bytes_cmp x y ≡ o → bytes_cmp y x ≡ ordering_reverse o
flipped x y o e = bytes_total.antisymm y x ∙ ap ordering_reverse e

-- what ascends by identifier ascends
pub members_ascend : (ps : List Process) → identifiers_ascend ps ≡ true → is_ascending ps ≡ true
members_ascend [] h = refl
members_ascend (p ∷ ps) h =
    let r = and_parts (list_all (λ q. is_lt (bytes_cmp (identifier p) (identifier q))) ps) (identifiers_ascend ps) h in
    and_from (list_all (λ q. is_lt (process_cmp p q)) ps) (is_ascending ps) (weaker ps r.0) (members_ascend ps r.1)
  where
    weaker : (qs : List Process) → list_all (λ q. is_lt (bytes_cmp (identifier p) (identifier q))) qs ≡ true → list_all (λ q. is_lt (process_cmp p q)) qs ≡ true
    weaker [] h = refl
    weaker (q ∷ qs) h =
        let r = and_parts (is_lt (bytes_cmp (identifier p) (identifier q))) (list_all (λ q. is_lt (bytes_cmp (identifier p) (identifier q))) qs) h in
        and_from (is_lt (process_cmp p q)) (list_all (λ q. is_lt (process_cmp p q)) qs) (ap is_lt (below_by_identifier p q (less_is (bytes_cmp (identifier p) (identifier q)) r.0))) (weaker qs r.1)

-- identifiers ascend as those that have them do
pub identifiers_ascend_alone : (ps : List Process) (r : Bool) → IsAllAdjacentAnswer (λ a b c. c ≡ is_lt (bytes_cmp a b)) (map identifier ps) r → r ≡ identifiers_ascend ps
identifiers_ascend_alone ps r h =
    ascends_by_neighbours (λ p q. is_lt (bytes_cmp (identifier p) (identifier q))) identifiers_ascend (λ x y z. is_lt_trans bytes_total (identifier x) (identifier y) (identifier z)) refl (λ _ _. refl) ps r (of_images r h)
  where
    elements : (k : ℕ) (d : Process) → k + 1 < length ps → is_lt (bytes_cmp (get_or (map identifier ps) k (identifier d)) (get_or (map identifier ps) (k + 1) (identifier d))) ≡ is_lt (bytes_cmp (identifier (get_or ps k d)) (identifier (get_or ps (k + 1) d)))
    elements k d l =
        ap (λ a. is_lt (bytes_cmp a (get_or (map identifier ps) (k + 1) (identifier d)))) (get_or-map identifier ps k d (identifier d) (omega (arith, l)))
        ∙ ap (λ b. is_lt (bytes_cmp (identifier (get_or ps k d)) b)) (get_or-map identifier ps (k + 1) d (identifier d) l)

    of_images : (r : Bool) → IsAllAdjacentAnswer (λ a b c. c ≡ is_lt (bytes_cmp a b)) (map identifier ps) r → IsAllAdjacentAnswer (λ p q c. c ≡ is_lt (bytes_cmp (identifier p) (identifier q))) ps r
    of_images true h = λ k d l.
        let n = length-map ps identifier in
        h k (identifier d) (omega (arith, l, n)) ∙ elements k d l
    of_images false (k, l, h) =
        let n = length-map ps identifier in
        let below : k + 1 < length ps = omega (arith, l, n) in
        (k, below, λ d. h (identifier d) ∙ elements k d below)
