-- Where a process stands among members that ascend by identifier.
use Rattle.std.proofs.Common.{◌≡◌, ℕ, zero, suc, ◌+◌, ◌<◌, Bool, true, false, not, ◌||◌, cond, List, [], ◌∷◌, map, length, get_or, refl, sym, ap, subst, ◌∙◌, inl, inr, Some, None, Result, position, arith}
use Rattle.std.specs.Prelude.{nat_lt, is_some}
use Rattle.std.specs.List.{list_any, position_or_len}
use Rattle.std.specs.List.Sorted.{IsBinarySearchResult, IsNonDecreasingBy, IsSearchInRange}
use Rattle.std.specs.declared.cmp.Ordering.{Ordering}
use Rattle.std.specs.declared.cmp.Ordering.TheVariants.{Less, Equal, Greater}
use Rattle.std.specs.Ordering.{is_lt, is_eq, ordering_index, ordering_reverse}
use Rattle.std.specs.Cmp.{tied_itself, alike_right}
use Rattle.std.specs.Prelude.{Ok, Err}
use Rattle.std.proofs.lemmas.Bool.{lt-ltb, le-ltb, cases_order, cases_eq, cases_lt}
use Rattle.std.proofs.lemmas.Bool.Decides.{nat_tests}
use Rattle.std.proofs.lemmas.List.{length-map, get_or_default, get_or-map}
use Rattle.std.proofs.lemmas.List.Sums.{position_or_len_is}
use Rattle.std.proofs.lemmas.List.Sorted.{searchable_from_sorted}
use Rattle.rapid_model.specs.Process.{Process, identifier, bytes_cmp, process_cmp, same_bytes, is_in}
use Rattle.rapid_model.specs.Cut.{is_ascending}
use Rattle.rapid_model.specs.Configuration.{identifiers_ascend}
use Rattle.rapid_model.proofs.Orders.{same_bytes_decides}
use Rattle.rapid_config.proofs.Ascending.{bytes_total, later_less, flipped}

-- the identifier of q against that of p
abbrev pub by_identifier : Process → Process → Ordering
by_identifier p q = bytes_cmp (identifier q) (identifier p)

-- processes of other identifiers are others
others : (p q : Process) (o : Ordering) → by_identifier p q ≡ o → is_eq o ≡ false → same_bytes p q ≡ false
others p q o e n =
    elim (same_bytes p q) as (λ b. same_bytes p q ≡ b → b ≡ false) [
      | true ↦ λ t.
          let same : p ≡ q = (same_bytes_decides p q).0 t in
          let tied : by_identifier p q ≡ Equal = subst (λ x. by_identifier p x ≡ Equal) same (tied_itself bytes_total (identifier p)) in
          ap is_eq (sym tied ∙ e) ∙ n
      | false ↦ λ t. refl
    ] refl

-- the place of the first that passes
pub position_at : (t : Process → Bool) (ps : List Process) (i : ℕ) (d : Process) → i < length ps → ((k : ℕ) → k < i → t (get_or ps k d) ≡ false) → t (get_or ps i d) ≡ true → position t ps ≡ Some i
position_at t ps i d l before here =
    let e : position_or_len t ps ≡ i = position_or_len_is t ps i d (omega (arith, l)) before (λ _. here) in
    ap (λ b. cond b (Some (position_or_len t ps)) None) (lt-ltb (position_or_len t ps) (length ps) (omega (arith, l, e))) ∙ ap Some e

-- none passes
pub position_none : (t : Process → Bool) (ps : List Process) → ((k : ℕ) (d : Process) → k < length ps → t (get_or ps k d) ≡ false) → position t ps ≡ None
position_none t ps h =
    let e : position_or_len t ps ≡ length ps = position_or_len_is t ps (length ps) [] (omega arith) (λ k l. h k [] l) (λ l. absurd (omega (arith, l))) in
    ap (λ b. cond b (Some (position_or_len t ps)) None) (le-ltb (position_or_len t ps) (length ps) (omega (arith, e)))

-- members before and after the one of this identifier have others
apart : (ps : List Process) (p : Process) → identifiers_ascend ps ≡ true → (i k : ℕ) (d : Process) → i < length ps → k < length ps → by_identifier p (get_or ps i d) ≡ Equal → (k ≡ i → ⊥) → same_bytes p (get_or ps k d) ≡ false
apart ps p up i k d li lk e ne =
    elim (cases_order k i) [
      | inl same ↦ absurd (ne same)
      | inr (inl below) ↦ others p (get_or ps k d) Less (before below) refl
      | inr (inr above) ↦ others p (get_or ps k d) Greater (after above) refl
    ]
  where
    less : (a b : ℕ) → a < b → b < length ps → bytes_cmp (identifier (get_or ps a d)) (identifier (get_or ps b d)) ≡ Less
    less a b l m = later_less (λ x y. bytes_cmp (identifier x) (identifier y)) identifiers_ascend (λ _ _. refl) ps up a b d l m

    before : k < i → by_identifier p (get_or ps k d) ≡ Less
    before l = sym (alike_right bytes_total (identifier (get_or ps i d)) (identifier p) (identifier (get_or ps k d)) e) ∙ less k i l li

    after : i < k → by_identifier p (get_or ps k d) ≡ Greater
    after l =
        sym (alike_right bytes_total (identifier (get_or ps i d)) (identifier p) (identifier (get_or ps k d)) e)
        ∙ bytes_total.antisymm (identifier (get_or ps k d)) (identifier (get_or ps i d)) ∙ ap ordering_reverse (less i k l lk)

-- the answers of a search by identifier rise
pub rising : (ps : List Process) (p : Process) → identifiers_ascend ps ≡ true → IsNonDecreasingBy (λ y. ordering_index (by_identifier p y)) ps
rising ps p up =
    searchable_from_sorted bytes_total identifier ps (identifier p)
    (λ k d z l. ap is_lt (bytes_total.antisymm (identifier (get_or ps (k + 1) d)) (identifier (get_or ps k d))
    ∙ ap ordering_reverse (later_less (λ x y. bytes_cmp (identifier x) (identifier y)) identifiers_ascend (λ _ _. refl) ps up k (k + 1) d (omega arith) l)))

-- What a search finds among what f makes of the elements, and by f among the elements, is the same.
pub found_in_elements : {X Y : Type 0} (f : X → Y) (ord : Y → Ordering) (xs : List X) (r : Result ℕ ℕ) → IsSearchInRange r (length xs) → IsBinarySearchResult ord (map f xs) r → IsBinarySearchResult (λ x. ord (f x)) xs r
found_in_elements f ord xs (Ok i) l h = λ d. subst (λ y. ord y ≡ Equal) (get_or-map f xs i d (f d) l) (h (f d))
found_in_elements f ord [] (Err i) l h = λ rises. (λ k d z m. absurd (omega (arith, l, m)), λ k d m n. absurd (omega (arith, n)))
found_in_elements f ord (x ∷ xs) (Err i) l h = λ rises.
    let size : length (map f (x ∷ xs)) ≡ length (x ∷ xs) = length-map (x ∷ xs) f in
    let parted = h (λ j k d m n. rw (get_or-map f (x ∷ xs) j x d (omega (arith, m, n, size)), get_or-map f (x ∷ xs) k x d (omega (arith, n, size))) (rises j k x m (omega (arith, n, size)))) in (
      λ k d z m. subst (λ y. ord y ≡ Less) (get_or-map f (x ∷ xs) k d (f d) (omega (arith, m, l))) (parted.0 k (f d) z m),
      λ k d m n. subst (λ y. ord y ≡ Greater) (get_or-map f (x ∷ xs) k d (f d) n) (parted.1 k (f d) m (omega (arith, n, size))),
    )

pub found_in_images : {X Y : Type 0} (f : X → Y) (ord : Y → Ordering) (xs : List X) (r : Result ℕ ℕ) → IsSearchInRange r (length xs) → IsBinarySearchResult (λ x. ord (f x)) xs r → IsBinarySearchResult ord (map f xs) r
found_in_images f ord [] (Ok i) l h = absurd (omega (arith, l))
found_in_images f ord (x ∷ xs) (Ok i) l h = λ d. subst (λ y. ord y ≡ Equal) (sym (get_or-map f (x ∷ xs) i x d l)) (h x)
found_in_images f ord [] (Err i) l h = λ rises. (λ k d z m. absurd (omega (arith, l, m)), λ k d m n. absurd (omega (arith, n)))
found_in_images f ord (x ∷ xs) (Err i) l h = λ rises.
    let size : length (map f (x ∷ xs)) ≡ length (x ∷ xs) = length-map (x ∷ xs) f in
    let parted = h (λ j k d m n. rw (← get_or-map f (x ∷ xs) j d (f d) (omega (arith, m, n)), ← get_or-map f (x ∷ xs) k d (f d) n) (rises j k (f d) m (omega (arith, n, size)))) in (
      λ k d z m. subst (λ y. ord y ≡ Less) (sym (get_or-map f (x ∷ xs) k x d (omega (arith, m, l)))) (parted.0 k x z m),
      λ k d m n. subst (λ y. ord y ≡ Greater) (sym (get_or-map f (x ∷ xs) k x d (omega (arith, n, size)))) (parted.1 k x m (omega (arith, n, size))),
    )

-- a search among the identifiers of processes is one among the processes
pub searched : (ids : List (List ℕ)) (ps : List Process) (p : Process) (x : List ℕ) (r : Result ℕ ℕ) → ids ≡ map identifier ps → x ≡ identifier p → IsSearchInRange r (length ids) → IsBinarySearchResult (λ y. bytes_cmp y x) ids r
    → IsBinarySearchResult (by_identifier p) ps r
searched ids ps p x r e f within h =
    found_in_elements identifier (λ y. bytes_cmp y (identifier p)) ps r (subst (λ n. IsSearchInRange r n) (ap (λ (is : List (List ℕ)). length is) e ∙ length-map ps identifier) within)
    (subst (λ (is : List (List ℕ)). IsBinarySearchResult (λ y. bytes_cmp y (identifier p)) is r) e (subst (λ (y : List ℕ). IsBinarySearchResult (λ z. bytes_cmp z y) ids r) f h))

-- a search by identifier that finds the process
pub found_at : (ps : List Process) (p : Process) (i : ℕ) → identifiers_ascend ps ≡ true → i < length ps → IsBinarySearchResult (by_identifier p) ps (Ok i) → same_bytes p (get_or ps i p) ≡ true → position (same_bytes p) ps ≡ Some i
found_at ps p i up l h t = position_at (same_bytes p) ps i p l (λ k m. apart ps p up i k p l (omega (arith, l, m)) (h p) (λ e. omega (arith, e, m))) t

-- a search by identifier that finds another process
pub found_other : (ps : List Process) (p : Process) (i : ℕ) → identifiers_ascend ps ≡ true → i < length ps → IsBinarySearchResult (by_identifier p) ps (Ok i) → same_bytes p (get_or ps i p) ≡ false → position (same_bytes p) ps ≡ None
found_other ps p i up l h t =
    position_none (same_bytes p) ps (λ k d m.
    elim (cases_eq k i) [
      | inl e ↦ subst (λ x. same_bytes p x ≡ false) (get_or_default ps i p d l ∙ ap (λ j. get_or ps j d) (sym e)) t
      | inr ne ↦ apart ps p up i k d l m (h d) ne
    ])

-- a search by identifier that finds none
pub found_none : (ps : List Process) (p : Process) (i : ℕ) → identifiers_ascend ps ≡ true → IsBinarySearchResult (by_identifier p) ps (Err i) → position (same_bytes p) ps ≡ None
found_none ps p i up h =
    let parted = h (rising ps p up) in
    position_none (same_bytes p) ps (λ k d m.
    elim (cases_lt k i) [
      | inl below ↦ others p (get_or ps k d) Less (parted.0 k d (omega arith) below) refl
      | inr above ↦ others p (get_or ps k d) Greater (parted.1 k d above m) refl
    ])

-- among these is exactly what has a place
pub in_by_place : (t : Process → Bool) (ps : List Process) → is_some (position t ps) ≡ list_any t ps
in_by_place t ps = some_cond (nat_lt (position_or_len t ps) (length ps)) (position_or_len t ps) ∙ first_within t ps
  where
    some_cond : (b : Bool) (i : ℕ) → is_some (cond b (Some i) None) ≡ b
    some_cond true i = refl
    some_cond false i = refl

    one_less : (a b : ℕ) → nat_lt (1 + a) (suc b) ≡ nat_lt a b
    one_less a b = grind (arith, nat_tests)

    first_within : (t : Process → Bool) (ps : List Process) → nat_lt (position_or_len t ps) (length ps) ≡ list_any t ps
    first_within t [] = refl
    first_within t (p ∷ ps) =
        elim (t p) as (λ b. nat_lt (cond (not b) (1 + position_or_len t ps) 0) (length (p ∷ ps)) ≡ (b || list_any t ps)) [
          | true ↦ lt-ltb 0 (suc (length ps)) (omega arith)
          | false ↦ one_less (position_or_len t ps) (length ps) ∙ first_within t ps
        ]

-- one that passes
pub any_at : (t : Process → Bool) (ps : List Process) (i : ℕ) (d : Process) → i < length ps → t (get_or ps i d) ≡ true → list_any t ps ≡ true
any_at t [] i d l h = absurd (omega (arith, l))
any_at t (p ∷ ps) zero d l h = ap (λ b. b || list_any t ps) h
any_at t (p ∷ ps) (suc i) d l h = ap (λ b. t p || b) (any_at t ps i d (omega (arith, l)) h) ∙ always (t p)
  where
    always : (a : Bool) → (a || true) ≡ true
    always true = refl
    always false = refl

-- none that passes
pub any_none : (t : Process → Bool) (ps : List Process) → ((k : ℕ) (d : Process) → k < length ps → t (get_or ps k d) ≡ false) → list_any t ps ≡ false
any_none t [] h = refl
any_none t (p ∷ ps) h = ap (λ b. b || list_any t ps) (h 0 p (omega arith)) ∙ any_none t ps (λ k d l. h (suc k) d (omega (arith, l)))

-- a search among processes that ascend
pub search_finds : (ps : List Process) (p : Process) (i : ℕ) → i < length ps → IsBinarySearchResult (λ q. process_cmp q p) ps (Ok i) → is_in ps p ≡ true
search_finds ps p i l h = any_at (same_bytes p) ps i p l (ap is_eq (flipped (get_or ps i p) p Equal (h p)))

pub search_misses : (ps : List Process) (p : Process) (i : ℕ) → is_ascending ps ≡ true → IsBinarySearchResult (λ q. process_cmp q p) ps (Err i) → is_in ps p ≡ false
search_misses ps p i up h =
    let parted = h (searchable_from_sorted bytes_total (λ q. q) ps p
    (λ k d z l. ap is_lt (flipped (get_or ps k d) (get_or ps (k + 1) d) Less (later_less process_cmp is_ascending (λ _ _. refl) ps up k (k + 1) d (omega arith) l)))) in
    any_none (same_bytes p) ps (λ k d m.
    elim (cases_lt k i) [
      | inl below ↦ ap is_eq (flipped (get_or ps k d) p Less (parted.0 k d (omega arith) below))
      | inr above ↦ ap is_eq (flipped (get_or ps k d) p Greater (parted.1 k d above m))
    ])
