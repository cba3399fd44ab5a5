-- What is found in lists.
use Rattle.std.proofs.Common.{◌≡◌, ℕ, zero, suc, ◌+◌, ◌≤◌, ◌<◌, Bool, true, false, cond, ◌&&◌, ◌||◌, List, [], ◌∷◌, filter, refl, sym, ap, ◌∙◌, inl, inr, arith, Option, Some, None, length, slice_get}
use Rattle.std.specs.Prelude.{All, filter_map}
use Rattle.std.specs.List.{list_all, find, range_with_len, cons_option, AllPairs}
use Rattle.std.proofs.lemmas.Bool.{and_parts, or_cases, true≢false, cases_eq}
use Rattle.std.proofs.lemmas.List.Elements.{All-nil, All-cons}
use Rattle.std.proofs.lemmas.List.Kept.{AllPairs-cons}
use Rattle.rapid_model.specs.Process.{Process, same_bytes, is_in}
use Rattle.rapid_model.proofs.Lists.{In}
use Rattle.rapid_model.proofs.Orders.{same_bytes_decides}

-- ---- members

-- ---- searches

pub find_from : {A : Type 0} (f : A → Bool) (xs : List A) (x : A) → In xs x → f x ≡ true → (y : A) × (find f xs ≡ Some y)
find_from f [] x i h = absurd i
find_from {A} f (y ∷ ys) x i h =
    elim (f y) as (λ b. f y ≡ b → (z : A) × (cond b (Some y) (find f ys) ≡ Some z)) [
      | true ↦ λ e. (y, refl)
      | false ↦ λ e. elim i [ inl same ↦ absurd (true≢false (sym h ∙ ap f (sym same) ∙ e)) | inr later ↦ find_from f ys x later h ]
    ] refl

pub all_of : {A : Type 0} (f : A → Bool) (xs : List A) → ((x : A) → In xs x → f x ≡ true) → list_all f xs ≡ true
all_of f [] h = refl
all_of f (y ∷ ys) h = ap (λ b. b && list_all f ys) (h y (inl refl)) ∙ all_of f ys (λ x i. h x (inr i))

pub in_filtered : {A : Type 0} (f : A → Bool) (xs : List A) (x : A) → In xs x → f x ≡ true → In (filter f xs) x
in_filtered f [] x i h = i
in_filtered f (y ∷ ys) x i h =
    elim (f y) as (λ b. f y ≡ b → In (cond b (y ∷ filter f ys) (filter f ys)) x) [
      | true ↦ λ e. elim i [ inl same ↦ inl same | inr later ↦ inr (in_filtered f ys x later h) ]
      | false ↦ λ e. elim i [ inl same ↦ absurd (true≢false (sym h ∙ ap f (sym same) ∙ e)) | inr later ↦ in_filtered f ys x later h ]
    ] refl

pub filtered_in : {A : Type 0} (f : A → Bool) (xs : List A) (x : A) → In (filter f xs) x → In xs x × (f x ≡ true)
filtered_in f [] x i = absurd i
filtered_in f (y ∷ ys) x i =
    elim (f y) as (λ b. f y ≡ b → In (cond b (y ∷ filter f ys) (filter f ys)) x → In (y ∷ ys) x × (f x ≡ true)) [
      | true ↦ λ e i. elim i [ inl same ↦ (inl same, ap f (sym same) ∙ e) | inr later ↦ let rest = filtered_in f ys x later in (inr rest.0, rest.1) ]
      | false ↦ λ e i. let rest = filtered_in f ys x i in (inr rest.0, rest.1)
    ] refl i

-- ---- what a list of numbers gives

pub filter_map_in : {A B : Type 0} (f : A → Option B) (xs : List A) (y : B) → In (filter_map f xs) y → (x : A) × In xs x × (f x ≡ Some y)
filter_map_in f [] y i = absurd i
filter_map_in {A} {B} f (z ∷ zs) y i =
    elim (f z) as (λ o. f z ≡ o → In (cons_option o (filter_map f zs)) y → (x : A) × In (z ∷ zs) x × (f x ≡ Some y)) [
      | Some b ↦ λ is i. elim i [
        | inl same ↦ (z, inl refl, is ∙ ap Some same)
        | inr later ↦ let rest = filter_map_in f zs y later in (rest.0, inr rest.1, rest.2)
      ]
      | None ↦ λ is i. let rest = filter_map_in f zs y i in (rest.0, inr rest.1, rest.2)
    ] refl i

pub range_in : (a n k : ℕ) → In (range_with_len a n) k → (a ≤ k) × (k < a + n)
range_in a zero k i = absurd i
range_in a (suc n) k (inl e) = (omega arith, omega arith)
range_in a (suc n) k (inr i) = let rest = range_in (a + 1) n k i in (omega (arith, rest.0), omega (arith, rest.1))

-- if each number gives something, the i-th that is given is that of the i-th number
pub given_by_number : {B : Type 0} (f : ℕ → Option B) (a n : ℕ) → ((k : ℕ) → a ≤ k → k < a + n → (y : B) × (f k ≡ Some y))
    → (length (filter_map f (range_with_len a n)) ≡ n) × ((i : ℕ) → i < n → slice_get (filter_map f (range_with_len a n)) i ≡ f (a + i))
given_by_number f a zero h = (refl, λ i l. absurd (omega arith))
given_by_number {B} f a (suc n) h =
    let first = h a (omega arith) (omega arith) in
    let rest = given_by_number f (a + 1) n (λ k l m. h k (omega arith) (omega arith)) in
    let ys : List B = filter_map f (range_with_len (a + 1) n) in
    let is : cons_option (f a) ys ≡ first.0 ∷ ys = ap (λ o. cons_option o ys) first.1 in
    let none : a ≡ a + 0 = omega arith in (
      ap (λ l. length l) is ∙ ap suc rest.0,
      λ i. elim i as (λ i. i < suc n → slice_get (cons_option (f a) ys) i ≡ f (a + i)) [
        | zero ↦ λ l. ap (λ (zs : List B). slice_get zs 0) is ∙ sym first.1 ∙ ap f none
        | suc i ↦ λ l. ap (λ (zs : List B). slice_get zs (suc i)) is ∙ rest.1 i (omega arith) ∙ ap f (let e : a + 1 + i ≡ a + suc i = omega arith in e)
      ],
    )

-- what numbers give stands by number
pub stands_by_number : {B : Type 0} (f : ℕ → Option (ℕ × B)) → ((k : ℕ) (x : ℕ × B) → f k ≡ Some x → x.0 ≡ k) → (a n : ℕ)
    → All (λ (x : ℕ × B). a ≤ x.0) (filter_map f (range_with_len a n)) × AllPairs (λ (x y : ℕ × B). x.0 < y.0) (filter_map f (range_with_len a n))
stands_by_number f own a zero = (All-nil _, λ i j d l m. absurd (omega arith))
stands_by_number {B} f own a (suc n) =
    let rest = stands_by_number f own (a + 1) n in
    elim (f a) as (λ o. f a ≡ o → All (λ (x : ℕ × B). a ≤ x.0) (cons_option o (filter_map f (range_with_len (a + 1) n))) × AllPairs (λ (x y : ℕ × B). x.0 < y.0) (cons_option o (filter_map f (range_with_len (a + 1) n)))) [
      | Some y ↦ λ is.
          let here = own a y is in (
            All-cons (λ (x : ℕ × B). a ≤ x.0) y _ (omega (arith, here)) (λ k d l. let h = rest.0 k d l in omega (arith, h)),
            AllPairs-cons (λ (x y : ℕ × B). x.0 < y.0) y _ (λ k d l. let h = rest.0 k d l in omega (arith, h, here)) rest.1,
          )
      | None ↦ λ is. ((λ k d l. let h = rest.0 k d l in omega (arith, h)), rest.1)
    ] refl
