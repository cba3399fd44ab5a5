-- Where the processes of a list are found, and how one more is noted.
use Rattle.std.proofs.Common.{◌≡◌, ◌⊎◌, ℕ, zero, suc, ◌<◌, true, false, true≢false, cond, List, [], ◌∷◌, ◌++◌, length, get_or, refl, sym, ap, subst, ◌∙◌, inl, inr, Option, Some, None, Contains, IfSome, IfNone, IsSome, is_some, arith, slice_get, position}
use Rattle.std.proofs.lemmas.List.Elements.{Contains-push, Contains-append_left}
use Rattle.std.proofs.lemmas.List.Folds.{list_any_at}
use Rattle.std.proofs.lemmas.Option.{same_Some, slice_get_within, slice_get-get_or, get_or_from_slice_get}
use Rattle.rapid_model.specs.Process.{Process, is_in, same_bytes}
use Rattle.rapid_model.proofs.Orders.{same_bytes_decides}
use Rattle.rapid_config.proofs.Places.{position_at, position_none}
use Rattle.rapid_roster.specs.Heads.{head_of}
use Rattle.rapid_roster.specs.Once.{StandOnce}
use Rattle.rapid_roster.specs.Indexed.{noted_for, IsIndexed}

-- ---- places

-- what is none is not some
unsome : (o : Option ℕ) → o ≡ None → IsSome o → ⊥
unsome None e h = true≢false (sym h)
unsome (Some x) e h = cc

-- what is not some is none
pub unnoted_is_none : (o : Option ℕ) → is_some o ≡ false → o ≡ None
unnoted_is_none None e = refl
unnoted_is_none (Some x) e = absurd (true≢false e)

-- what stands in a list with one more
get_push : {A : Type 0} (xs : List A) (i : ℕ) (x y : A) → slice_get (xs ++ x ∷ []) i ≡ Some y → (slice_get xs i ≡ Some y) ⊎ ((i ≡ length xs) × (y ≡ x))
get_push [] zero x y h = inr (refl, cc)
get_push [] (suc i) x y h = cc
get_push (z ∷ zs) zero x y h = inl h
get_push (z ∷ zs) (suc i) x y h = elim (get_push zs i x y h) [ inl r ↦ inl r | inr r ↦ inr (ap suc r.0, r.1) ]

-- one that is not there stands nowhere
pub no_place : (ps : List Process) (p : Process) (i : ℕ) → is_in ps p ≡ false → slice_get ps i ≡ Some p → ⊥
no_place ps p i none at =
    let here : same_bytes p (get_or ps i p) ≡ true = (same_bytes_decides p (get_or ps i p)).1 (sym (get_or_from_slice_get ps i p p at)) in
    true≢false (sym (list_any_at (same_bytes p) ps i p (slice_get_within ps i p at) here) ∙ none)

-- a process is at the place if it is the one that is read there
at_place : (ps : List Process) (p : Process) (i : ℕ) (d : Process) → i < length ps → same_bytes p (get_or ps i d) ≡ true → slice_get ps i ≡ Some p
at_place ps p i d l h = slice_get-get_or ps i d l ∙ ap Some (sym ((same_bytes_decides p (get_or ps i d)).0 h))

-- it is another
is_other : (ps : List Process) (p : Process) (i : ℕ) (d : Process) → i < length ps → (slice_get ps i ≡ Some p → ⊥) → same_bytes p (get_or ps i d) ≡ false
is_other ps p i d l never =
    elim (same_bytes p (get_or ps i d)) as (λ b. same_bytes p (get_or ps i d) ≡ b → b ≡ false) [
      | true ↦ λ h. absurd (never (at_place ps p i d l h))
      | false ↦ λ h. refl
    ] refl

-- one that stands nowhere has no position
nowhere : (ps : List Process) (p : Process) → ((i : ℕ) → slice_get ps i ≡ Some p → ⊥) → position (same_bytes p) ps ≡ None
nowhere ps p never = position_none (same_bytes p) ps (λ k d l. is_other ps p k d l (never k))

-- where a process stands, once, is its position
pub is_there : (ps : List Process) (p : Process) (i : ℕ) → ((k : ℕ) → slice_get ps k ≡ Some p → k ≡ i) → slice_get ps i ≡ Some p → position (same_bytes p) ps ≡ Some i
is_there ps p i once at =
    let within : i < length ps = slice_get_within ps i p at in
    position_at (same_bytes p) ps i p within
    (λ k below. is_other ps p k p (omega arith) (λ there. let same : k ≡ i = once k there in absurd (omega (arith, below, same))))
    ((same_bytes_decides p (get_or ps i p)).1 (sym (get_or_from_slice_get ps i p p at)))

-- ---- one more

-- one more stands there once, as all before it do
distinct_more : (ps : List Process) (p : Process) → is_in ps p ≡ false → StandOnce ps → StandOnce (ps ++ p ∷ [])
distinct_more ps p new distinct i j q h k = by (get_push ps i p q h) (get_push ps j p q k)
  where
    by : (slice_get ps i ≡ Some q) ⊎ ((i ≡ length ps) × (q ≡ p)) → (slice_get ps j ≡ Some q) ⊎ ((j ≡ length ps) × (q ≡ p)) → i ≡ j
    by (inl a) (inl b) = distinct i j q a b
    by (inl a) (inr b) = absurd (no_place ps p i new (a ∙ ap Some b.1))
    by (inr a) (inl b) = absurd (no_place ps p j new (b ∙ ap Some a.1))
    by (inr a) (inr b) = a.0 ∙ sym b.0

-- another has its identifier and endpoint: it is one of the others
pub other_more : (ps : List Process) (p : Process) (firsts : List (List ℕ × ℕ)) (others : List ℕ) → is_in ps p ≡ false → IsSome (noted_for firsts (head_of p)) → IsIndexed ps firsts others → IsIndexed (ps ++ p ∷ []) firsts (others ++ length ps ∷ [])
other_more ps p firsts others new noted was =
    record {
      distinct = distinct_more ps p new was.distinct;
      noted = λ i q h. elim (get_push ps i p q h) [ inl r ↦ was.noted i q r | inr r ↦ subst (λ x. IsSome (noted_for firsts (head_of x))) (sym r.1) noted ];
      found = λ i q h. by i q (get_push ps i p q h);
    }
  where
    more : (i : ℕ) (q : Process) → (noted_for firsts (head_of q) ≡ Some i) ⊎ Contains others i → (noted_for firsts (head_of q) ≡ Some i) ⊎ Contains (others ++ length ps ∷ []) i
    more i q (inl e) = inl e
    more i q (inr m) = inr (Contains-append_left others (length ps ∷ []) i m)

    by : (i : ℕ) (q : Process) → (slice_get ps i ≡ Some q) ⊎ ((i ≡ length ps) × (q ≡ p)) → (noted_for firsts (head_of q) ≡ Some i) ⊎ Contains (others ++ length ps ∷ []) i
    by i q (inl r) = more i q (was.found i q r)
    by i q (inr r) = inr (subst (λ n. Contains (others ++ length ps ∷ []) n) (sym r.0) (Contains-push others (length ps)))

-- nobody has its identifier and endpoint: it is the first
pub first_more : (ps : List Process) (p : Process) (old new : List (List ℕ × ℕ)) (others : List ℕ) → is_in ps p ≡ false → noted_for old (head_of p) ≡ None → ((head : List ℕ) → noted_for new head ≡ cond (same_bytes (head_of p) head) (Some (length ps)) (noted_for old head)) → IsIndexed ps old others → IsIndexed (ps ++ p ∷ []) new others
first_more ps p old new others fresh none writes was =
    record {
      distinct = distinct_more ps p fresh was.distinct;
      noted = λ i q h. elim (get_push ps i p q h) [
        | inl r ↦ subst IsSome (sym (stays q (was.noted i q r))) (was.noted i q r)
        | inr r ↦ subst IsSome (sym (own q r.1)) refl
      ];
      found = λ i q h. by i q (get_push ps i p q h);
    }
  where
    -- those that are noted have another identifier or endpoint
    stays : (q : Process) → IsSome (noted_for old (head_of q)) → noted_for new (head_of q) ≡ noted_for old (head_of q)
    stays q noted =
        writes (head_of q)
        ∙ elim (same_bytes (head_of p) (head_of q)) as (λ b. same_bytes (head_of p) (head_of q) ≡ b → cond b (Some (length ps)) (noted_for old (head_of q)) ≡ noted_for old (head_of q)) [
          | true ↦ λ e.
              let same : head_of p ≡ head_of q = (same_bytes_decides (head_of p) (head_of q)).0 e in
              absurd (unsome (noted_for old (head_of q)) (ap (noted_for old) (sym same) ∙ none) noted)
          | false ↦ λ e. refl
        ] refl

    own : (q : Process) → q ≡ p → noted_for new (head_of q) ≡ Some (length ps)
    own q same =
        let heads : same_bytes (head_of p) (head_of q) ≡ true = (same_bytes_decides (head_of p) (head_of q)).1 (ap head_of (sym same)) in
        writes (head_of q) ∙ ap (λ b. cond b (Some (length ps)) (noted_for old (head_of q))) heads

    by : (i : ℕ) (q : Process) → (slice_get ps i ≡ Some q) ⊎ ((i ≡ length ps) × (q ≡ p)) → (noted_for new (head_of q) ≡ Some i) ⊎ Contains others i
    by i q (inl r) = elim (was.found i q r) [ inl e ↦ inl (stays q (was.noted i q r) ∙ e) | inr m ↦ inr m ]
    by i q (inr r) = inl (own q r.1 ∙ ap Some (sym r.0))

-- ---- what is found

-- a process without a note stands nowhere
pub unnoted : (ps : List Process) (p : Process) (firsts : List (List ℕ × ℕ)) (others : List ℕ) → IsIndexed ps firsts others → noted_for firsts (head_of p) ≡ None → position (same_bytes p) ps ≡ None
unnoted ps p firsts others index none =
    nowhere ps p (λ i at. unsome (noted_for firsts (head_of p)) none (index.noted i p at))

-- nor does one that is neither at the place that is noted nor at one of the others
elsewhere : (ps : List Process) (p : Process) (firsts : List (List ℕ × ℕ)) (others : List ℕ) (first : ℕ) → IsIndexed ps firsts others → noted_for firsts (head_of p) ≡ Some first → (slice_get ps first ≡ Some p → ⊥) → ((i : ℕ) → Contains others i → slice_get ps i ≡ Some p → ⊥) → position (same_bytes p) ps ≡ None
elsewhere ps p firsts others first index noted not_first not_other = nowhere ps p (λ i at. by i at (index.found i p at))
  where
    by : (i : ℕ) → slice_get ps i ≡ Some p → (noted_for firsts (head_of p) ≡ Some i) ⊎ Contains others i → ⊥
    by i at (inl e) =
        let same : first ≡ i = same_Some first i (sym noted ∙ e) in
        not_first (subst (λ k. slice_get ps k ≡ Some p) (sym same) at)
    by i at (inr m) = not_other i m at

-- where one is found that is not at the place that is noted
pub among : (ps : List Process) (p : Process) (firsts : List (List ℕ × ℕ)) (others : List ℕ) (first : ℕ) (r : Option ℕ) → IsIndexed ps firsts others → noted_for firsts (head_of p) ≡ Some first → (slice_get ps first ≡ Some p → ⊥) → IfSome r (λ i. slice_get ps i ≡ Some p) → IfNone r ((i : ℕ) → Contains others i → slice_get ps i ≡ Some p → ⊥) → r ≡ position (same_bytes p) ps
among ps p firsts others first (Some i) index noted not_first found none = sym (is_there ps p i (λ k there. index.distinct k i p there found) found)
among ps p firsts others first None index noted not_first found none = sym (elsewhere ps p firsts others first index noted not_first none)
