-- The stable processes are a cut.
use Rattle.std.proofs.Common.{◌≡◌, ℕ, zero, suc, ◌+◌, ◌≤◌, ◌<◌, Bool, true, false, cond, not, ◌||◌, List, [], ◌∷◌, ◌++◌, length, filter, take, get_or, refl, sym, ap, subst, ◌∙◌, arith, Some, None, nat_lt, nat_le}
use Rattle.std.specs.Prelude.{All}
use Rattle.std.specs.List.{list_any}
use Rattle.std.proofs.lemmas.List.{append-nil}
use Rattle.std.proofs.lemmas.List.Elements.{filter_more}
use Rattle.std.proofs.lemmas.List.Kept.{IsStrictlySortedBy-filter}
use Rattle.rapid_model.specs.Process.{Process, process_cmp, is_in, same_bytes}
use Rattle.rapid_model.specs.Cut.{is_ascending}
use Rattle.rapid_model.specs.Ring.{Observers, AreObservers, IsObserved}
use Rattle.rapid_model.specs.Reports.{Reports, subjects, tally, reaches_low, is_stable, is_unstable, stable, unstable, cut_if}
use Rattle.rapid_model.specs.Reading.{cut_fault, TooMany, NotSorted}
use Rattle.rapid_model.proofs.InOrder.{ascends}
use Rattle.rapid_model.proofs.Orders.{same_bytes_decides}
use Rattle.rapid_config.specs.Faults.{Reports as Refuses}
use Rattle.rapid_config.specs.declared.error.ConfigError.{ConfigError}
use Rattle.rapid_config.specs.declared.error.ConfigError.TheVariants.{BadParams, Truncated, Trailing, BadMagic, NotSorted as Unsorted, EndpointTwice, TooMany as Many, EmptyCut as Empty, HeightFull, BadTags, OutOfMemory}
use Rattle.rapid_cut.specs.Closing.{active}
use Rattle.rapid_cut.specs.Limits.{IsWithinLimits, IsDetecting}
use Rattle.rapid_cut.proofs.OnePass.{low_before}
use Rattle.rapid_cut.proofs.Joiners.{sorted_subjects}
use Rattle.std.proofs.lemmas.Bool.{and_parts}

-- one process more, which is listed if it passes
pub passes_more : (p : Process → Bool) (xs : List Process) (i : ℕ) (x : Process) (b : Bool) (found more : List Process) → i < length xs → x ≡ get_or xs i x → b ≡ p x → more ≡ cond b (found ++ x ∷ []) found → found ≡ filter p (take i xs)
    → more ≡ filter p (take (i + 1) xs)
passes_more p xs i x b found more below at passes m h =
    m ∙ apart found x b ∙ ap (λ ys. ys ++ cond b (x ∷ []) []) h ∙ ap (λ c. filter p (take i xs) ++ cond c (x ∷ []) []) passes
    ∙ ap (λ y. filter p (take i xs) ++ cond (p y) (y ∷ []) []) at ∙ sym (filter_more p xs i x below)
  where
    apart : (ys : List Process) (y : Process) (c : Bool) → cond c (ys ++ y ∷ []) ys ≡ ys ++ cond c (y ∷ []) []
    apart ys y true = refl
    apart ys y false = sym (append-nil ys)

only_memory : (e : ConfigError) → Refuses None e → e ≡ OutOfMemory
only_memory BadParams h = cc
only_memory Truncated h = cc
only_memory Trailing h = cc
only_memory BadMagic h = cc
only_memory Unsorted h = cc
only_memory EndpointTwice h = cc
only_memory Many h = cc
only_memory Empty h = cc
only_memory HeightFull h = absurd h
only_memory BadTags h = cc
only_memory OutOfMemory h = refl

in_split : (p : Process → Bool) (xs : List Process) → length (filter p xs) + length (filter (λ x. not (p x)) xs) ≡ length xs
in_split p [] = refl
in_split p (x ∷ xs) =
    let rest = in_split p xs in
    elim (p x) as (λ b. length (cond b (x ∷ filter p xs) (filter p xs)) + length (cond (not b) (x ∷ filter (λ x. not (p x)) xs) (filter (λ x. not (p x)) xs)) ≡ suc (length xs)) [
      | true ↦ omega (arith, rest)
      | false ↦ omega (arith, rest)
    ]

fewer : (p : Process → Bool) (xs : List Process) → length (filter p xs) ≤ length xs
fewer p xs = let e = in_split p xs in omega (arith, e)

-- what each that passes has, all of a filter have
all_filter : (P : Process → Type 0) (p : Process → Bool) (xs : List Process) → ((x : Process) → is_in xs x ≡ true → p x ≡ true → P x) → All P (filter p xs)
all_filter P p [] h = λ k d l. absurd (omega (arith, l))
all_filter P p (x ∷ xs) h =
    let rest = all_filter P p xs (λ y i. h y (right (same_bytes y x) (is_in xs y) i)) in
    elim (p x) as (λ b. p x ≡ b → All P (cond b (x ∷ filter p xs) (filter p xs))) [
      | true ↦ λ e. first x (filter p xs) (h x (left (same_bytes x x) (is_in xs x) ((same_bytes_decides x x).1 refl)) e) rest
      | false ↦ λ e. rest
    ] refl
  where
    left : (a b : Bool) → a ≡ true → (a || b) ≡ true
    left true b h = refl
    left false b h = cc

    right : (a b : Bool) → b ≡ true → (a || b) ≡ true
    right true b h = refl
    right false b h = h

    first : (y : Process) (ys : List Process) → P y → All P ys → All P (y ∷ ys)
    first y ys here rest zero d l = here
    first y ys here rest (suc k) d l = rest k d (omega (arith, l))

few_members : (t : Observers) (r : Reports) → AreObservers t → IsWithinLimits t r → length (filter t.is_member (subjects r)) ≤ 1024
few_members t r obs w =
    obs.few (filter t.is_member (subjects r)) (ascends (filter t.is_member (subjects r)) (IsStrictlySortedBy-filter process_cmp t.is_member (subjects r) (sorted_subjects r)))
    (all_filter (λ s. (t.is_member s ≡ true) × IsObserved t s) t.is_member (subjects r) (λ s i m. (m, w.observed s i)))

few_subjects : (t : Observers) (r : Reports) → AreObservers t → IsWithinLimits t r → length (subjects r) ≤ 1536
few_subjects t r obs w = let a = few_members t r obs w in let b = in_split t.is_member (subjects r) in omega (arith, a, b, w.joiners)

no_fault : (ps : List Process) → (length ps ≡ 0 → ⊥) → length ps ≤ 1536 → is_ascending ps ≡ true → cut_fault ps ≡ None
no_fault [] some few up = absurd (some refl)
no_fault (p ∷ ps) some few up =
    ap (λ b. cond b (Some TooMany) (cond (not (is_ascending (p ∷ ps))) (Some NotSorted) None)) (below (length (p ∷ ps)) few) ∙ ap (λ b. cond (not b) (Some NotSorted) None) up
  where
    below : (n : ℕ) → n ≤ 1536 → nat_lt 1536 n ≡ false
    below n h = grind arith

-- a cut of a filter of the subjects that is not empty is refused only if out of memory
pub refused_for_memory : (t : Observers) (r : Reports) (p : Process → Bool) (found : List Process) (e : ConfigError) → AreObservers t → IsWithinLimits t r → found ≡ filter p (subjects r) → (length found ≡ 0 → ⊥) → Refuses (cut_fault found) e → e ≡ OutOfMemory
refused_for_memory t r p found e obs w is some h =
    let few : length found ≤ 1536 = (let a = few_subjects t r obs w in let b = fewer p (subjects r) in let c = ap length is in omega (arith, a, b, c)) in
    let up : is_ascending found ≡ true = ap is_ascending is ∙ ascends (filter p (subjects r)) (IsStrictlySortedBy-filter process_cmp p (subjects r) (sorted_subjects r)) in
    only_memory e (subst (λ f. Refuses f e) (no_fault found some few up) h)

-- ---- only processes with L direct reports are stable or unstable

filter_within : (p q : Process → Bool) (xs : List Process) → ((x : Process) → p x ≡ true → q x ≡ true) → filter p (filter q xs) ≡ filter p xs
filter_within p q [] h = refl
filter_within p q (x ∷ xs) h =
    elim (q x) as (λ b. q x ≡ b → filter p (cond b (x ∷ filter q xs) (filter q xs)) ≡ filter p (x ∷ xs)) [
      | true ↦ λ e. ap (λ l. cond (p x) (x ∷ l) l) (filter_within p q xs h)
      | false ↦ λ e. filter_within p q xs h ∙ sym (ap (λ b. cond b (x ∷ filter p xs) (filter p xs)) (fails (p x) (q x) (h x) e))
    ] refl
  where
    fails : (a b : Bool) → (a ≡ true → b ≡ true) → b ≡ false → a ≡ false
    fails true b h e = sym (h refl) ∙ e
    fails false b h e = refl

pub stable_of : (t : Observers) (direct all : Reports) (ss : List Process) → IsDetecting t direct all → ss ≡ active t direct → filter (is_stable t all) ss ≡ stable t direct
stable_of t direct all ss d e =
    ap (filter (is_stable t all)) e
    ∙ filter_within (is_stable t all) (λ s. reaches_low t direct (Some s)) (subjects direct) (λ s h.
    low_before t direct (Some s) d.rules (subst (λ r. reaches_low t r (Some s) ≡ true) d.closure (at_least t.params.l t.params.h (tally t all s) d.rules.params.below h)))
    ∙ ap (λ r. filter (is_stable t r) (subjects direct)) d.closure
  where
    at_least : (l h n : ℕ) → l ≤ h → nat_le h n ≡ true → nat_le l n ≡ true
    at_least l h n b e = grind (arith, b, e)

pub unstable_of : (t : Observers) (direct all : Reports) (ss : List Process) → IsDetecting t direct all → ss ≡ active t direct → filter (is_unstable t all) ss ≡ unstable t direct
unstable_of t direct all ss d e =
    ap (filter (is_unstable t all)) e
    ∙ filter_within (is_unstable t all) (λ s. reaches_low t direct (Some s)) (subjects direct) (λ s h.
    low_before t direct (Some s) d.rules (subst (λ r. reaches_low t r (Some s) ≡ true) d.closure (and_parts (nat_le t.params.l (tally t all s)) (nat_lt (tally t all s) t.params.h) h).0))
    ∙ ap (λ r. filter (is_unstable t r) (subjects direct)) d.closure

-- ---- whether there is a cut

-- one passes if a filter keeps some
pub some_kept : (p : Process → Bool) (xs : List Process) → list_any p xs ≡ true → length (filter p xs) ≡ 0 → ⊥
some_kept p [] h = cc
some_kept p (x ∷ xs) h =
    elim (p x) as (λ b. (b || list_any p xs) ≡ true → length (cond b (x ∷ filter p xs) (filter p xs)) ≡ 0 → ⊥) [
      | true ↦ λ _ e. absurd (omega (arith, e))
      | false ↦ λ h e. some_kept p xs h e
    ] h

pub none_kept : (p : Process → Bool) (xs : List Process) → list_any p xs ≡ false → length (filter p xs) ≡ 0
none_kept p [] h = refl
none_kept p (x ∷ xs) h =
    elim (p x) as (λ b. (b || list_any p xs) ≡ false → length (cond b (x ∷ filter p xs) (filter p xs)) ≡ 0) [
      | true ↦ λ e. cc
      | false ↦ λ e. none_kept p xs e
    ] h

pub no_stable : (ss us : List Process) → length ss ≡ 0 → None ≡ cut_if ss us
no_stable [] us h = refl
no_stable (s ∷ ss) us h = absurd (omega (arith, h))

pub some_unstable : (ss us : List Process) → (length us ≡ 0 → ⊥) → None ≡ cut_if ss us
some_unstable [] us h = refl
some_unstable (s ∷ ss) [] h = absurd (h refl)
some_unstable (s ∷ ss) (u ∷ us) h = refl

pub all_stable : (ss us : List Process) → (length ss ≡ 0 → ⊥) → length us ≡ 0 → Some ss ≡ cut_if ss us
all_stable [] us h k = absurd (h refl)
all_stable (s ∷ ss) [] h k = refl
all_stable (s ∷ ss) (u ∷ us) h k = absurd (omega (arith, k))
