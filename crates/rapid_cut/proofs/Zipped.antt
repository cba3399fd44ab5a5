-- Masks that stand beside their processes.
use Rattle.std.proofs.Common.{◌≡◌, ◌<◌, ℕ, zero, suc, Bool, true, false, cond, ◌||◌, List, [], ◌∷◌, ◌++◌, length, take, set, get_or, slice_get, zip, Option, Some, None, refl, sym, ap, ◌∙◌, arith}
use Rattle.rapid_model.specs.Process.{Process, same_bytes, is_in}
use Rattle.rapid_model.proofs.Orders.{same_bytes_decides}
use Rattle.rapid_cut.specs.declared.mask.Masks.{Masks}
use Rattle.rapid_cut.specs.Listed.{masks_at, StandsAt, PutsMasks}
use Rattle.rapid_cut.proofs.Listed.{set_from}
use Rattle.rapid_roster.specs.Once.{StandOnce}

one_less : {m n : ℕ} → suc m ≡ suc n → m ≡ n
one_less e = omega (arith, e)

-- the rest stand there once too
rest_once : (p : Process) (ps : List Process) → StandOnce (p ∷ ps) → StandOnce ps
rest_once p ps once i j q h k = one_less (once (suc i) (suc j) q h k)

-- the first is none of the rest
first_apart : (p : Process) (ps : List Process) (s : Process) (j : ℕ) → StandOnce (p ∷ ps) → slice_get ps j ≡ Some s → same_bytes s p ≡ false
first_apart p ps s j once at =
    elim (same_bytes s p) as (λ b. same_bytes s p ≡ b → b ≡ false) [
      | true ↦ λ e. (let wrong : 0 ≡ suc j = once 0 (suc j) s (ap Some (sym ((same_bytes_decides s p).0 e))) at in absurd (omega (arith, wrong)))
      | false ↦ λ e. refl
    ] refl

within : (ps : List Process) (ms : List Masks) (i : ℕ) (s : Process) → length ms ≡ length ps → slice_get ps i ≡ Some s → i < length (zip ps ms)
within [] ms i s long at = cc
within (p ∷ ps) [] i s long at = absurd (omega (arith, long))
within (p ∷ ps) (m ∷ ms) zero s long at = omega arith
within (p ∷ ps) (m ∷ ms) (suc i) s long at = let rest : i < length (zip ps ms) = within ps ms i s (one_less long) at in omega (arith, rest)

own : (ps : List Process) (ms : List Masks) (i : ℕ) (s : Process) (d : Process × Masks) → length ms ≡ length ps → slice_get ps i ≡ Some s → (get_or (zip ps ms) i d).0 ≡ s
own [] ms i s d long at = cc
own (p ∷ ps) [] i s d long at = absurd (omega (arith, long))
own (p ∷ ps) (m ∷ ms) zero s d long at = cc
own (p ∷ ps) (m ∷ ms) (suc i) s d long at = own ps ms i s d (one_less long) at

none_before : (ps : List Process) (ms : List Masks) (i : ℕ) (s : Process) → length ms ≡ length ps → StandOnce ps → slice_get ps i ≡ Some s → masks_at (take i (zip ps ms)) s ≡ None
none_before [] ms i s long once at = cc
none_before (p ∷ ps) [] i s long once at = absurd (omega (arith, long))
none_before (p ∷ ps) (m ∷ ms) zero s long once at = refl
none_before (p ∷ ps) (m ∷ ms) (suc i) s long once at =
    ap (λ b. cond b (Some m) (masks_at (take i (zip ps ms)) s)) (first_apart p ps s i once at) ∙ none_before ps ms i s (one_less long) (rest_once p ps once) at

-- a process stands at the place of its masks
pub stands : (ps : List Process) (ms : List Masks) (i : ℕ) (s : Process) → length ms ≡ length ps → StandOnce ps → slice_get ps i ≡ Some s → StandsAt (zip ps ms) s i
stands ps ms i s long once at =
    record {
      within = within ps ms i s long at;
      own = λ d. own ps ms i s d long at;
      first = none_before ps ms i s long once at;
    }

-- one that is not there has none
pub nobody : (ps : List Process) (ms : List Masks) (s : Process) → is_in ps s ≡ false → masks_at (zip ps ms) s ≡ None
nobody [] ms s h = refl
nobody (p ∷ ps) [] s h = refl
nobody (p ∷ ps) (m ∷ ms) s h =
    let apart = neither (same_bytes s p) (is_in ps s) h in
    ap (λ b. cond b (Some m) (masks_at (zip ps ms) s)) apart.0 ∙ nobody ps ms s apart.1
  where
    neither : (a b : Bool) → (a || b) ≡ false → (a ≡ false) × (b ≡ false)
    neither true b e = cc
    neither false b e = (refl, e)

-- one that has none is not there
pub not_in : (ps : List Process) (ms : List Masks) (s : Process) → length ms ≡ length ps → masks_at (zip ps ms) s ≡ None → is_in ps s ≡ false
not_in [] ms s long none = refl
not_in (p ∷ ps) [] s long none = absurd (omega (arith, long))
not_in (p ∷ ps) (m ∷ ms) s long none =
    let apart = skipped (same_bytes s p) (masks_at (zip ps ms) s) none in
    ap (λ b. b || is_in ps s) apart.0 ∙ not_in ps ms s (one_less long) apart.1
  where
    skipped : (b : Bool) (o : Option Masks) → cond b (Some m) o ≡ None → (b ≡ false) × (o ≡ None)
    skipped true o h = cc
    skipped false o h = (refl, h)

-- the masks at a place
pub masks_there : (ps : List Process) (ms : List Masks) (i : ℕ) (d : Process × Masks) (m : Masks) → length ms ≡ length ps → i < length ps → (get_or (zip ps ms) i d).1 ≡ get_or ms i m
masks_there [] ms i d m long l = absurd (omega (arith, l))
masks_there (p ∷ ps) [] i d m long l = absurd (omega (arith, long))
masks_there (p ∷ ps) (n ∷ ms) zero d m long l = refl
masks_there (p ∷ ps) (n ∷ ms) (suc i) d m long l = masks_there ps ms i d m (one_less long) (omega (arith, l))

-- other masks there
pub set_there : (ps : List Process) (ms : List Masks) (i : ℕ) (d : Process × Masks) (m : Masks) → length ms ≡ length ps → i < length ps → zip ps (set ms i m) ≡ set (zip ps ms) i ((get_or (zip ps ms) i d).0, m)
set_there [] ms i d m long l = absurd (omega (arith, l))
set_there (p ∷ ps) [] i d m long l = absurd (omega (arith, long))
set_there (p ∷ ps) (n ∷ ms) zero d m long l = refl
set_there (p ∷ ps) (n ∷ ms) (suc i) d m long l = ap (λ xs. (p, n) ∷ xs) (set_there ps ms i d m (one_less long) (omega (arith, l)))

-- one more of both
pub both_more : (ps : List Process) (ms : List Masks) (p : Process) (m : Masks) → length ms ≡ length ps → zip (ps ++ p ∷ []) (ms ++ m ∷ []) ≡ zip ps ms ++ (p, m) ∷ []
both_more [] [] p m long = refl
both_more [] (n ∷ ms) p m long = absurd (omega (arith, long))
both_more (q ∷ ps) [] p m long = absurd (omega (arith, long))
both_more (q ∷ ps) (n ∷ ms) p m long = ap (λ xs. (q, n) ∷ xs) (both_more ps ms p m (one_less long))

-- the process at the place has other masks
pub puts_there : (ps : List Process) (ms : List Masks) (i : ℕ) (s : Process) (m : Masks) → length ms ≡ length ps → StandOnce ps → slice_get ps i ≡ Some s → i < length ps → PutsMasks s m (zip ps ms) (zip ps (set ms i m))
puts_there ps ms i s m long once at l q =
    let at_place = stands ps ms i s long once at in
    let d : Process × Masks = (s, m) in
    ap (λ xs. masks_at xs q) (set_there ps ms i d m long l) ∙ set_from (zip ps ms) s i d m at_place.within (at_place.own d) at_place.first q
