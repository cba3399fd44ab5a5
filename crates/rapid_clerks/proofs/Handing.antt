-- Jobs that are handed in one after another.
use Rattle.std.proofs.Common.{◌≡◌, ◌≢◌, ℕ, ◌+◌, ◌<◌, ◌≤◌, Bool, true, false, Option, None, Some, Result, Ok, Err, IfErr, List, length, take, get_or, refl, sym, subst, arith}
use Rattle.std.specs.Prelude.{nat_le, MatchResult}
use Rattle.std.proofs.lemmas.List.{take_more}
use Rattle.rapid_world.specs.declared.error.WorldError.{WorldError}
use Rattle.rapid_world.specs.declared.error.WorldError.TheVariants.{IdentifierUsed, EndpointBusy, NoSuchNode, NoSuchPacket, NotObserved, EventsFull, OutOfMemory}
use Rattle.rapid_clerks.specs.Jobs.{HandedIn, one_job, GoesOn, IsPast}
use Rattle.rapid_clerks.specs.Verdicts.{verdict_on}
use Rattle.rapid_clerks.specs.declared.verdict.Ended.{Ended}
use Rattle.rapid_clerks.specs.declared.verdict.Ended.TheVariants as ended
use Rattle.rapid_clerks.specs.declared.verdict.Verdict.{Verdict}
use Rattle.rapid_clerks.specs.declared.verdict.Verdict.TheVariants.{Ends}

-- One job more was handed in, with a share of the amount that those before it had left.
pub handed_next : {J : Type 0} (handed : ℕ → J → ℕ → Type 0) (from before after : ℕ) (jobs : List J) (i : ℕ) (j : J) → i < length jobs → HandedIn handed from (take i jobs) before → handed before (get_or jobs i j) after
    → HandedIn handed from (take (i + 1) jobs) after
handed_next handed from before after jobs i j within so_far last =
    subst (λ js. HandedIn handed from js after) (sym (take_more jobs i j within)) (one_job (take i jobs) (get_or jobs i j) before after so_far last)

-- What holds of each number up to one, and of the next, holds of each up to that.
pub one_more : (P : ℕ → Type 0) (n : ℕ) → ((t : ℕ) → 0 < t → t ≤ n → P t) → P (n + 1) → (t : ℕ) → 0 < t → t ≤ n + 1 → P t
one_more P n before last t some few = by (nat_le t n) refl
  where
    by : (b : Bool) → nat_le t n ≡ b → P t
    by true e = before t some (Prim.grind (arith, e))
    by false e = let is : n + 1 ≡ t = Prim.grind (arith, e, few) in subst P is last

goes_on_after : (e : WorldError) (v : Verdict) → v ≡ verdict_on e → ((why : Ended) → v ≢ Ends why) → GoesOn (Some e)
goes_on_after IdentifierUsed v is other = tt
goes_on_after EndpointBusy v is other = tt
goes_on_after NoSuchNode v is other = tt
goes_on_after NoSuchPacket v is other = tt
goes_on_after NotObserved v is other = tt
goes_on_after EventsFull v is other = other ended.Full is
goes_on_after OutOfMemory v is other = other ended.OutOfMemory is

-- A clerk that does not end goes on after the answer.
pub is_past : {T J : Type 0} (answered : J → Option WorldError → Type 0) (j : J) (r : Result T WorldError) (v : Verdict) → MatchResult r (λ _. answered j None) (λ e. answered j (Some e)) → IfErr r (λ e. v ≡ verdict_on e) → ((why : Ended) → v ≢ Ends why)
    → IsPast answered j
is_past answered j (Ok x) v told refused other = record { refusal = None; told = told; goes_on = tt }
is_past answered j (Err e) v told refused other = record { refusal = Some e; told = told; goes_on = goes_on_after e v refused other }
