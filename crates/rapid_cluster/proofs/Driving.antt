-- A cluster that is driven.
use Rattle.std.proofs.Common.{◌≡◌, ◌≤◌, ℕ, zero, suc, ◌+◌, ◌-◌, ◌*◌, List, [], ◌∷◌, ◌++◌, append_assoc, append-nil, length, length-append, map, replicate, All, sum, refl, sym, ap, subst, ◌∙◌, Result, Ok, Err, IfOk, OnErr, arith}
use Rattle.std.specs.List.{range_with_len}
use Rattle.std.proofs.lemmas.List.{map_push, length_push}
use Rattle.std.proofs.lemmas.List.Sums.{sum_by-le}
use Rattle.rapid_model.specs.Configuration.{Params}
use Rattle.rapid_model.specs.Numbered.{numbered}
use Rattle.rapid_model.specs.Run.{WorldReport}
use Rattle.rapid_model.specs.StoredWorld.{accepted}
use Rattle.rapid_clerks.specs.Clusters.{ClusterState, DoesJob, new_cluster}
use Rattle.rapid_clerks.specs.Jobs.{DoesJobs, none, one_more}
use Rattle.rapid_clerks.specs.declared.job.Job.{Job}
use Rattle.rapid_clerks.specs.declared.job.Job.TheVariants.{Turn}
use Rattle.rapid_cluster.specs.Driven.{start_of, starts_of, all_jobs, HasTaken, IsUnderway, IsDriven}
use Rattle.rapid_model.proofs.Lists.{range_push}
use Rattle.std.proofs.lemmas.List.FromFn.{length-range_with_len}

-- ---- starts

starts_more : (count : ℕ) → starts_of (count + 1) ≡ starts_of count ++ start_of (count + 2) ∷ []
starts_more count =
    let e : 2 + count ≡ count + 2 = omega arith in
    ap (map start_of) (range_push 2 count) ∙ map_push start_of (range_with_len 2 count) (2 + count) ∙ ap (λ k. starts_of count ++ start_of k ∷ []) e

-- nothing was done yet
pub none_started : (c : ClusterState) → DoesJobs c (starts_of 0) c
none_started c = none c

-- one more was started
pub one_started : (c d e : ClusterState) (count : ℕ) (reports : List WorldReport) → DoesJobs c (starts_of count) d → DoesJob (start_of (count + 2)) d e reports → DoesJobs c (starts_of (count + 1)) e
one_started c d e count reports all done = subst (λ l. DoesJobs c l e) (sym (starts_more count)) (one_more c d e (starts_of count) (start_of (count + 2)) reports all done)

-- ---- turns

-- all others were started, and no turn was taken
pub all_started : (params : Params) (n : ℕ) (c : ClusterState) → DoesJobs (new_cluster params (numbered 1 ∷ [])) (starts_of (n - 1)) c → HasTaken params n 0 c
all_started params n c all = subst (λ l. DoesJobs (new_cluster params (numbered 1 ∷ [])) l c) (sym (append-nil (starts_of (n - 1)))) all

turns_more : (n : ℕ) → replicate (suc n) Turn ≡ replicate n Turn ++ Turn ∷ []
turns_more zero = refl
turns_more (suc n) = ap (λ l. Turn ∷ l) (turns_more n)

jobs_more : (n turns : ℕ) → all_jobs n (suc turns) ≡ all_jobs n turns ++ Turn ∷ []
jobs_more n turns = ap (λ l. starts_of (n - 1) ++ l) (turns_more turns) ∙ sym (append_assoc (starts_of (n - 1)) (replicate turns Turn) (Turn ∷ []))

-- a turn more, or none if it was refused
pub goes_on : {T E : Type 0} (params : Params) (n : ℕ) (c d : ClusterState) (r : Result T E) (reports : T → List WorldReport) → IsUnderway params n c → IfOk r (λ x. DoesJob Turn c d (reports x)) → OnErr r (d ≡ c) → IsUnderway params n d
goes_on params n c d (Ok x) reports u done same =
    (suc u.0, subst (λ l. DoesJobs (new_cluster params (numbered 1 ∷ [])) l d) (sym (jobs_more n u.0)) (one_more (new_cluster params (numbered 1 ∷ [])) c d (all_jobs n u.0) Turn (reports x) u.1 done))
goes_on params n c d (Err e) reports u done same = subst (IsUnderway params n) (sym same) u

-- ---- counts

-- each job that was done stored an event
jobs_stored : (c d : ClusterState) (js : List Job) → DoesJobs c js d → accepted d.world ≡ accepted c.world + length js
jobs_stored _ _ _ (none c) = omega arith
jobs_stored _ _ _ (one_more c d e js j reports all done) =
    let before = jobs_stored c d js all in
    let now : accepted e.world ≡ accepted d.world + 1 = ap accepted done.stores.stored ∙ length_push d.world.events (record { event = done.turn.event; halts = done.stores.halts }) in
    let len = length_push js j in
    omega (arith, before, now, len)

map_length : {A B : Type 0} (f : A → B) (xs : List A) → length (map f xs) ≡ length xs
map_length f [] = refl
map_length f (x ∷ xs) = ap suc (map_length f xs)

replicate_length : {A : Type 0} (n : ℕ) (x : A) → length (replicate n x) ≡ n
replicate_length zero x = refl
replicate_length (suc n) x = ap suc (replicate_length n x)

jobs_length : (n turns : ℕ) → length (all_jobs n turns) ≡ (n - 1) + turns
jobs_length n turns =
    let a = length-append (starts_of (n - 1)) (replicate turns Turn) in
    let b : length (starts_of (n - 1)) ≡ n - 1 = map_length start_of (range_with_len 2 (n - 1)) ∙ length-range_with_len 2 (n - 1) in
    let c : length (replicate turns Turn) ≡ turns = replicate_length turns Turn in
    omega (arith, a, b, c)

sum_within : (most : ℕ) (xs : List ℕ) → All (λ x. x ≤ most) xs → sum xs ≤ length xs * most
sum_within most xs all = sum_by-le (λ x. x) most xs all

-- so the turns are those that the share counts
pub driven : (params : Params) (n workers turns stored amount : ℕ) (counts : List ℕ) (c : ClusterState) → IsUnderway params n c → stored ≡ accepted c.world → stored ≡ amount → amount ≡ (n - 1) + sum counts →
    length counts ≡ workers → All (λ x. x ≤ turns) counts → IsDriven params n (workers * turns) c
driven params n workers turns stored amount counts c u is counted adds many each =
    let all = jobs_stored (new_cluster params (numbered 1 ∷ [])) c (all_jobs n u.0) u.1 in
    let len = jobs_length n u.0 in
    let same : u.0 ≡ sum counts = omega (arith, all, len, is, counted, adds) in
    let most : sum counts ≤ workers * turns = subst (λ k. sum counts ≤ k * turns) many (sum_within turns counts each) in
    (u.0, subst (λ k. k ≤ workers * turns) (sym same) most, u.1)
