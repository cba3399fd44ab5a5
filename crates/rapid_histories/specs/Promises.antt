-- Clauses of public calls cite this file.
-- A coordinator over all promises that it was given since it began a ballot.
use Rattle.std.specs.Prelude.{◌≡◌, ℕ, ◌<◌, ◌↔◌, Bool, true, false, ◌&&◌, List, [], ◌∷◌, ◌++◌, filter_map, if◌then◌else◌, Option, Some, None}
use Rattle.std.specs.FinSet as set
use Rattle.std.specs.FinMap as map
use Rattle.rapid_model.specs.Cut.{Cut, same_cut}
use Rattle.rapid_model.specs.Quorum.{size, IsClassic}
use Rattle.rapid_model.specs.Ballot.{Ballot, Vote, UpTo, same_ballot}
use Rattle.rapid_model.specs.FastRound.{Counts, count_of}
use Rattle.rapid_model.specs.Coordinator.{Coordinator, begun, after_report, accept_cut, value_of}
use Rattle.rapid_agreement.specs.Positions.{positions}
use Rattle.rapid_agreement.specs.Asking.{Report}
use Rattle.rapid_histories.specs.Firsts.{first, firsts, OfMembers}

-- A promise that a coordinator is given: its position, its ballot and the last vote that it reports.
abbrev pub Given : Type 0
Given = ℕ × (Ballot × Option (Vote Cut))

-- The coordinator after promises, in order.
abbrev pub after_given : Coordinator → List Given → Coordinator
after_given c [] = c
after_given c (x ∷ xs) = after_given (after_report c x.0 x.1.0 x.1.1) xs

-- Those of the ballot, each with its position and the vote that it reports.
abbrev pub promised_at : Ballot → List Given → List Report
promised_at b given = filter_map (λ x. if same_ballot b x.1.0 then Some (x.0, x.1.1) else None) given

-- The positions that promised the ballot.
abbrev pub promisers : Ballot → List Given → ℕ → Bool
promisers b given = firsts (λ _. true) (promised_at b given)

-- The vote is for the cut at the ballot t.
abbrev pub is_vote_for : Ballot → Cut → Option (Vote Cut) → Bool
is_vote_for t v None = false
is_vote_for t v (Some u) = same_ballot u.ballot t && same_cut u.value v

-- The positions whose first promise of the ballot reports a vote for the cut at the ballot t.
abbrev pub reporters : Ballot → List Given → Ballot → Cut → ℕ → Bool
reporters b given t v = firsts (is_vote_for t v) (promised_at b given)

-- The position's first promise of the ballot reports the vote.
abbrev pub Reported : Ballot → List Given → ℕ → Vote Cut → Type 0
Reported b given p u = first (promised_at b given) p ≡ Some (Some u)

-- No vote is reported, and none is counted. Or t is the highest ballot of a vote that is reported, and each cut's count
-- is the number of positions that reported a vote for it there.
abbrev pub TopIsOf : ℕ → Ballot → List Given → Option Ballot → Counts → Type 0
TopIsOf n b given None counts = ((p : ℕ) (u : Vote Cut) → Reported b given p u → ⊥) × (counts ≡ map.empty)
TopIsOf n b given (Some t) counts =
    ((p : ℕ) × (u : Vote Cut) × (Reported b given p u × (u.ballot ≡ t)))
    × (((p : ℕ) (u : Vote Cut) → Reported b given p u → UpTo u.ballot t)
    × ((v : Cut) → count_of counts v ≡ size (positions n) (reporters b given t v)))

-- Those who promised the ballot are a classic quorum.
abbrev pub HasMajority : ℕ → Ballot → List Given → Type 0
HasMajority n b given = IsClassic (positions n) (promisers b given)

-- Who is heard are those who promised the ballot, and what is counted is what their first promises report at the
-- highest ballot.
abbrev pub PromisesCount : Type 0
PromisesCount =
    (c : Coordinator) (b : Ballot) (given : List Given) → OfMembers c.size given →
    (set.len (after_given (begun c b) given).heard ≡ size (positions c.size) (promisers b given))
    × TopIsOf c.size b given (after_given (begun c b) given).top (after_given (begun c b) given).counts

-- A promise brings a request exactly if it completes a classic quorum for the ballot, and it is for the value that the
-- promises then give.
abbrev pub PromisesComplete : Type 0
PromisesComplete =
    (c : Coordinator) (b : Ballot) (given : List Given) (p : ℕ) (at : Ballot) (vote : Option (Vote Cut)) (own : Option Cut) (v : Cut) →
    OfMembers c.size given → p < c.size →
    (accept_cut (after_given (begun c b) given) p at vote own ≡ Some v)
    ↔ ((HasMajority c.size b (given ++ (p, (at, vote)) ∷ []) × (HasMajority c.size b given → ⊥))
    × (value_of (after_given (begun c b) (given ++ (p, (at, vote)) ∷ [])) own ≡ Some v))

-- After a promise that brings a request, none does, until the next ballot is begun.
abbrev pub RequestsOnce : Type 0
RequestsOnce =
    (c : Coordinator) (b : Ballot) (given later : List Given) (p q : ℕ) (at next : Ballot) (vote last : Option (Vote Cut)) (own other : Option Cut)
    (v : Cut) → OfMembers c.size given → OfMembers c.size later → p < c.size → q < c.size →
    accept_cut (after_given (begun c b) given) p at vote own ≡ Some v →
    accept_cut (after_given (begun c b) (given ++ (p, (at, vote)) ∷ later)) q next last other ≡ None
