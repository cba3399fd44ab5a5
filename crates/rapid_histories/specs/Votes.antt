-- Clauses of public calls cite this file.
-- A fast round over all votes that it heard.
use Rattle.std.specs.Prelude.{◌≡◌, ℕ, ◌<◌, ◌↔◌, Bool, List, [], ◌∷◌, ◌++◌, Some, None}
use Rattle.rapid_model.specs.Cut.{Cut, same_cut}
use Rattle.rapid_model.specs.Quorum.{size, IsFast}
use Rattle.rapid_model.specs.FastRound.{FastRound, fresh_round, hear_vote, fast_decision, count_of}
use Rattle.rapid_agreement.specs.Positions.{positions}
use Rattle.rapid_histories.specs.Firsts.{firsts, OfMembers}

-- The round after votes, each a position and a cut, in order.
abbrev pub after_votes : FastRound → List (ℕ × Cut) → FastRound
after_votes f [] = f
after_votes f (x ∷ xs) = after_votes (hear_vote f x.0 x.1) xs

-- The round of n members after votes.
abbrev pub round_after : ℕ → List (ℕ × Cut) → FastRound
round_after n votes = after_votes (fresh_round n) votes

-- The positions whose first vote was for the cut.
abbrev pub voters : List (ℕ × Cut) → Cut → ℕ → Bool
voters votes v = firsts (λ u. same_cut u v) votes

-- Those whose first vote was for the cut are a fast quorum.
abbrev pub HasFastQuorum : ℕ → List (ℕ × Cut) → Cut → Type 0
HasFastQuorum n votes v = IsFast (positions n) (voters votes v)

-- The count of a cut is the number of positions whose first vote was for it.
abbrev pub FirstVotesCount : Type 0
FirstVotesCount =
    (n : ℕ) (votes : List (ℕ × Cut)) (v : Cut) → OfMembers n votes →
    count_of (round_after n votes).counts v ≡ size (positions n) (voters votes v)

-- A vote decides exactly the cut that it is for, if it completes a fast quorum for it.
abbrev pub VotesComplete : Type 0
VotesComplete =
    (n : ℕ) (votes : List (ℕ × Cut)) (p : ℕ) (v w : Cut) → OfMembers n votes → p < n →
    (fast_decision (round_after n votes) p v ≡ Some w)
    ↔ ((w ≡ v) × (HasFastQuorum n (votes ++ (p, v) ∷ []) v × (HasFastQuorum n votes v → ⊥)))

-- After a vote that decides, none does.
abbrev pub DecidesOnce : Type 0
DecidesOnce =
    (n : ℕ) (votes later : List (ℕ × Cut)) (p q : ℕ) (v w u : Cut) → OfMembers n votes → OfMembers n later → p < n → q < n →
    fast_decision (round_after n votes) p v ≡ Some w → fast_decision (round_after n (votes ++ (p, v) ∷ later)) q u ≡ None
