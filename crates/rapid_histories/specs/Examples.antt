-- Clauses of public calls cite this file.
-- Small histories, in which the premises of the laws are met.
use Rattle.std.specs.Prelude.{ℕ, List, [], ◌∷◌, Some, None}
use Rattle.rapid_model.specs.Cut.{Cut}
use Rattle.rapid_model.specs.Ballot.{Ballot, fast_ballot}
use Rattle.rapid_model.specs.Learner.{Notice}
use Rattle.rapid_histories.specs.Promises.{Given}

-- Two cuts.
abbrev pub one_cut : Cut
one_cut = (6 ∷ []) ∷ []

abbrev pub other_cut : Cut
other_cut = (7 ∷ []) ∷ []

-- The first classic ballot of the member at position 0, and of that at position 1.
abbrev pub low_ballot : Ballot
low_ballot = record { round = 2; position = 0 }

abbrev pub high_ballot : Ballot
high_ballot = record { round = 2; position = 1 }

-- Members 0, 2 and 1 of five vote for one cut; member 4 votes for the other first, and member 2 votes twice.
abbrev pub three_of_five : List (ℕ × Cut)
three_of_five = (0, one_cut) ∷ (4, other_cut) ∷ (2, one_cut) ∷ (2, one_cut) ∷ (4, one_cut) ∷ (1, one_cut) ∷ []

-- Two of five accepted one cut at a ballot, one of them twice, and two accepted another at a higher ballot.
abbrev pub two_and_two : List Notice
two_and_two =
    ((low_ballot, one_cut), 0) ∷ ((low_ballot, one_cut), 0) ∷ ((low_ballot, one_cut), 3) ∷ ((high_ballot, other_cut), 3)
    ∷ ((high_ballot, other_cut), 4) ∷ []

-- Members 0 and 3 of five promise the low ballot, one of them twice, and both report the fast vote; member 4 promises
-- another.
abbrev pub two_promises : List Given
two_promises =
    (0, (low_ballot, Some (record { ballot = fast_ballot; value = one_cut })))
    ∷ (3, (low_ballot, Some (record { ballot = fast_ballot; value = other_cut })))
    ∷ (3, (low_ballot, Some (record { ballot = fast_ballot; value = one_cut })))
    ∷ (4, (high_ballot, None)) ∷ []
