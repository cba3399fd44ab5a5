-- Clauses of public calls cite this file.
-- Runs of five members that keep the rules, one for each way to a decision.
use Rattle.std.specs.Prelude.{ℕ, ◌+◌, Bool, List, [], ◌∷◌, Option, Some, nat_eq, nat_lt, if◌then◌else◌}
use Rattle.rapid_model.specs.Ballot.{Ballot, Vote, fast_ballot}
use Rattle.rapid_model.specs.FastPaxos.{Said}
use Rattle.rapid_agreement.specs.Runs.{Event, Proposes, Promises, Votes, Asks, start, run, said_in}

-- Five members.
abbrev pub five : List ℕ
five = 0 ∷ 1 ∷ 2 ∷ 3 ∷ 4 ∷ []

-- Three of them, a classic quorum.
abbrev pub three : ℕ → Bool
three a = nat_lt a 3

-- The first classic ballot.
abbrev pub second : Ballot
second = record { round = 2; position = 0 }

-- What was said in a run.
abbrev pub said_after : List (Event ℕ ℕ) → Said ℕ ℕ
said_after events = said_in (run nat_eq events start).sent

-- Four members propose 7 and vote for it in the fast round.
abbrev pub fast_run : List (Event ℕ ℕ)
fast_run =
    Proposes 0 7 ∷ Votes 0 fast_ballot 7 ∷ Proposes 1 7 ∷ Votes 1 fast_ballot 7
    ∷ Proposes 2 7 ∷ Votes 2 fast_ballot 7 ∷ Proposes 3 7 ∷ Votes 3 fast_ballot 7 ∷ []

-- Three members promise the classic ballot, the value is sent to be accepted there, and they vote for it.
abbrev pub recovery : ℕ → List (Event ℕ ℕ)
recovery v =
    Promises 0 second ∷ Promises 1 second ∷ Promises 2 second ∷ Asks second v
    ∷ Votes 0 second v ∷ Votes 1 second v ∷ Votes 2 second v ∷ []

-- Nobody voted, and one member proposed 7.
abbrev pub recovery_without_votes : List (Event ℕ ℕ)
recovery_without_votes = Proposes 0 7 ∷ recovery 7

-- Three members propose and vote for the value of each.
abbrev pub split_votes : (ℕ → ℕ) → List (Event ℕ ℕ) → List (Event ℕ ℕ)
split_votes value rest =
    Proposes 0 (value 0) ∷ Votes 0 fast_ballot (value 0) ∷ Proposes 1 (value 1) ∷ Votes 1 fast_ballot (value 1)
    ∷ Proposes 2 (value 2) ∷ Votes 2 fast_ballot (value 2) ∷ rest

-- What they report, if each voted for its value.
abbrev pub reports_of : (ℕ → ℕ) → ℕ → Option (Vote ℕ)
reports_of value a = Some (record { ballot = fast_ballot; value = value a })

-- The first two vote for 7 and the third for 8.
abbrev pub two_and_one : ℕ → ℕ
two_and_one a = if nat_lt a 2 then 7 else 8

-- So 7 is forced.
abbrev pub forced_recovery : List (Event ℕ ℕ)
forced_recovery = split_votes two_and_one (recovery 7)

-- Each votes for another value.
abbrev pub all_apart : ℕ → ℕ
all_apart a = 7 + a

-- So none is forced, and the coordinator is free to take 9.
abbrev pub free_recovery : List (Event ℕ ℕ)
free_recovery = split_votes all_apart (recovery 9)
