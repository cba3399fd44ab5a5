-- Clauses of public calls cite this file.
-- A coordinator that hears promises of the ballot that it began.
use Rattle.std.specs.Prelude.{◌≡◌, ◌≢◌, ℕ, ◌<◌, List, [], ◌∷◌, length, Contains, Option, Some}
use Rattle.rapid_model.specs.Cut.{Cut}
use Rattle.rapid_model.specs.Ballot.{Ballot, Vote, fast_ballot}
use Rattle.rapid_model.specs.Coordinator.{Coordinator, after_report}
use Rattle.rapid_model.specs.FastPaxos.{Said, IsProposed}

-- The position that gives a promise, and the last vote that it reports.
abbrev pub Report : Type 0
Report = ℕ × Option (Vote Cut)

-- The coordinator after promises of a ballot, in order.
abbrev pub after_promises : Coordinator → Ballot → List Report → Coordinator
after_promises c b [] = c
after_promises c b (x ∷ xs) = after_promises (after_report c x.0 b x.1) b xs

-- The members, each at its place, gave these promises of the ballot. Each value reported at the fast ballot was
-- proposed. At any other ballot one value at most is reported.
pub record AreGiven {X : Type 0} (members : List X) (place : X → ℕ) (said : Said X Cut) (b : Ballot) (promises : List Report) : Type 0 where
  pub within : (x : Report) → Contains promises x → x.0 < length members
  pub promised : (a : X) (vote : Option (Vote Cut)) → Contains members a → Contains promises (place a, vote) → said.promised a b vote
  pub fast_proposed : (p : ℕ) (v : Cut) → Contains promises (p, Some (record { ballot = fast_ballot; value = v })) → IsProposed members said v
  pub one_value : (p q : ℕ) (at : Ballot) (v w : Cut) → at ≢ fast_ballot → Contains promises (p, Some (record { ballot = at; value = v })) → Contains promises (q, Some (record { ballot = at; value = w })) → v ≡ w
