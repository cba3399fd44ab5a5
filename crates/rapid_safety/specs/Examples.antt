-- Clauses of public calls cite this file.
-- Runs of three processes: two found a configuration, and a third joins it.
use Rattle.std.specs.Prelude.{ℕ, false, List, [], ◌∷◌, ◌++◌, replicate}
use Rattle.rapid_model.specs.Process.{Process, identifier, endpoint}
use Rattle.rapid_model.specs.Configuration.{Configuration, founding}
use Rattle.rapid_model.specs.Apply.{apply}
use Rattle.rapid_model.specs.Ballot.{Ballot}
use Rattle.rapid_model.specs.World.{WorldEvent, Start, Tick, Deliver, MarkedEvent}

-- The process of number n below 256, without tags.
abbrev pub process : ℕ → Process
process n = replicate 15 0 ++ n ∷ 127 ∷ 0 ∷ 0 ∷ 1 ∷ 0 ∷ n ∷ 0 ∷ []

-- The founder that misses the decision.
abbrev pub other : Process
other = process 1

-- The founder that observes the guest.
abbrev pub host : Process
host = process 2

-- The process that joins.
abbrev pub guest : Process
guest = process 3

-- The founders, on one ring.
abbrev pub two : Configuration
two = founding (record { k = 1; h = 1; l = 1 }) (other ∷ host ∷ [])

-- All three.
abbrev pub three : Configuration
three = apply two (guest ∷ [])

-- The event, at which no node halts.
abbrev pub happens : WorldEvent → MarkedEvent
happens e = record { event = e; halts = false }

-- The guest asks the host, and the host reports it and votes.
abbrev pub guest_asks : List MarkedEvent
guest_asks =
    happens (Start guest (endpoint host)) ∷ happens (Tick (identifier guest)) ∷ happens (Deliver 1) ∷ happens (Deliver 2)
    ∷ happens (Deliver 3) ∷ happens (Tick (identifier host)) ∷ []

-- The other votes too. The host hears its vote and decides; the vote comes once more, and is answered with the
-- decision, by which the other decides. Last, the guest hears its Confirm.
abbrev pub guest_run : List MarkedEvent
guest_run =
    guest_asks
    ++ happens (Deliver 4) ∷ happens (Deliver 6) ∷ happens (Deliver 6) ∷ happens (Deliver 8) ∷ happens (Deliver 7) ∷ []

-- The ballot of the recovery.
abbrev pub second_ballot : Ballot
second_ballot = record { round = 2; position = 0 }

-- The other hears the host's vote and never its batch, so that it has nothing to vote for. At its twentieth tick it
-- begins a classic ballot, asks for the cut for which the host voted, and both accept it. Each decides by the other's
-- notice.
abbrev pub recovered_run : List MarkedEvent
recovered_run =
    guest_asks ++ happens (Deliver 5) ∷ replicate 20 (happens (Tick (identifier other)))
    ++ happens (Deliver 6) ∷ happens (Deliver 7) ∷ happens (Deliver 8) ∷ happens (Deliver 9) ∷ happens (Deliver 10)
    ∷ happens (Deliver 11) ∷ []
