-- Clauses of public calls cite this file.
-- What a member that decided a cut had taken.
use Rattle.std.specs.Prelude.{◌≡◌, Bool, true, List, filter_map, Contains}
use Rattle.rapid_model.specs.Process.{Process}
use Rattle.rapid_model.specs.Cut.{Cut}
use Rattle.rapid_model.specs.Configuration.{Configuration, configuration_id}
use Rattle.rapid_model.specs.Quorum.{IsClassic, IsFast}
use Rattle.rapid_model.specs.Ballot.{Ballot}
use Rattle.rapid_model.specs.Message.{Body, FastVote, Accepted, Decision}
use Rattle.rapid_model.specs.World.{Act}
use Rattle.rapid_model.specs.History.{taken_by}

-- In these acts me took this.
abbrev pub Takes : Process → List Act → Process → Body → Type 0
Takes me acts p b = Contains (filter_map (taken_by me) acts) (record { sender = p; body = b })

-- In these acts me took this from each member of a set.
abbrev pub TakesFromEach : Configuration → Process → List Act → (Process → Bool) → Body → Type 0
TakesFromEach c me acts quorum b = (p : Process) → Contains c.members p → quorum p ≡ true → Takes me acts p b

-- In its acts in c me took fast votes for the cut of a fast quorum, accepted notices of it at one ballot of a classic
-- quorum, or a Decision for it.
pub data Evidence (c : Configuration) (me : Process) (acts : List Act) (v : Cut) : Type 0 where
  by_votes : (quorum : Process → Bool) → IsFast c.members quorum →
      TakesFromEach c me acts quorum (FastVote (configuration_id c) v) → Evidence c me acts v
  by_notices : (b : Ballot) (quorum : Process → Bool) → IsClassic c.members quorum →
      TakesFromEach c me acts quorum (Accepted (configuration_id c) b v) → Evidence c me acts v
  by_decision : (p : Process) → Takes me acts p (Decision (configuration_id c) v) → Evidence c me acts v
