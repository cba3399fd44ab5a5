-- All that holds of a run, in one record.
use Rattle.std.specs.Prelude.{List}
use Rattle.rapid_model.specs.World.{World, MarkedEvent}
use Rattle.rapid_model.specs.Run.{run}
use Rattle.rapid_model.specs.RunFacts.{AlertsJustified, AcceptsLawful, AcceptsOnce, VotesOnce, MembersSpeak, SpokenAsMembers, ConfirmsInstalled, DecisionsChosen, OneChosen, AcceptsExclude}
use Rattle.rapid_model.specs.Prompt.{Prompt}
use Rattle.rapid_model.specs.Agreement.{NoCollision, IsAgreed}

-- The sentences over runs, each of the world at which a run has arrived.
pub record RunHolds (w : World) : Type 0 where
  -- one line, each change chosen and supported, the same next; so the heights that a node installs rise by one
  pub agreed : IsAgreed w
  pub one_chosen : OneChosen w
  -- In any run that goes on from here. What is chosen there is counted by identifiers, so none may collide there
  -- either. If a configuration that is installed later had the identifier of an earlier one, its votes would be added
  -- to those of the earlier one.
  pub accepts_exclude : (more : List MarkedEvent) → NoCollision (run more w) → AcceptsExclude w more
  pub accepts_lawful : AcceptsLawful w
  -- so one cut at most is sent to be accepted at a ballot
  pub accepts_once : AcceptsOnce w
  pub votes_once : VotesOnce w
  pub members_speak : MembersSpeak w
  pub spoken_as_members : SpokenAsMembers w
  pub alerts_justified : AlertsJustified w
  pub prompt : Prompt w
  pub confirms_installed : ConfirmsInstalled w
  pub decisions_chosen : DecisionsChosen w
