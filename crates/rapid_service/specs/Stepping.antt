-- Clauses of public calls cite this file.
-- What a service does with an event.
use Rattle.std.specs.Prelude.{◌≡◌, ◌⊎◌, ℕ, List, [], ◌∷◌}
use Rattle.rapid_model.specs.Bytes.{ConfigurationId}
use Rattle.rapid_model.specs.Process.{Process}
use Rattle.rapid_model.specs.Node.{Event, EdgeDown, Output, configuration_of, has_installed}
use Rattle.rapid_model.specs.NodeStep.{node_step}
use Rattle.rapid_node.specs.Steps.{HasOutcome}
use Rattle.rapid_desk.specs.States.{DeskState}
use Rattle.rapid_desk.specs.Desks.{DeskValue, Advances, Announced, Refused}
use Rattle.rapid_desk.specs.declared.error.DeskError.{DeskError}
use Rattle.rapid_service.specs.Faults.{fault_of}
use Rattle.rapid_signals.specs.declared.fault.RunningFault.{RunningFault}
use Rattle.rapid_signals.specs.declared.fault.RunningFault.TheVariants.{OutOfMemory}

-- The journal may have been begun anew: the node and what is published stay.
abbrev pub HasSameNode : DeskState → DeskState → Type 0
HasSameNode old new = (new.node ≡ old.node) × (new.published ≡ old.published)

-- The desk made a step with this event, before which its journal may have been begun anew. Its node is what the event
-- makes of it, and says this.
pub record HasStepped (old : DeskState) (event : Event) (new : DeskState) (sent : List Output) : Type 0 where
  pub desk : (before : DeskState) × HasSameNode old before × Advances before event new
  pub outcome : HasOutcome old.node.me (node_step old.node event) new.node sent

-- The desk refused the event, before which its journal may have been begun anew, and the node ends by the fault.
abbrev pub HasRefused : DeskState → Event → DeskState → RunningFault → Type 0
HasRefused old event new fault = (before : DeskState) × (error : DeskError) × HasSameNode old before × Refused before event new error × (fault ≡ fault_of error)

-- The desk refused an edge that went down, whichever it is, and the node ends by the fault.
abbrev pub HasRefusedEdge : DeskState → DeskState → RunningFault → Type 0
HasRefusedEdge old new fault = (id : ConfigurationId) (ring : ℕ) (subject : Process) → HasRefused old (EdgeDown id ring subject) new fault

-- What was put for those who are subscribed: the node's view if it installed something, else nothing.
abbrev pub Tells : DeskValue → DeskValue → Type 0
Tells old new = Announced (has_installed old.state.node new.state.node) (configuration_of new.state.node) old.subscriptions new.subscriptions

-- The desk made a step with this event, and told those who are subscribed of it.
pub record Steps (old : DeskValue) (event : Event) (new : DeskValue) : Type 0 where
  pub made : (sent : List Output) × HasStepped old.state event new.state sent
  pub told : Tells old new

-- The event failed: the desk refused it, and serves nobody any more. Or the desk made the step, and there was no memory
-- for what follows it.
abbrev pub Fails : DeskValue → Event → DeskValue → RunningFault → Type 0
Fails old event new fault = (HasRefused old.state event new.state fault × (new.subscriptions ≡ [])) ⊎ ((fault ≡ OutOfMemory) × Steps old event new)

-- These events, in order, each by one step from where the one before it led. No event leads nowhere.
abbrev pub AllInTurn : {S : Type 0} → (S → Event → S → Type 0) → S → List Event → S → Type 0
AllInTurn step old [] new = new ≡ old
AllInTurn {S} step old (event ∷ events) new = (between : S) × step old event between × AllInTurn step between events new

-- One of these events failed, behind a step with each of those before it. Those behind it were not tried.
abbrev pub OneFails : {S : Type 0} → (S → Event → S → Type 0) → (S → Event → S → Type 0) → S → List Event → S → Type 0
OneFails step fails old [] new = ⊥
OneFails {S} step fails old (event ∷ events) new = fails old event new ⊎ ((between : S) × step old event between × OneFails step fails between events new)

-- The desk made a step with each of these events, in order, and nothing else.
abbrev pub StepsAll : DeskValue → List Event → DeskValue → Type 0
StepsAll = AllInTurn Steps

-- One of these events failed, behind a step with each of those before it. Those behind it were not tried.
abbrev pub FailsAmong : DeskValue → List Event → DeskValue → RunningFault → Type 0
FailsAmong old events new fault = OneFails Steps (λ before event after. Fails before event after fault) old events new

-- One of these events failed. Or the desk made a step with each, and there was no memory for what follows them.
abbrev pub FailsIn : DeskValue → List Event → DeskValue → RunningFault → Type 0
FailsIn old events new fault = FailsAmong old events new fault ⊎ ((fault ≡ OutOfMemory) × StepsAll old events new)
