-- The configuration of a node.
use Rattle.std.proofs.Common.{◌≡◌, sym, refl, ap, Option, Some, Box}
use Rattle.std.specs.declared.alloc.Global.{Global}
use Rattle.rapid_model.specs.Process.{Process}
use Rattle.rapid_model.specs.Configuration.{Configuration}
use Rattle.rapid_model.specs.Node as model
use Rattle.rapid_model.specs.Node.{MemberState, fresh_member, shown_in}
use Rattle.rapid_node.specs.declared.phase.State.{State}
use Rattle.rapid_node.specs.declared.phase.State.TheVariants.{Joining, Member, Removed, Halted}
use Rattle.rapid_node.specs.Phases.{phase_of, IsState}

-- the configuration that a node keeps is that of its phase
pub shows : (me : Process) (shown : Option Configuration) (s : State) → IsState me shown s → shown_in (phase_of shown s) ≡ shown
shows me shown (Joining j) is = sym is.0
shows me shown (Member s) is = sym is.0
shows me shown (Removed c) is = sym is
shows me shown Halted is = refl

-- a node in the phase Halted has the configuration that the phase keeps
pub halted_shows : (shown c : Option Configuration) (s : State) → phase_of shown s ≡ model.Halted c → shown ≡ c
halted_shows shown c (Joining j) e = cc
halted_shows shown c (Member s) e = cc
halted_shows shown c (Removed d) e = cc
halted_shows shown c Halted e = cc

-- a member as it enters a configuration is a state in which the node has that configuration
pub enters : (c : Configuration) (me : Process) (s : Box MemberState Global) → s.value ≡ fresh_member c me → IsState me (Some c) (Member s)
unfolding fresh_member
enters c me s e = (ap (λ (m : MemberState). Some m.config) (sym e), ap (λ (m : MemberState). m.me) e)
