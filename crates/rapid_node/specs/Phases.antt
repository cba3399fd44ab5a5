-- Clauses of public calls cite this file.
-- The phases of a node as the definitions see them.
use Rattle.std.specs.Prelude.{◌≡◌, Option, Some, None}
use Rattle.rapid_model.specs.Process.{Process}
use Rattle.rapid_model.specs.Configuration.{Configuration}
use Rattle.rapid_model.specs.Node as model
use Rattle.rapid_node.specs.declared.phase.Phase as phase
use Rattle.rapid_node.specs.declared.phase.State.{State}
use Rattle.rapid_node.specs.declared.phase.State.TheVariants.{Joining, Member, Removed, Halted}

-- The phase of a node with this configuration, if any.
abbrev pub phase_of : Option Configuration → State → model.Phase
phase_of shown (Joining j) = model.Joining j.value.joiner
phase_of shown (Member s) = model.Member s.value
phase_of shown (Removed c) = model.Removed c
phase_of shown Halted = model.Halted shown

-- The state is that of this process, and it has the node's configuration.
abbrev pub IsState : Process → Option Configuration → State → Type 0
IsState me shown (Joining j) = (shown ≡ None) × (j.value.process ≡ me)
IsState me shown (Member s) = (shown ≡ Some s.value.config) × (s.value.me ≡ me)
IsState me shown (Removed c) = shown ≡ Some c
IsState me shown Halted = Unit {0}

-- The name of a phase.
abbrev pub name_of : model.Phase → phase.Phase
name_of (model.Joining j) = phase.TheVariants.Joining
name_of (model.Member s) = phase.TheVariants.Member
name_of (model.Removed c) = phase.TheVariants.Removed
name_of (model.Halted shown) = phase.TheVariants.Halted
