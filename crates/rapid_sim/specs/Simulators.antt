-- The state of a run as the definitions see it.
use Rattle.std.specs.Prelude.{◌≡◌, ℕ, ◌+◌, List}
use Rattle.rapid_model.specs.Configuration.{Params}
use Rattle.rapid_model.specs.SimText as text
use Rattle.rapid_model.specs.SimText.{Simulation, SimState}
use Rattle.rapid_sim.specs.Wants.{LinesPrint}
use Rattle.rapid_sim.specs.declared.simulator.Simulator.{Simulator}
use Rattle.rapid_sim.specs.declared.sim.SimPhase.{SimPhase}
use Rattle.rapid_sim.specs.declared.sim.SimPhase.TheVariants.{Blank, Prepared, Underway}
use Rattle.rapid_sim.specs.declared.sim.SimRun.{SimRun}

-- What a simulator holds.
abbrev pub simulation_of : Simulator → Simulation
simulation_of s = record { world = s.world; settled = s.settled }

-- The state of a phase.
abbrev pub phase_state : SimPhase → SimState
phase_state Blank = text.Blank
phase_state (Prepared params) = text.Prepared params
phase_state (Underway s) = text.Underway (simulation_of s)

-- How often memory ran out in a phase.
abbrev pub phase_wants : SimPhase → ℕ
phase_wants Blank = 0
phase_wants (Prepared params) = 0
phase_wants (Underway s) = s.met

-- A founding that is taken in a phase has these parameters.
abbrev pub HasParams : SimPhase → Params → Type 0
HasParams (Prepared params) found = found ≡ params
HasParams _ found = Unit {0}

-- The state of a run.
abbrev pub state_of : SimRun → SimState
state_of r = phase_state r.phase

-- How often memory ran out in a run.
abbrev pub wants_in : SimRun → ℕ
wants_in r = phase_wants r.phase

-- From a run on these lines may print this text, if memory runs out this often, counted from the beginning.
pub record RunPrints (r : SimRun) (ls : List (List ℕ)) (text : List ℕ) (wants : ℕ) : Type 0 where
  pub later : ℕ
  pub prints : LinesPrint (state_of r) ls text later
  pub counts : wants ≡ wants_in r + later
