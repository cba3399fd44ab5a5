-- The laws of a run as an engine of lines.
use Rattle.std.proofs.Common.{ℕ, ◌<◌, List, [], ◌∷◌, length, refl, arith}
use Rattle.rapid_sim.specs.Wants.{LinesPrint}
use Rattle.rapid_sim.specs.TooLong.{long_lines}
use Rattle.rapid_sim.specs.Simulators.{RunPrints, state_of, wants_in}
use Rattle.rapid_sim.specs.declared.sim.SimRun.{SimRun}
use Rattle.rapid_sim.specs.Definitions.{definitions_print}
use Rattle.rapid_model.specs.SimText.{SimState, text_of_lines}
use Rattle.rapid_model.specs.Limits.{longest_line}

none_print : (s : SimState) → LinesPrint s [] [] 0
unfolding LinesPrint
none_print s = (refl, refl)

-- No lines print nothing.
pub run_ends : (r : SimRun) → RunPrints r [] [] (wants_in r)
run_ends r = record { later = 0; prints = none_print (state_of r); counts = omega arith }

-- All lines that are too long print the same.
pub run_too_long : (r : SimRun) (line other : List ℕ) (later : List (List ℕ)) (text : List ℕ) (n : ℕ)
    → longest_line < length line → longest_line < length other → RunPrints r (line ∷ later) text n
    → RunPrints r (other ∷ later) text n
run_too_long r line other later text n h k p = record { later = p.later; prints = long_lines (state_of r) line other later text p.later h k p.prints; counts = p.counts }

-- Whatever the lines are, they print something, and memory runs out no more.
pub run_speaks : (r : SimRun) (ls : List (List ℕ)) → (text : List ℕ) × RunPrints r ls text (wants_in r)
run_speaks r ls = (text_of_lines (state_of r) ls, record { later = 0; prints = definitions_print (state_of r) ls; counts = omega arith })
