use Rattle.std.proofs.Common.{◌≡◌, ℕ, List, ◌∷◌, ◌++◌, decimal, flat_map}
use Rattle.rapid_model.specs.Lines.{space}
use Rattle.rapid_model.specs.Numbered.{number_of}
use Rattle.rapid_endpoint.specs.ProcessesLeft.{processes_left}
use Rattle.rapid_detect.proofs.reply.write_processes.Given as goal

abbrev pub invariant-loop-process : goal.invariant-loop-process
invariant-loop-process l =
    (said : List ℕ) × (l.output.items ≡ l.fn.output.items ++ said)
    × (said ++ flat_map (λ p. space ∷ decimal (number_of p)) (processes_left l.process-iterator) ≡ flat_map (λ p. space ∷ decimal (number_of p)) l.fn.processes)
