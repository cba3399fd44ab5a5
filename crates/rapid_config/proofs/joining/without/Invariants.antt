use Rattle.std.proofs.Common.{◌≡◌, not, take}
use Rattle.std.specs.List.{filter}
use Rattle.rapid_model.specs.Process.{is_in}
use Rattle.rapid_config.proofs.joining.without.Given as goal

abbrev pub invariant-loop-process : goal.invariant-loop-process
invariant-loop-process l = l.kept ≡ filter (λ p. not (is_in l.others p)) (take l.process-index l.processes)
