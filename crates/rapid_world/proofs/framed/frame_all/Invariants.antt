use Rattle.std.proofs.Common.{◌≡◌, map, take}
use Rattle.std.specs.Prelude.{All}
use Rattle.rapid_world.specs.Framed.{framed_output, CanBeFramed}
use Rattle.rapid_world.proofs.framed.frame_all.Given as goal

abbrev pub invariant-loop-output : goal.invariant-loop-output
invariant-loop-output l = record {
  value : l.framed.items ≡ map framed_output (take l.output-index l.outputs);
  framed : All CanBeFramed (take l.output-index l.outputs);
}
