use Rattle.std.proofs.Common.{take}
use Rattle.rapid_config.specs.Endpoints.{AreEndpointsOf}
use Rattle.rapid_config.proofs.endpoints.endpoints_of.Given as goal

abbrev pub invariant-loop-place : goal.invariant-loop-place
invariant-loop-place l = AreEndpointsOf (take l.place l.processes) l.endpoints.keys
