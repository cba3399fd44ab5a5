use Rattle.std.proofs.Common.{◌≡◌, true, take}
use Rattle.rapid_model.specs.Configuration.{endpoints_differ}
use Rattle.rapid_config.specs.Endpoints.{AreEndpointsOf}
use Rattle.rapid_config.proofs.endpoints.endpoints_differ.Given as goal

abbrev pub invariant-loop-process : goal.invariant-loop-process
invariant-loop-process l = record {
  differ : endpoints_differ (take l.process-index l.processes) ≡ true;
  seen : AreEndpointsOf (take l.process-index l.processes) l.seen;
}
