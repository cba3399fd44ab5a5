use Rattle.std.proofs.Common.{◌≡◌, drop}
use Rattle.rapid_model.specs.Configuration.{AreMembers}
use Rattle.rapid_model.specs.Apply.{with_joiners}
use Rattle.rapid_config.specs.Endpoints.{AreEndpointsOf}
use Rattle.rapid_config.proofs.joining.join_all.Given as goal

abbrev pub invariant-loop-place : goal.invariant-loop-place
invariant-loop-place l = record {
  joined : with_joiners l.members (drop l.place l.joiners) ≡ with_joiners l.fn.members l.joiners;
  valid : AreMembers l.members;
  endpoints : AreEndpointsOf l.members l.endpoints.keys;
}
