use Rattle.std.proofs.Common.{◌≡◌, ◌-◌, []}
use Rattle.rapid_model.specs.Tags.{ascend_from}
use Rattle.rapid_endpoint.specs.ProcessesIn.{processes_in}
use Rattle.rapid_endpoint.proofs.process_walk.ascend_in.Given as goal

abbrev pub invariant-loop : goal.invariant-loop
invariant-loop l =
    ascend_from l.before (processes_in (l.count - l.counter) l.rest) ≡ ascend_from [] (processes_in l.count l.bytes)
