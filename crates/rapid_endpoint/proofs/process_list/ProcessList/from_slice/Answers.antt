use Rattle.std.proofs.Common.{ap, ◌∙◌}
use Rattle.rapid_model.specs.Reading.{read_in}
use Rattle.rapid_endpoint.proofs.Listed.{spelt_are_all}
use Rattle.rapid_endpoint.proofs.process_list.ProcessList.from_slice.Goals as goal

pub invariant_of-result : goal.invariant_of-result
invariant_of-result c = (
  c.args.processes.now,
  spelt_are_all c.args.processes.now _ c.in_ok-spelled.ensures.processes (c.in_ok-bytes.ensures ∙ c.in_ok-spelled.ensures.value),
)

pub returns : goal.returns
returns c =
    ap read_in
    (spelt_are_all c.args.processes.now _ c.in_ok-spelled.ensures.processes (c.in_ok-bytes.ensures ∙ c.in_ok-spelled.ensures.value))
