use Rattle.rapid_endpoint.proofs.Keys.{are_behind, parts_are_all, parts_are_process}
use Rattle.rapid_endpoint.proofs.process.Process.spelt.Goals as goal

pub spelt-requires : goal.spelt-requires
spelt-requires c = are_behind c.args.bytes.now c.requires

pub invariant_of-result : goal.invariant_of-result
invariant_of-result c =
    parts_are_process c.args.bytes.now c.in-Some.key c.spelt.result c.requires c.in-Some.ensures.front c.spelt.ensures

pub returns : goal.returns
returns c = parts_are_all c.args.bytes.now c.in-Some.key c.spelt.result c.in-Some.ensures.front c.spelt.ensures
