use Rattle.rapid_endpoint.proofs.Keys.{are_behind, parts_are_all, parts_are_process}
use Rattle.rapid_endpoint.proofs.process.Process.replace.Goals as goal

pub replace-requires : goal.replace-requires
replace-requires c = are_behind c.args.bytes.now c.requires

pub invariant_of-self : goal.invariant_of-self
invariant_of-self c =
    parts_are_process c.args.bytes.now c.in-Some.key c.replace.new.self c.requires c.in-Some.ensures.front c.replace.ensures

pub returns : goal.returns
returns c = parts_are_all c.args.bytes.now c.in-Some.key c.replace.new.self c.in-Some.ensures.front c.replace.ensures
