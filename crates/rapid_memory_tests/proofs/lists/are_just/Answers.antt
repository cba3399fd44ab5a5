use Rattle.std.proofs.Common.{◌≤◌, length, arith}
use Rattle.rapid_wire.proofs.Lists.{all_read}
use Rattle.rapid_memory_tests.proofs.lists.are_just.Goals as goal

pub returns-in-Ok : goal.returns-in-Ok
returns-in-Ok c e =
    let there : length c.args.bytes.now ≤ c.in-Ok.end = grind (arith, e) in
    all_read c.args.count c.in-Ok.end c.args.bytes.now c.in-Ok.ensures.1 c.in-Ok.ensures.2 there
