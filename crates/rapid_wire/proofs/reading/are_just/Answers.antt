use Rattle.std.proofs.Common.{◌<◌, ◌≤◌, length, arith}
use Rattle.rapid_wire.proofs.Lists.{all_read, not_all_read, none_read}
use Rattle.rapid_wire.proofs.reading.are_just.Goals as goal

pub returns-in-Ok-clause-all : goal.returns-in-Ok-clause-all
returns-in-Ok-clause-all c e =
    let there : length c.args.bytes.now ≤ c.in-Ok.end = grind (arith, e) in
    all_read c.args.count c.in-Ok.end c.args.bytes.now c.in-Ok.ensures.1 c.in-Ok.ensures.2 there

pub returns-in-Ok-clause-others : goal.returns-in-Ok-clause-others
returns-in-Ok-clause-others c e =
    let before : c.in-Ok.end < length c.args.bytes.now = grind (arith, e, c.in-Ok.ensures.0) in
    not_all_read c.args.count c.in-Ok.end c.args.bytes.now c.in-Ok.ensures.1 c.in-Ok.ensures.2 before

pub returns-in-Err-clause-others : goal.returns-in-Err-clause-others
returns-in-Err-clause-others c e = none_read c.args.count c.args.bytes.now _ c.in-Err.ensures
