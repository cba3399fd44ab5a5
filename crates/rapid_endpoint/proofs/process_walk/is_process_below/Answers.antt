use Rattle.std.proofs.Common.{◌≤◌, ap, length, ◌∙◌, arith}
use Rattle.std.specs.Int.{w128, from_be_bytes}
use Rattle.rapid_endpoint.proofs.Below.{by_sixteen}
use Rattle.rapid_endpoint.proofs.process_walk.is_process_below.Goals as goal

pub returns : goal.returns
returns c =
    let mine = c.in-Some.ensures.cases in
    let others = c.in-Some-split_first_chunk.ensures.cases in
    let long : 16 ≤ length c.args.process.now = omega (arith, mine.2) in
    let wide : 16 ≤ length c.args.other.now = omega (arith, others.2) in
    by_sixteen c.args.process.now c.args.other.now c.from_be_bytes-mine.result c.from_be_bytes-others.result
    long wide c.tell.ensures c.tell-2.ensures
    (c.from_be_bytes-mine.ensures ∙ ap (from_be_bytes w128) mine.0) (c.from_be_bytes-others.ensures ∙ ap (from_be_bytes w128) others.0)
    c.if-mine-others.false
