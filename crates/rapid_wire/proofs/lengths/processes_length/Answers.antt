use Rattle.std.proofs.Common.{◌<◌, length, ap, arith}
use Rattle.rapid_wire.proofs.Joined.{length_more}
use Rattle.rapid_wire.proofs.lengths.processes_length.Goals as goal

pub loop-process-preserved : goal.loop-process-preserved
loop-process-preserved c =
    let ps = c.args.processes.now in
    let i = c.loop-process.process-index in
    let within : i < length ps = omega arith in
    let more = length_more ps i c.process-item.result c.loop-process.bytes within c.loop-process.invariant.0 in
    let this = ap length c.process-item.is in
    (omega (arith, c.length-bytes.ensures.value, this, more), omega (arith, c.length-bytes.ensures.most, c.loop-process.invariant.1))
