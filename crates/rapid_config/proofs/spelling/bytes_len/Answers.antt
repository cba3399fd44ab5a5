use Rattle.std.proofs.Common.{◌<◌, length, ap, arith}
use Rattle.rapid_config.proofs.Spelled.{length_more}
use Rattle.rapid_config.proofs.spelling.bytes_len.Goals as goal

pub loop-member-preserved : goal.loop-member-preserved
loop-member-preserved c =
    let ps = c.args.members.now in
    let i = c.loop-member.member-index in
    let within : i < length ps = omega arith in
    let more = length_more ps i c.member-item.result within in
    let this = ap length c.member-item.is in
    (omega (arith, c.length-bytes.ensures.value, this, more, c.loop-member.invariant.0), omega (arith, c.length-bytes.ensures.most, c.loop-member.invariant.1))
