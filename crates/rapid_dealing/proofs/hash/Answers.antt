use Rattle.std.proofs.Common.{◌<◌, length, rules, arith}
use Rattle.rapid_dealing.proofs.Heaviest.{hashed_more}
use Rattle.rapid_dealing.proofs.hash.Goals as goal

pub loop-byte-preserved : goal.loop-byte-preserved
loop-byte-preserved c =
    let bs = c.args.bytes.now in
    let i = c.loop-byte.byte-index in
    let l : i < length bs = omega arith in
    hashed_more c.args.before bs i c.loop-byte.hash c.from.result l c.loop-byte.invariant (search rules)
