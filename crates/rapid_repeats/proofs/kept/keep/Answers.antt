use Rattle.rapid_repeats.proofs.Tables.{put_or_same}
use Rattle.rapid_repeats.proofs.kept.keep.Goals as goal

pub returns-then-len-most-clause-kept : goal.returns-then-len-most-clause-kept
returns-then-len-most-clause-kept g c = put_or_same g.K.Ord.cmp _ _ _ _ c.insert.result c.insert.ensures.entries c.insert.ensures.err
