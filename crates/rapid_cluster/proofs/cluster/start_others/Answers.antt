use Rattle.std.proofs.Common.{◌∙◌, refl, arith}
use Rattle.rapid_cluster.proofs.Driving.{none_started, one_started}
use Rattle.rapid_cluster.proofs.cluster.start_others.Goals as goal

pub loop-before-init : goal.loop-before-init
loop-before-init g c = record { done = none_started c.args.book.now; counted = omega arith; parts = refl }

pub loop-before-preserved : goal.loop-before-preserved
loop-before-preserved g c =
    let i = c.loop-before.invariant in
    let done = c.in_ok-start.ensures.done in
    record {
      done = one_started c.args.book.now c.loop-before.book c.start.new.book c.loop-before.before done.0 i.done done.1;
      counted = omega (arith, c.in_ok-start.ensures.counted, i.counted);
      parts = c.start.ensures.parts ∙ i.parts;
    }
