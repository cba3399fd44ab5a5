use Rattle.std.proofs.Common.{◌∙◌, ◌+◌, ap, sym, drop}
use Rattle.rapid_cut.specs.Growing.{without_all}
use Rattle.rapid_cut.proofs.Fresh.{all_none, all_next, takes_for}
use Rattle.rapid_cut.proofs.Passing.{drop_next, drop_end}
use Rattle.rapid_cut.proofs.growing.take_out.Goals as goal

pub loop-added-preserved : goal.loop-added-preserved
loop-added-preserved c =
    let a = c.added-item.result in
    all_next c.loop-added.reports c.take_out.new.self (drop (c.loop-added.added-index + 1) c.args.others.now) a
    (takes_for c.as_ref.result a.subject a.rings.direct c.loop-added.reports.direct c.take_out.new.self.direct c.as_ref.ensures c.take_out.ensures.direct)
    (takes_for c.as_ref.result a.subject a.rings.all c.loop-added.reports.all c.take_out.new.self.all c.as_ref.ensures c.take_out.ensures.all)
    ∙ ap (without_all c.loop-added.reports) (sym (drop_next c.args.others.now c.loop-added.added-index c.added-item.result c.loop-added-test.true c.added-item.is)) ∙ c.loop-added.invariant

pub returns : goal.returns
returns c =
    sym (all_none c.loop-added.reports (drop c.loop-added.added-index c.args.others.now) (drop_end c.args.others.now c.loop-added.added-index c.loop-added-test.false)) ∙ c.loop-added.invariant
