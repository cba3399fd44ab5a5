use Rattle.std.proofs.Common.{subst, sym, rules}
use Rattle.std.proofs.lemmas.Result.{on_ok_weaker}
use Rattle.rapid_text.specs.Underway.{Feeds}
use Rattle.rapid_text.proofs.Streams.{on_err, feeds_first, feeds_line, feeds_rest, feeds_stopped}
use Rattle.rapid_text.proofs.stream.feed.Goals as goal

pub loop-front-init : goal.loop-front-init
loop-front-init g c = feeds_first g.E.Engine.prints g.met.E.Engine.too_long c.args.engine.now c.args.line.now c.args.part.now c.args.output.now.items

pub returns-in_err-end_line-clause-begun : goal.returns-in_err-end_line-clause-begun
returns-in_err-end_line-clause-begun g c =
    on_err _ c.from_residual.result
    (feeds_stopped g.E.Engine.prints g.E.Engine.met g.met.E.Engine.speaks _ _ _ _ _ _ _ _
    (subst (Feeds g.E.Engine.prints c.args.engine.now c.loop-front.engine c.args.line.now c.loop-front.line c.args.part.now c.loop-front.rest.now c.args.output.now.items)
    (sym c.in_err-end_line.ensures.unchanged) c.loop-front.invariant))

pub loop-front-preserved : goal.loop-front-preserved
loop-front-preserved g c =
    let p = g.E.Engine.prints in
    let ended = c.in_ok-end_line.ensures.ok in
    subst (λ k. Feeds p c.args.engine.now c.end_line.new.engine c.args.line.now k c.args.part.now c.in-Some.others.now c.args.output.now.items c.end_line.new.output.items) (sym c.in_ok-end_line.ensures.cleared)
    (feeds_line p g.met.E.Engine.too_long c.args.engine.now c.loop-front.engine c.end_line.new.engine c.args.line.now c.loop-front.line ended.kept c.in-Some.front.now c.loop-front.rest.now c.in-Some.others.now
    c.args.part.now c.args.output.now.items c.loop-front.output.items c.end_line.new.output.items c.loop-front.invariant
    ended.held_no_end ended.kept_no_end (search rules) (search rules) ended.keeps ended.answered)

pub returns-clause-ok : goal.returns-clause-ok
returns-clause-ok g c =
    on_ok_weaker c.keep.result (λ kept.
    feeds_rest g.E.Engine.prints g.met.E.Engine.too_long c.args.engine.now c.loop-front.engine c.args.line.now c.loop-front.line c.keep.new.self c.loop-front.rest.now c.args.part.now
    c.args.output.now.items c.loop-front.output.items c.loop-front.invariant c.keep.ensures.before c.keep.ensures.unended (search rules) kept) c.keep.ensures.ok

pub returns-clause-begun : goal.returns-clause-begun
returns-clause-begun g c = on_err _ c.keep.result (feeds_stopped g.E.Engine.prints g.E.Engine.met g.met.E.Engine.speaks _ _ _ _ _ _ _ _ c.loop-front.invariant)
