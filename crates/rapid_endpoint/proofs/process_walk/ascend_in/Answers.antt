use Rattle.std.proofs.Common.{sym, ◌∙◌, List, ℕ, Result, true, false}
use Rattle.std.specs.Prelude.{Ok}
use Rattle.rapid_model.specs.Tags.{TagsFault}
use Rattle.rapid_model.specs.Process.{Process}
use Rattle.rapid_endpoint.proofs.Listed.{ascend_further}
use Rattle.rapid_endpoint.proofs.process_walk.ascend_in.Goals as goal

abbrev given : Process → List ℕ → Result (Process × List ℕ) TagsFault
given p rest = Ok (p, rest)

pub returns-then-not-is_process_below : goal.returns-then-not-is_process_below
returns-then-not-is_process_below c =
    ascend_further c.args.count c.loop.counter c.loop.rest.now _ c.loop.before.now _ _ false c.loop-test.true
    (c.in-Ok.ensures.read ∙ (λ i. given (sym c.split_at.ensures.front i) (sym c.split_at.ensures.back i)))
    (sym c.is_process_below.ensures ∙ c.if-not-is_process_below.true) c.loop.invariant

pub loop-preserved : goal.loop-preserved
loop-preserved c =
    ascend_further c.args.count c.loop.counter c.loop.rest.now _ c.loop.before.now _ _ true c.loop-test.true
    (c.in-Ok.ensures.read ∙ (λ i. given (sym c.split_at.ensures.front i) (sym c.split_at.ensures.back i)))
    (sym c.is_process_below.ensures ∙ c.if-not-is_process_below.false) c.loop.invariant
