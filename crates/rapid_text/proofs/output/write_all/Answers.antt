use Rattle.std.proofs.Common.{◌≡◌, ◌-◌, ℕ, length, take, drop, ap, arith, length-drop}
use Rattle.std.proofs.lemmas.List.{take_rest}
use Rattle.rapid_text.proofs.Streams.{on_err, wrote_more, front_of, front_and_none}
use Rattle.rapid_text.proofs.output.write_all.Goals as goal

pub returns-in_err-written-clause-begun : goal.returns-in_err-written-clause-begun
returns-in_err-written-clause-begun g c =
    on_err _ c.from_residual.result (front_and_none _ _ _ c.args.text.now c.loop.written c.loop.invariant.wrote c.in_err-written.ensures.unchanged)

pub loop-preserved : goal.loop-preserved
loop-preserved g c =
    let i = c.loop.invariant in
    let text = c.args.text.now in
    let rest : take (length text - c.loop.written) (drop c.loop.written text) ≡ drop c.loop.written text = take_rest text c.loop.written in
    record {
      within = omega (arith, c.in_ok-written.ensures.bound, ap (length {A = ℕ}) rest, length-drop c.loop.written text, i.within);
      wrote = wrote_more _ _ _ text c.loop.written c.in_ok-written.field-0 _ i.wrote rest c.in_ok-written.ensures.ok;
    }

pub returns-clause-begun : goal.returns-clause-begun
returns-clause-begun g c = front_of _ _ c.args.text.now c.loop.written c.loop.invariant.wrote
