use Rattle.std.proofs.Common.{◌≡◌, ◌∙◌, ◌-◌, ℕ, length, take, drop, ap, arith, length-drop}
use Rattle.std.proofs.lemmas.List.{take_rest}
use Rattle.rapid_transport.proofs.Sending.{on_err, part_and_none, wrote_more}
use Rattle.rapid_transport.proofs.engine.send.Goals as goal

pub returns-in_err-written-clause-part : goal.returns-in_err-written-clause-part
returns-in_err-written-clause-part g c =
    let i = c.loop-written.invariant in
    let less = c.loop-written-test.true in
    on_err _ c.from_residual.result (part_and_none _ _ _ c.args.frame.now c.loop-written.written (omega (arith, less, ap (length {A = ℕ}) c.as_slice-bytes.ensures)) i.wrote c.in_err-written.ensures.unchanged)

pub loop-written-preserved : goal.loop-written-preserved
loop-written-preserved g c =
    let i = c.loop-written.invariant in
    let frame = c.args.frame.now in
    let shown : c.as_slice-bytes.result.now ≡ frame = c.as_slice-bytes.ensures in
    let rest : take (length c.as_slice-bytes.result.now - c.loop-written.written) (drop c.loop-written.written c.as_slice-bytes.result.now) ≡ drop c.loop-written.written frame = take_rest c.as_slice-bytes.result.now c.loop-written.written ∙ ap (drop c.loop-written.written) shown in
    record {
      within = omega (arith, c.in_ok-written.ensures.bound.1, ap (length {A = ℕ}) rest, length-drop c.loop-written.written frame, i.within);
      wrote = wrote_more _ _ _ frame c.loop-written.written c.in_ok-written.field-0 _ i.wrote rest c.in_ok-written.ensures.ok;
      counts = c.in_ok-written.ensures.counts ∙ i.counts;
    }
