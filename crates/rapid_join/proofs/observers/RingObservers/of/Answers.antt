use Rattle.std.proofs.Common.{◌≤◌, ℕ, List, ◌++◌, length, length-append, Option, Some, None, ap, sym, ◌∙◌, arith}
use Rattle.std.specs.Option.{option_to_list}
use Rattle.rapid_model.specs.Process.{Process}
use Rattle.rapid_model.specs.Ring.{observers_of}
use Rattle.rapid_rings.proofs.Numbers.{filter_map_more}
use Rattle.rapid_join.proofs.observers.RingObservers.of.Goals as goal

one_at_most : (o : Option Process) → length (option_to_list o) ≤ 1
one_at_most None = omega arith
one_at_most (Some p) = omega arith

pub loop-ring-preserved : goal.loop-ring-preserved
loop-ring-preserved c =
    let o = c.observer.result in
    let by_ring : ℕ → Option Process = λ k. (observers_of c.args.rings.now).observer k c.args.process.now in
    record {
      found =
          c.in_ok-push_any.ensures
          ∙ ap (λ (o : Option Process). c.loop-ring.observers.items ++ option_to_list o) c.observer.ensures
          ∙ ap (λ (xs : List Process). xs ++ option_to_list (by_ring c.loop-ring.ring)) c.loop-ring.invariant.found
          ∙ sym (filter_map_more by_ring c.loop-ring.ring);
      few =
          let more = ap length c.in_ok-push_any.ensures ∙ length-append c.loop-ring.observers.items (option_to_list o) in
          omega (arith, more, one_at_most o, c.loop-ring.invariant.few);
    }
