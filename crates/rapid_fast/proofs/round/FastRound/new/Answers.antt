use Rattle.std.proofs.Common.{◌≡◌, ap, ◌∙◌, arith, unwrap_or}
use Rattle.std.specs.FinMap as map
use Rattle.rapid_model.specs.Cut.{cut_cmp}
use Rattle.rapid_model.specs.FastRound.{count_of}
use Rattle.rapid_fast.proofs.round.FastRound.new.Goals as goal

pub invariant_of-result : goal.invariant_of-result
invariant_of-result c =
    record {
      few = c.requires;
      counted = λ v.
          let none : count_of c.new-2.result v ≡ 0 = ap (λ m. count_of m v) c.new-2.ensures ∙ ap (λ o. unwrap_or o 0) (map.get-empty cut_cmp v) in
          omega (arith, none);
    }
