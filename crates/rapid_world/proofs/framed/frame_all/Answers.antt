use Rattle.std.proofs.Common.{◌<◌, List, [], ◌∷◌, ◌++◌, length, map, take, sym, ap, subst, ◌∙◌, arith}
use Rattle.std.proofs.lemmas.List.{map_push, take_more}
use Rattle.std.proofs.lemmas.List.Elements.{All-more}
use Rattle.rapid_world.specs.Framed.{FramedOutput, framed_output, CanBeFramed}
use Rattle.rapid_world.proofs.framed.frame_all.Goals as goal

pub loop-output-preserved : goal.loop-output-preserved
loop-output-preserved c =
    let xs = c.args.outputs.now in
    let i = c.loop-output.output-index in
    let x = c.output-item.result in
    let within : i < length xs = omega arith in
    record {
      value = c.in_ok-push.ensures.items
          ∙ ap (λ (l : List FramedOutput). l ++ c.in_ok-of.field-0 ∷ []) c.loop-output.invariant.value
          ∙ ap (λ (y : FramedOutput). map framed_output (take i xs) ++ y ∷ []) (c.in_ok-of.ensures.value ∙ ap framed_output c.output-item.is)
          ∙ sym (map_push framed_output (take i xs) _)
          ∙ sym (ap (map framed_output) (take_more xs i x within));
      framed = All-more CanBeFramed xs i x within c.loop-output.invariant.framed (subst CanBeFramed c.output-item.is c.in_ok-of.ensures.framed);
    }
