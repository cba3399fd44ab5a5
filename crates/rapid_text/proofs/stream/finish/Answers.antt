use Rattle.std.proofs.Common.{◌≡◌, ◌≢◌, ◌++◌, [], ◌∷◌, ap, ◌∙◌, sym, subst, length, arith, append-nil}
use Rattle.std.proofs.lemmas.Bool.Decides.{nat_tests}
use Rattle.std.proofs.lemmas.Result.{on_ok_weaker}
use Rattle.rapid_model.specs.Lines.{lines}
use Rattle.rapid_text.proofs.Streams.{is_nil, last_lines}
use Rattle.rapid_text.proofs.stream.finish.Goals as goal

pub returns-then-is_empty-clause-ok : goal.returns-then-is_empty-clause-ok
returns-then-is_empty-clause-ok g c =
    let p = g.E.Engine.prints in
    let none : length c.last-last.result.now ≡ 0 = grind (arith, nat_tests) in
    let nothing : c.args.line.now ≡ [] = is_nil c.args.line.now (ap length (sym c.last-last.ensures.value) ∙ none) in
    record {
      said = [];
      printed = subst (λ l. p c.args.engine.now (lines (l ++ [])) [] (g.E.Engine.met c.args.engine.now)) (sym nothing) (g.met.E.Engine.ends c.args.engine.now);
      appended = sym (append-nil c.args.output.now.items);
    }

pub returns-clause-ok : goal.returns-clause-ok
returns-clause-ok g c =
    let p = g.E.Engine.prints in
    let some : length c.last-last.result.now ≢ 0 = λ e. absurd (grind (arith, nat_tests)) in
    let ends = last_lines c.args.line.now c.last-last.ensures.unended (λ e. some (ap length c.last-last.ensures.value ∙ e)) in
    on_ok_weaker c.answer.result (λ answered. record {
      said = answered.said;
      printed =
          subst (λ ls. p c.args.engine.now ls answered.said (g.E.Engine.met c.answer.new.self)) (ap (λ l. l ∷ []) c.last-last.ensures.value ∙ sym ends)
          (subst (λ xs. p c.args.engine.now (c.last-last.result.now ∷ []) xs (g.E.Engine.met c.answer.new.self)) (append-nil answered.said)
          (answered.goes_on [] [] (g.E.Engine.met c.answer.new.self) (g.met.E.Engine.ends c.answer.new.self)));
      appended = answered.appended;
    }) c.answer.ensures.ok
