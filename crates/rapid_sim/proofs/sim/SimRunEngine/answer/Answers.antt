use Rattle.std.proofs.Common.{◌++◌, ◌∙◌, ap}
use Rattle.std.proofs.lemmas.Result.{on_ok_weaker}
use Rattle.rapid_sim.proofs.Lines.{line_answered, where_ok}
use Rattle.rapid_sim.proofs.sim.SimRunEngine.answer.Goals as goal

pub returns-clause-ok : goal.returns-clause-ok
returns-clause-ok c =
    on_ok_weaker c.extend_from_slice.result (λ e.
    line_answered c.args.self.now c.respond.new.self c.args.line.now _ c.args.output.now.items _ c.new-text.result.items c.respond.new.output.items c.in_ok-asked.ensures.named c.new-text.ensures.items c.in_ok-respond.ensures
    (e ∙ ap (λ xs. c.args.output.now.items ++ xs) c.as_slice.ensures.value)) (where_ok _ _ _ _ c.extend_from_slice.ensures.items)
