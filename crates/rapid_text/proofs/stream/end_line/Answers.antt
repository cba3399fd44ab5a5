use Rattle.std.proofs.Common.{◌++◌, ap, subst, sym, inl}
use Rattle.std.proofs.lemmas.Result.{on_ok_weaker}
use Rattle.rapid_text.specs.Underway.{Answers}
use Rattle.rapid_text.proofs.stream.end_line.Goals as goal

pub returns-then-is_empty-clause-ok : goal.returns-then-is_empty-clause-ok
returns-then-is_empty-clause-ok g c =
    let p = g.E.Engine.prints in
    on_ok_weaker c.answer.result (λ answered. record {
      kept = c.args.front.now;
      held_no_end = c.is_empty.ensures.unended;
      kept_no_end = c.requires;
      keeps = inl (sym (ap (λ l. l ++ c.args.front.now) (c.is_empty.ensures.value c.if-is_empty.true)));
      answered = subst (λ l. Answers p c.args.engine.now c.answer.new.self l c.args.output.now.items c.answer.new.output.items) c.without_return.ensures answered;
    }) c.answer.ensures.ok

pub returns-clause-ok : goal.returns-clause-ok
returns-clause-ok g c =
    let p = g.E.Engine.prints in
    record {
      kept = c.keep.new.self;
      held_no_end = c.in_ok-keep.ensures.before;
      kept_no_end = c.in_ok-keep.ensures.unended;
      keeps = c.in_ok-keep.ensures.ok;
      answered = subst (λ l. Answers p c.args.engine.now c.answer-2.new.self l c.args.output.now.items c.answer-2.new.output.items) c.ended.ensures.value c.in_ok-answer.ensures.ok;
    }
