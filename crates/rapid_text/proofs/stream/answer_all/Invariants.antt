use Rattle.std.proofs.Common.{◌≡◌, []}
use Rattle.rapid_text.specs.Underway.{IsUnderway}
use Rattle.rapid_text.proofs.stream.answer_all.Given as goal

abbrev pub invariant-loop : goal.invariant-loop
invariant-loop g l = record {
  underway : IsUnderway g.E.Engine.prints l.fn.engine (g.R.Read.remaining l.fn.reader) (g.W.Write.contents l.fn.writer) l.engine l.line (g.R.Read.remaining l.reader) (g.W.Write.contents l.writer);
  empty : l.output.items ≡ [];
}
