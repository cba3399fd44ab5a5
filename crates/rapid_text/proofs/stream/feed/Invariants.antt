use Rattle.std.proofs.Common.{length}
use Rattle.rapid_text.specs.Underway.{Feeds}
use Rattle.rapid_text.proofs.stream.feed.Given as goal

abbrev pub invariant-loop-front : goal.invariant-loop-front
invariant-loop-front g l = Feeds g.E.Engine.prints l.fn.engine l.engine l.fn.line l.line l.fn.part l.rest l.fn.output.items l.output.items

abbrev pub decreases-loop-front : goal.decreases-loop-front
decreases-loop-front g l = length l.rest
