use Rattle.rapid_text.proofs.Endings.{return_dropped, return_kept, return_none}
use Rattle.rapid_text.proofs.line_buffer.without_return.Goals.{then-length-eq0-via-then-length-eq0, then-length-eq0-via-else-length-eq0+then-line-length-ne13}
use Rattle.rapid_text.proofs.line_buffer.without_return.Goals as goal

pub returns-then-length-eq0 : goal.returns-then-length-eq0
returns-then-length-eq0 c =
    elim c.then-length-eq0.branch [
      | then-length-eq0-via-then-length-eq0 w ↦ return_none _ w.if-length-eq0.true
      | then-length-eq0-via-else-length-eq0+then-line-length-ne13 w ↦ return_kept _ w.if-line-length-ne13.true
    ]

pub returns : goal.returns
returns c =
    return_dropped _ c.if-length-eq0.false c.if-line-length-ne13.false
