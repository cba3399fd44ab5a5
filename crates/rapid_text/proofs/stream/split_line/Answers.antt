use Rattle.std.proofs.Common.{◌∙◌, ◌++◌, ◌∷◌, ◌+◌, take, ap, sym, arith}
use Rattle.std.proofs.lemmas.List.{take_rest}
use Rattle.rapid_model.specs.Lines.{line_feed}
use Rattle.rapid_text.proofs.Endings.{no_end_more, end_at}
use Rattle.rapid_text.proofs.stream.split_line.Goals as goal

pub returns-then-byte-eq10 : goal.returns-then-byte-eq10
returns-then-byte-eq10 c =
    let i = c.loop-i.i in
    (c.loop-i.invariant, end_at c.args.bytes.now i (omega arith) c.if-byte-eq10.true ∙ ap (λ ys. take i c.args.bytes.now ++ line_feed ∷ ys) (sym (take_rest c.args.bytes.now (i + 1))))

pub loop-i-preserved : goal.loop-i-preserved
loop-i-preserved c = no_end_more c.args.bytes.now c.loop-i.i (omega arith) c.if-byte-eq10.false c.loop-i.invariant
