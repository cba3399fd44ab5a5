use Rattle.std.proofs.Common.{length, arith}
use Rattle.rapid_text.proofs.Splitting.{IsWordEnd, word_taken, word_dropped}
use Rattle.rapid_text.proofs.line.word_len.Goals as goal

pub returns-then-byte-eq32 : goal.returns-then-byte-eq32
returns-then-byte-eq32 c =
    let e : IsWordEnd c.args.line.now c.loop-i.i = record { within = omega arith; none = c.loop-i.invariant; some = λ _. c.if-byte-eq32.true } in
    record { word = word_taken _ _ e; rest = word_dropped _ _ e; within = omega arith }

pub returns : goal.returns
returns c =
    let e : IsWordEnd c.args.line.now (length c.args.line.now) = record { within = omega arith; none = λ k h. c.loop-i.invariant k (omega arith); some = λ h. absurd (omega arith) } in
    record { word = word_taken _ _ e; rest = word_dropped _ _ e; within = omega arith }
