use Rattle.std.proofs.Common.{◌≡◌, drop}
use Rattle.rapid_text.specs.Spelled.{spelled_from}
use Rattle.rapid_text.proofs.line.digits.Given as goal

abbrev pub invariant-loop-digit : goal.invariant-loop-digit
invariant-loop-digit l = spelled_from l.value (drop l.digit-index l.word) ≡ spelled_from 0 l.word
