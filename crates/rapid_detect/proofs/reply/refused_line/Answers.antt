use Rattle.std.proofs.Common.{rules}
use Rattle.rapid_detect.proofs.reply.refused_line.Goals as goal

pub returns-in-TooLate : goal.returns-in-TooLate
returns-in-TooLate c = search rules
