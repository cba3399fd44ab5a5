-- Clauses of public calls cite this file.
-- The text of what a node reports.
use Rattle.std.specs.Prelude.{◌++◌, codes, decimal}
use Rattle.rapid_model.specs.Bytes.{Text}
use Rattle.rapid_model.specs.EndpointText.{endpoint_text}
use Rattle.rapid_lines.specs.declared.note.Answer.{Answer}
use Rattle.rapid_lines.specs.declared.note.Answer.TheVariants.{Nothing, Safe, InUse, Changed, TooMany}
use Rattle.rapid_lines.specs.declared.note.Note.{Note}
use Rattle.rapid_lines.specs.declared.note.Note.TheVariants.{InVain, Removed}

-- The reply to a question of a joiner, and what to see to.
abbrev pub answer_text : Answer → Text
answer_text Nothing = codes "none; see that a member runs there"
answer_text Safe = codes "it may join; see that most members run, with ticks"
answer_text InUse = codes "a member has its identifier or its endpoint"
answer_text Changed = codes "the configuration has changed"
answer_text TooMany = codes "too many others are joining"

-- What is reported.
abbrev pub note_text : Note → Text
note_text (InVain asked) =
    codes "no view after question " ++ (decimal asked.question ++ (codes " to " ++ (endpoint_text asked.seed ++ (codes "; last answer: " ++ answer_text asked.answer))))
note_text (Removed height) =
    codes "this node was removed and is no member from height " ++ decimal height ++ codes " on: start another in its place"
