-- Clauses of public calls cite this file.
-- The questions of a joiner, which it asks at its ticks 1, 11, 21 and so on, and what is reported of those that were in
-- vain.
use Rattle.std.specs.Prelude.{ℕ, ◌%◌, ◌/◌, ◌==◌, ◌&&◌, ◌||◌, nat_le, Bool, if◌then◌else◌, Option, Some, None}
use Rattle.rapid_join.specs.declared.reply.Reply.{Reply}
use Rattle.rapid_join.specs.declared.reply.Reply.TheVariants as reply
use Rattle.rapid_model.specs.Bytes.{Endpoint}
use Rattle.rapid_model.specs.Limits.{question_period}
use Rattle.rapid_lines.specs.declared.note.Answer.{Answer}
use Rattle.rapid_lines.specs.declared.note.Answer.TheVariants.{Nothing, Safe, InUse, Changed, TooMany}
use Rattle.rapid_lines.specs.declared.note.Note.{Note}
use Rattle.rapid_lines.specs.declared.note.Note.TheVariants as note

-- What a reply answers.
abbrev pub answer_of : Reply → Answer
answer_of (reply.Safe id os) = Safe
answer_of reply.EndpointInUse = InUse
answer_of reply.ConfigurationChanged = Changed
answer_of reply.TooManyJoiners = TooMany

-- A question is asked at this tick, counted from 1.
abbrev pub asks_at : ℕ → Bool
asks_at tick = tick % question_period == 1

-- Of questions in vain the first is reported, and each tenth.
abbrev pub is_told : ℕ → Bool
is_told question = (question == 1) || (nat_le 1 question && (question % 10 == 0))

-- What is reported at this tick of a joiner without a view that asks this seed, if anything is; the reply is that to
-- its last question. When the next question is asked, the one before was in vain.
abbrev pub note_at : Endpoint → ℕ → Answer → Option Note
note_at seed tick answer =
    if asks_at tick && is_told (tick / question_period) then Some (note.InVain (record { question = tick / question_period; seed = seed; answer = answer })) else None

-- The reply to the last question after this tick: none if one is asked at it.
abbrev pub answer_at : ℕ → Answer → Answer
answer_at tick answer = if asks_at tick then Nothing else answer
