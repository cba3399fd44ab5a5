-- Replies as the definitions see them.
use Rattle.std.specs.Prelude.{ℕ, List, [], ◌∷◌, ◌++◌}
use Rattle.rapid_model.specs.Lines.{line_feed}
use Rattle.rapid_model.specs.DetectText as text
use Rattle.rapid_model.specs.DetectText.{refusal_line, cut_text, skipped_text}
use Rattle.rapid_detect.specs.declared.reply.DetectRefusal.{DetectRefusal}
use Rattle.rapid_detect.specs.declared.reply.DetectRefusal.TheVariants.{BadLine, NoWatermarks, BadParams, TooLate, TooMany, RingRange, EdgeTwice}
use Rattle.rapid_detect.specs.declared.reply.DetectReply.{DetectReply}
use Rattle.rapid_detect.specs.declared.reply.DetectReply.TheVariants.{Silent, Refused, Batch}

-- A refusal.
abbrev pub refusal_of : DetectRefusal → text.DetectRefusal
refusal_of BadLine = text.BadLine
refusal_of NoWatermarks = text.NoWatermarks
refusal_of BadParams = text.BadParams
refusal_of TooLate = text.TooLate
refusal_of TooMany = text.TooMany
refusal_of RingRange = text.RingRange
refusal_of EdgeTwice = text.EdgeTwice

-- The text of a reply.
abbrev pub reply_text : DetectReply → List ℕ
reply_text Silent = []
reply_text (Refused r) = refusal_line (refusal_of r)
reply_text (Batch cut skipped) = cut_text cut ++ skipped_text skipped ++ line_feed ∷ []
