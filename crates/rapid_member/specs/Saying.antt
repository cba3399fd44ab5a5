-- A batch that is said and taken.
use Rattle.std.specs.Prelude.{List, map}
use Rattle.rapid_model.specs.Alert.{Alert}
use Rattle.rapid_model.specs.Message.{Batch, item_of}
use Rattle.rapid_model.specs.Node.{MemberState, Others}
use Rattle.rapid_model.specs.Member.{Work, says, and_then, current_id, take_batch}

-- These alerts go out as a batch, which is taken.
abbrev pub says_batch : MemberState → List Alert → Work
says_batch s xs = and_then (says s Others (Batch (current_id s) (map item_of xs))) (λ s'. take_batch s' xs)
