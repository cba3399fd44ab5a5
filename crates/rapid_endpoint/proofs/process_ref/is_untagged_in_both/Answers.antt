use Rattle.std.proofs.Common.{◌≡◌, ◌-◌, ◌++◌, [], ◌∷◌, length, take, drop, sym, ◌∙◌}
use Rattle.std.proofs.lemmas.Bool.{not-false}
use Rattle.rapid_model.proofs.Orders.{same_bytes_decides}
use Rattle.rapid_endpoint.proofs.Keys.{all_behind}
use Rattle.rapid_endpoint.proofs.Untagged.{in_front}
use Rattle.rapid_endpoint.proofs.process_ref.is_untagged_in_both.Goals as goal

pub returns-then-begins_untagged : goal.returns-then-begins_untagged
returns-then-begins_untagged c is =
    let bytes = c.args.bytes.now in
    let other = c.args.other.now in
    let key = c.in-Some.key in
    let same : key ≡ c.in-Some-read.others = (same_bytes_decides _ _).0 (not-false _ (sym c.ne.ensures ∙ c.if-ne.false)) in
    let one = in_front bytes key (take (length bytes - 22) (drop 22 bytes)) c.tell.ensures c.in-Some.ensures.front (all_behind 22 bytes) (c.begins_untagged.ensures c.if-begins_untagged.true) in
    let two = in_front other key (take (length other - 22) (drop 22 other)) c.tell.ensures (same ∙ c.in-Some-read.ensures.front) (all_behind 22 other) (c.begins_untagged-then-begins_untagged.ensures is) in
    record { process = key ++ 0 ∷ []; first = one.0; second = two.0; within = one.1 }
