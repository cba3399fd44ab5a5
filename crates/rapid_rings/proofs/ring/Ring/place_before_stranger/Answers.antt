use Rattle.std.proofs.Common.{ap, sym, subst, ◌∙◌, ◌≡◌, true, false, None}
use Rattle.std.specs.Prelude.{position}
use Rattle.std.specs.List.Sorted.{IsPartitionPoint}
use Rattle.rapid_model.specs.Process.{Process, same_bytes}
use Rattle.rapid_model.specs.Ring.{ring_observer}
use Rattle.rapid_rings.specs.Seats.{member_below, member_if_any, place_at, rank_before}
use Rattle.rapid_rings.proofs.Orders.{observer_of_stranger}
use Rattle.rapid_rings.proofs.ring.Ring.place_before_stranger.Goals as goal

pub returns : goal.returns
returns c =
    let k = c.args.number in
    let ms = c.args.members.now in
    let xs = c.args.self.now in
    let process = c.to_process-process.result in
    let n = c.count_below-below.result in
    let point = subst (λ (key : _). IsPartitionPoint (λ x. member_below ms (key, process) x ≡ true) (λ x. member_below ms (key, process) x ≡ false) xs n) c.key.ensures c.count_below-below.ensures.point in
    let stranger = subst (λ (p : Process). position (same_bytes p) ms ≡ None) (sym c.to_process-process.ensures) c.requires.stranger in
    ap (member_if_any ms) (c.place.ensures ∙ ap (place_at xs) (c.previous.ensures ∙ ap (rank_before n) c.count.ensures))
    ∙ observer_of_stranger k ms xs n process c.requires.order stranger c.count_below-below.ensures.bound point
    ∙ ap (ring_observer ms k) c.to_process-process.ensures
