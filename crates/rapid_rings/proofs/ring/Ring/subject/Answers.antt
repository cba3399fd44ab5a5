use Rattle.std.proofs.Common.{ap, Some, ◌∙◌, []}
use Rattle.std.specs.Option.{option_eq}
use Rattle.std.specs.List.{find}
use Rattle.rapid_model.specs.Process.{same_bytes}
use Rattle.rapid_model.specs.Ring.{ring_observer}
use Rattle.rapid_rings.specs.Seats.{member_if_any}
use Rattle.rapid_rings.proofs.Orders.{has_seat, member_is, subject_after}
use Rattle.rapid_rings.proofs.ring.Ring.subject.Goals as goal

pub returns : goal.returns
returns c observer h =
    let k = c.args.number in
    let ms = c.args.members.now in
    let xs = c.args.self.now in
    let seat = has_seat k ms xs c.args.place observer c.requires.order c.requires.ascend h in
    let found = c.place_after.ensures seat.0 seat.1 in
    c.member_at.ensures
    ∙ ap (member_if_any ms) found.2
    ∙ subject_after k ms xs found.0 c.args.place c.requires.order c.requires.ascend found.1
    ∙ ap (λ o. find (λ m. option_eq same_bytes (ring_observer ms k m) (Some o)) ms) ((member_is ms c.args.place observer h).1 [])
