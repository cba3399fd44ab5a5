use Rattle.std.proofs.Common.{ap, sym, ◌∙◌, []}
use Rattle.rapid_model.specs.Ring.{ring_observer}
use Rattle.rapid_rings.specs.Seats.{member_if_any}
use Rattle.rapid_rings.proofs.Lookups.{found_member}
use Rattle.rapid_rings.proofs.Orders.{has_seat, member_is, observer_before}
use Rattle.rapid_rings.proofs.ring.Ring.place_of_observer.Goals as goal

pub returns-in-Some : goal.returns-in-Some
returns-in-Some c =
    let k = c.args.number in
    let ms = c.args.members.now in
    let xs = c.args.self.now in
    let place = c.in-Some.place in
    let process = c.args.process.now in
    let h = found_member ms process place (sym c.requires.place ∙ c.in-Some.is) in
    let seat = has_seat k ms xs place process c.requires.order c.requires.ascend h in
    let found = c.place_before.ensures seat.0 seat.1 in
    ap (member_if_any ms) found.2
    ∙ observer_before k ms xs found.0 place c.requires.order c.requires.ascend found.1
    ∙ ap (ring_observer ms k) ((member_is ms place process h).1 [])
