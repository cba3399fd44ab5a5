use Rattle.std.proofs.Common.{List, Option, ◌<◌, ◌++◌, length, get_or, ap, sym, ◌∙◌, arith}
use Rattle.std.specs.Option.{option_map, option_to_list}
use Rattle.std.proofs.lemmas.List.{get_or_default}
use Rattle.rapid_rings.specs.Seats.{Placed, move_to}
use Rattle.rapid_rings.proofs.Lookups.{filter_map_push}
use Rattle.rapid_rings.proofs.Orders.{none_placed}
use Rattle.rapid_rings.proofs.seats.seats_moved.Goals as goal

pub loop-seat-preserved : goal.loop-seat-preserved
loop-seat-preserved c =
    let places = c.args.places.now in
    let seat = get_or c.args.seats.now c.loop-seat.seat-index none_placed in
    let there : Placed → Option Placed = λ x. option_map (λ p. (x.0, p)) (move_to places x.1) in
    let below : c.loop-seat.seat-index < length c.args.seats.now = omega (arith, c.loop-seat-test.true) in
    c.in_ok-push_moved.ensures
    ∙ ap (λ place. c.loop-seat.kept.items ++ option_to_list (option_map (λ p. (seat.0, p)) place)) c.place_after.ensures
    ∙ ap (λ (xs : List Placed). xs ++ option_to_list (there seat)) c.loop-seat.invariant
    ∙ sym (filter_map_push there c.args.seats.now c.loop-seat.seat-index seat below (get_or_default c.args.seats.now c.loop-seat.seat-index none_placed seat below))
