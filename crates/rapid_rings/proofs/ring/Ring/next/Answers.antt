use Rattle.std.proofs.Common.{◌≡◌, ap, sym, subst, ◌∙◌, ◌<◌, length, All, map}
use Rattle.rapid_rings.specs.Seats.{IsOrder, moved, placed}
use Rattle.rapid_rings.proofs.Arrivals.{Follow, order_after, stay_ascend, new_below}
use Rattle.rapid_rings.proofs.Following.{if_ok}
use Rattle.rapid_rings.proofs.ring.Ring.next.Goals as goal

pub seats_at-requires : goal.seats_at-requires
seats_at-requires c = subst (λ ps. All (λ p. p < length c.args.after.members.now) ps) (sym c.requires.before.3) (new_below c.requires.before.0 c.args.after.members.now)

pub add_seats-requires : goal.add_seats-requires
add_seats-requires c =
    let follow : Follow c.args.number c.requires.before.0 c.args.after.members.now c.args.self.now c.args.after.places.now c.args.after.newcomers.now =
    record { up = c.requires.ascend; order = c.requires.before.1; moves = c.requires.before.2; arrivals = c.requires.before.3 } in
    let old : c.in_ok-seats.seats.items ≡ moved c.args.after.places.now c.args.self.now = c.in_ok-seats.ensures ∙ ap (moved c.args.after.places.now) (c.as_slice.ensures.value ∙ c.self.view_is) in
    stay_ascend c.args.number c.requires.before.0 c.args.after.members.now c.args.self.now c.args.after.places.now c.args.after.newcomers.now c.in_ok-seats.seats.items follow old

pub ranked-requires : goal.ranked-requires
ranked-requires c =
    let follow : Follow c.args.number c.requires.before.0 c.args.after.members.now c.args.self.now c.args.after.places.now c.args.after.newcomers.now =
    record { up = c.requires.ascend; order = c.requires.before.1; moves = c.requires.before.2; arrivals = c.requires.before.3 } in
    let old : c.in_ok-seats.seats.items ≡ moved c.args.after.places.now c.args.self.now = c.in_ok-seats.ensures ∙ ap (moved c.args.after.places.now) (c.as_slice.ensures.value ∙ c.self.view_is) in
    let more : c.as_slice-2.result.now ≡ map (placed c.args.number c.args.after.members.now) c.args.after.newcomers.now = c.as_slice-2.ensures.value ∙ c.in_ok-more.ensures in
    (order_after c.args.number c.requires.before.0 c.args.after.members.now c.args.self.now c.args.after.places.now c.args.after.newcomers.now c.in_ok-seats.seats.items c.as_slice-2.result.now c.add_seats.new.seats.items follow old more
    c.in_ok-add_seats.ensures.all c.in_ok-add_seats.ensures.ascend).places

pub returns : goal.returns
returns c =
    let follow : Follow c.args.number c.requires.before.0 c.args.after.members.now c.args.self.now c.args.after.places.now c.args.after.newcomers.now =
    record { up = c.requires.ascend; order = c.requires.before.1; moves = c.requires.before.2; arrivals = c.requires.before.3 } in
    let old : c.in_ok-seats.seats.items ≡ moved c.args.after.places.now c.args.self.now = c.in_ok-seats.ensures ∙ ap (moved c.args.after.places.now) (c.as_slice.ensures.value ∙ c.self.view_is) in
    let more : c.as_slice-2.result.now ≡ map (placed c.args.number c.args.after.members.now) c.args.after.newcomers.now = c.as_slice-2.ensures.value ∙ c.in_ok-more.ensures in
    if_ok c.ranked.result (λ ring is. subst (IsOrder c.args.number c.args.after.members.now) (sym is)
    (order_after c.args.number c.requires.before.0 c.args.after.members.now c.args.self.now c.args.after.places.now c.args.after.newcomers.now c.in_ok-seats.seats.items c.as_slice-2.result.now c.add_seats.new.seats.items follow old more
    c.in_ok-add_seats.ensures.all c.in_ok-add_seats.ensures.ascend)) c.ranked.ensures
