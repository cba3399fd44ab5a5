use Rattle.std.proofs.Common.{◌≡◌, ◌+◌, ◌≤◌, length, ◌∙◌, ap, sym, arith}
use Rattle.rapid_endpoint.specs.Room.{used_length}
use Rattle.rapid_endpoint.proofs.Rooms.{room_more}
use Rattle.rapid_endpoint.proofs.spelling.Spelling.push.Goals as goal

pub invariant_of-self : goal.invariant_of-self
invariant_of-self c =
    let used = c.self.inside.used in
    let more = c.args.more.now in
    let front : length c.args.self.now ≡ used =
    ap length (sym c.self.view_is) ∙ used_length used c.self.inside.bytes c.self.invariant in
    let fits : used + length more ≤ 521 = omega (arith, front, c.requires) in
    rw (c.from-start.ensures, c.copy_from_slice.ensures.after)
    (room_more used _ c.self.inside.bytes more c.self.invariant fits (omega arith))
