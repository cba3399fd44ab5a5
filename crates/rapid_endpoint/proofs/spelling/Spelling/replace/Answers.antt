use Rattle.std.proofs.Common.{◌≡◌, max, length, ap, ◌∙◌}
use Rattle.rapid_endpoint.proofs.Rooms.{room_replaced}
use Rattle.rapid_endpoint.proofs.spelling.Spelling.replace.Goals as goal

pub invariant_of-self : goal.invariant_of-self
invariant_of-self c =
    let most : c.max-cleared.result ≡ max (length c.args.bytes.now) c.self.inside.used =
    c.max-cleared.ensures ∙ ap (max (length c.args.bytes.now)) c.from.ensures in
    room_replaced c.self.inside.used c.max-cleared.result c.self.inside.bytes c.args.bytes.now c.copy_from_slice.new.self
    c.fill.new.self c.self.invariant c.requires most c.copy_from_slice.ensures.after (c.fill.ensures.after (λ _ same. same))
