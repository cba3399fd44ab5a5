use Rattle.std.proofs.Common.{◌≡◌, ◌+◌, ◌-◌, ◌<◌, ◌∙◌, false, cond, ap, sym, length, Some, arith}
use Rattle.std.specs.List.{find, range_with_len}
use Rattle.rapid_model.specs.StoredWorld.{world_of}
use Rattle.rapid_model.specs.World.{can_deliver}
use Rattle.rapid_world.proofs.Next.{next_or_later}
use Rattle.rapid_world.proofs.world.World.next_deliverable.Goals as goal

pub loop-before-preserved : goal.loop-before-preserved
loop-before-preserved c =
    let w = world_of c.args.self.now in
    let n = c.loop-before.before in
    let sent = length w.packets in
    let no : can_deliver w (n + 1) ≡ false = sym c.can_deliver.ensures ∙ c.if-can_deliver.false in
    let here : n < sent = omega (arith, c.packets-before-end.ensures) in
    c.loop-before.invariant ∙ next_or_later (can_deliver w) n sent here
    ∙ ap (λ b. cond b (Some (n + 1)) (find (can_deliver w) (range_with_len (n + 1 + 1) (sent - (n + 1))))) no
