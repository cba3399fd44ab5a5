use Rattle.std.proofs.Common.{List, map, ap, ◌∙◌}
use Rattle.rapid_model.specs.Node.{seed_node}
use Rattle.rapid_model.specs.Process.{Process}
use Rattle.rapid_model.specs.WorldStep.{added}
use Rattle.rapid_world.proofs.Founders.{founded_run}
use Rattle.rapid_world.proofs.world.World.new.Goals as goal

pub of-requires : goal.of-requires
of-requires c =
    founded_run _ _ c.tell.ensures (c.in_ok-peers.ensures ∙ ap (λ (l : List Process). map (λ p. added (seed_node c.in_ok-configuration.configuration p)) l) c.members.ensures.value)
