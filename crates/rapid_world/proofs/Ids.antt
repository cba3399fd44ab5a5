-- The identifiers of all that run.
use Rattle.std.proofs.Common.{◌≡◌, Bool, true, false, cond, List, [], ◌∷◌, ◌++◌, map, filter, flat_map, refl, ap}
use Rattle.rapid_model.specs.Process.{identifier}
use Rattle.rapid_model.specs.World.{Peer, is_running}
use Rattle.rapid_world.specs.Worlds.{running_id}

pub ids_of_running : (ps : List Peer) → flat_map running_id ps ≡ map (λ p. identifier p.node.me) (filter is_running ps)
ids_of_running [] = refl
ids_of_running (p ∷ ps) = by (is_running p) (ids_of_running ps)
  where
    by : (b : Bool) → flat_map running_id ps ≡ map (λ q. identifier q.node.me) (filter is_running ps) →
        cond b (identifier p.node.me ∷ []) [] ++ flat_map running_id ps ≡ map (λ q. identifier q.node.me) (cond b (p ∷ filter is_running ps) (filter is_running ps))
    by true e = ap (λ l. identifier p.node.me ∷ l) e
    by false e = e
