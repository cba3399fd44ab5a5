-- The founding of a world.
use Rattle.std.proofs.Common.{◌≡◌, ℕ, zero, suc, ◌<◌, true, ◌||◌, List, [], ◌∷◌, ◌++◌, arith, map, length, get_or, refl, ap, subst, ◌∙◌}
use Rattle.std.specs.List.{list_any}
use Rattle.std.proofs.lemmas.List.Elements.{All-nil}
use Rattle.rapid_model.proofs.Orders.{same_bytes_decides}
use Rattle.rapid_model.specs.Process.{Process, is_in, same_bytes}
use Rattle.rapid_model.specs.Configuration.{Configuration, IsConfiguration, is_member}
use Rattle.rapid_model.specs.Node.{seed_node}
use Rattle.rapid_model.specs.World.{Peer}
use Rattle.rapid_model.specs.WorldStep.{added}
use Rattle.rapid_model.specs.StoredWorld.{new_world, world_of}
use Rattle.rapid_world.specs.Framed.{HasFrame}
use Rattle.rapid_world.specs.Worlds.{IsRunOf}
use Rattle.std.proofs.lemmas.Bool.{or_right}

stands_in : (ms : List Process) (i : ℕ) (p : Process) → i < length ms → p ≡ get_or ms i p → is_in ms p ≡ true
stands_in [] i p l e = absurd (omega arith)
stands_in (m ∷ ms) zero p l e = ap (λ b. b || list_any (same_bytes p) ms) ((same_bytes_decides p m).1 e)
stands_in (m ∷ ms) (suc i) p l e = or_right (same_bytes p m) _ (stands_in ms i p (omega arith) e)

pub is_there : (c : Configuration) (ms : List Process) (i : ℕ) (p : Process) → ms ≡ c.members → i < length ms → p ≡ get_or ms i p → is_member c p ≡ true
is_there c ms i p same l read = subst (λ (l : List Process). is_in l p ≡ true) same (stands_in ms i p l read)

who_founded : (c : Configuration) (ms : List Process) → map (λ (p : Peer). p.node.me) (map (λ p. added (seed_node c p)) ms) ≡ ms
who_founded c [] = refl
who_founded c (m ∷ ms) = ap (λ (l : List Process). m ∷ l) (who_founded c ms)

nil_end : (ps : List Process) → ps ≡ ps ++ []
nil_end [] = refl
nil_end (p ∷ ps) = ap (λ (l : List Process). p ∷ l) (nil_end ps)

pub founded_run : (c : Configuration) (ps : List Peer) → IsConfiguration c → ps ≡ map (λ p. added (seed_node c p)) c.members → IsRunOf (new_world c) ps []
unfolding world_of
founded_run c ps is e =
    record {
      params = is.params;
      members = is.members;
      peers = e;
      who = ap (map (λ (p : Peer). p.node.me)) e ∙ who_founded c c.members ∙ nil_end c.members;
      packets = refl;
      framed = All-nil HasFrame;
    }
