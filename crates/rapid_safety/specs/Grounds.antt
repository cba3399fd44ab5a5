-- Clauses of public calls cite this file.
-- On what grounds a configuration was installed.
use Rattle.std.specs.Prelude.{◌≡◌, ◌⊎◌, Contains, IsTrue, None, Some}
use Rattle.rapid_model.specs.Process.{Process}
use Rattle.rapid_model.specs.Cut.{Cut}
use Rattle.rapid_model.specs.Configuration.{Configuration, configuration_id, is_member}
use Rattle.rapid_model.specs.Apply.{apply}
use Rattle.rapid_model.specs.Message.{Decision, Confirm}
use Rattle.rapid_model.specs.World.{World, Entry, Installed}
use Rattle.rapid_model.specs.History.{Sent, Received, acts_in}
use Rattle.rapid_model.specs.Chosen.{Chosen}
use Rattle.rapid_safety.specs.Evidence.{Evidence}

-- Why a configuration was installed: it is the founding one, it was confirmed to a joiner, or a member left by a cut
-- for which it had evidence.
pub data HasGrounds (w : World) (e : Entry) (d : Configuration) : Type 0 where
  founds : e.at ≡ None → d ≡ w.founding → HasGrounds w e d
  joins : e.at ≡ None → (p : Process) → Sent w p (Confirm d) → IsTrue (is_member d e.who) → HasGrounds w e d
  decides : (c : Configuration) (v : Cut) → e.at ≡ Some c → d ≡ apply c v → Evidence c e.who (acts_in w e.who c) v → HasGrounds w e d

-- Each configuration was installed on such grounds.
abbrev pub InstallsGrounded : World → Type 0
InstallsGrounded w = (e : Entry) (d : Configuration) → Contains w.log e → e.act ≡ Installed d → HasGrounds w e d

-- A cut for which a member has evidence is chosen, or the member took a Decision of it.
abbrev pub EvidenceChosen : World → Type 0
EvidenceChosen w =
    (n : Process) (c : Configuration) (v : Cut) → Evidence c n (acts_in w n c) v →
    Chosen w c v ⊎ ((p : Process) × Received w n c p (Decision (configuration_id c) v))
