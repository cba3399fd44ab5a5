use Rattle.std.proofs.Common.{◌≡◌, ◌&&◌, List, ap, sym, subst, ◌∙◌}
use Rattle.std.specs.Prelude.{is_some, position}
use Rattle.std.specs.List.{list_any}
use Rattle.rapid_model.specs.Process.{Process, identifier, endpoint}
use Rattle.rapid_model.specs.StoredWorld.{StoredWorld, unmarked, with_event, world_of}
use Rattle.rapid_model.specs.World as model
use Rattle.rapid_model.specs.World.{Peer, is_running, has_identifier, has_endpoint}
use Rattle.rapid_world.specs.Worlds.{IsRunOf}
use Rattle.rapid_world.proofs.Finding.{starts_new}
use Rattle.rapid_world.proofs.Giving.{joined_run, joined_stored, no_reports}
use Rattle.rapid_world.proofs.world.World.join.Goals as goal

pub add-requires : goal.add-requires
add-requires c =
    let peers : c.self.inside.peers ≡ (world_of c.args.self.now).peers = c.self.invariant.peers ∙ ap (λ (s : StoredWorld). (world_of s).peers) c.self.view_is in
    starts_new _ _ c.args.process (ap (λ (p : Peer). p.node.me) c.in_ok-peer.ensures)
    (ap (λ (l : List Peer). list_any (has_identifier (identifier c.args.process)) l) peers ∙ c.requires.unused)
    (ap (λ (l : List Peer). is_some (position (λ q. is_running q && has_endpoint (endpoint c.args.process) q) l)) peers ∙ c.requires.free)

pub invariant_of-self-2 : goal.invariant_of-self-2
invariant_of-self-2 c =
    let who : c.in_ok-starter.starter ≡ c.args.process = c.in_ok-starter.ensures ∙ ap (λ (p : Peer). p.node.me) c.in_ok-peer.ensures in
    let pushed : c.push_start.new.self.world ≡ with_event c.reserve_start.new.self.world (unmarked (model.Start c.args.process c.args.seed)) =
    c.push_start.ensures ∙ ap (λ (p : Process). with_event c.reserve_start.new.self.world (unmarked (model.Start p c.args.seed))) who in
    subst (λ (l : List Peer). IsRunOf c.push_start.new.self.world l c.self.inside.mail.packets)
    (sym c.in_ok-add.ensures.added)
    (joined_run c.args.self.now _ _ _ c.args.process c.args.seed _ _ _
    c.self.view_is c.reserve_start.ensures.world pushed c.self.invariant c.requires.open c.requires.unused c.requires.free c.in_ok-peer.ensures)

pub returns-clause-stored : goal.returns-clause-stored
returns-clause-stored c =
    let who : c.in_ok-starter.starter ≡ c.args.process = c.in_ok-starter.ensures ∙ ap (λ (p : Peer). p.node.me) c.in_ok-peer.ensures in
    let pushed : c.push_start.new.self.world ≡ with_event c.reserve_start.new.self.world (unmarked (model.Start c.args.process c.args.seed)) =
    c.push_start.ensures ∙ ap (λ (p : Process). with_event c.reserve_start.new.self.world (unmarked (model.Start p c.args.seed))) who in
    joined_stored c.args.self.now _ _ _ c.args.process c.args.seed _
    c.self.view_is c.reserve_start.ensures.world pushed c.requires.open c.requires.unused c.requires.free (no_reports _ c.new.ensures.items)
