use Rattle.std.proofs.Common.{◌≡◌, ℕ, List, sym, ap, ◌∙◌}
use Rattle.std.specs.Prelude.{is_some}
use Rattle.std.specs.List.{list_any}
use Rattle.rapid_model.specs.Process.{identifier, endpoint}
use Rattle.rapid_model.specs.World.{Peer, has_identifier, running_at}
use Rattle.rapid_model.specs.StoredWorld.{world_of}
use Rattle.rapid_world.proofs.Cases.{start_used, start_busy, start_open}
use Rattle.rapid_world.proofs.world.World.start.Goals as goal

pub returns-then-is_used-clause-refused : goal.returns-then-is_used-clause-refused
returns-then-is_used-clause-refused c =
    let used : c.is_used.result ≡ list_any (has_identifier (identifier c.args.process)) (world_of c.args.self.now).peers =
    c.is_used.ensures ∙ ap (λ (l : List Peer). list_any (has_identifier c.id.result) l) c.peers.ensures ∙ ap (λ (i : List ℕ). list_any (has_identifier i) (world_of c.args.self.now).peers) c.id.ensures in
    start_used c.args.self.now c.args.process c.args.seed c.requires (sym used ∙ c.if-is_used.true)

pub returns-then-is_some-clause-refused : goal.returns-then-is_some-clause-refused
returns-then-is_some-clause-refused c =
    let used : c.is_used.result ≡ list_any (has_identifier (identifier c.args.process)) (world_of c.args.self.now).peers =
    c.is_used.ensures ∙ ap (λ (l : List Peer). list_any (has_identifier c.id.result) l) c.peers.ensures ∙ ap (λ (i : List ℕ). list_any (has_identifier i) (world_of c.args.self.now).peers) c.id.ensures in
    let busy : c.is_some.result ≡ is_some (running_at (world_of c.args.self.now) (endpoint c.args.process)) =
    c.is_some.ensures ∙ ap is_some (c.running_at.ensures ∙ ap (running_at (world_of c.args.self.now)) c.endpoint.ensures) in
    start_busy c.args.self.now c.args.process c.args.seed c.requires (sym used ∙ c.if-is_used.false) (sym busy ∙ c.if-is_some.true)

pub join-requires-clause-unused : goal.join-requires-clause-unused
join-requires-clause-unused c =
    let used : c.is_used.result ≡ list_any (has_identifier (identifier c.args.process)) (world_of c.args.self.now).peers =
    c.is_used.ensures ∙ ap (λ (l : List Peer). list_any (has_identifier c.id.result) l) c.peers.ensures ∙ ap (λ (i : List ℕ). list_any (has_identifier i) (world_of c.args.self.now).peers) c.id.ensures in
    sym used ∙ c.if-is_used.false

pub join-requires-clause-free : goal.join-requires-clause-free
join-requires-clause-free c =
    let busy : c.is_some.result ≡ is_some (running_at (world_of c.args.self.now) (endpoint c.args.process)) =
    c.is_some.ensures ∙ ap is_some (c.running_at.ensures ∙ ap (running_at (world_of c.args.self.now)) c.endpoint.ensures) in
    sym busy ∙ c.if-is_some.false

pub returns-in-Err-clause-refused : goal.returns-in-Err-clause-refused
returns-in-Err-clause-refused c =
    let used : c.is_used.result ≡ list_any (has_identifier (identifier c.args.process)) (world_of c.args.self.now).peers =
    c.is_used.ensures ∙ ap (λ (l : List Peer). list_any (has_identifier c.id.result) l) c.peers.ensures ∙ ap (λ (i : List ℕ). list_any (has_identifier i) (world_of c.args.self.now).peers) c.id.ensures in
    let busy : c.is_some.result ≡ is_some (running_at (world_of c.args.self.now) (endpoint c.args.process)) =
    c.is_some.ensures ∙ ap is_some (c.running_at.ensures ∙ ap (running_at (world_of c.args.self.now)) c.endpoint.ensures) in
    start_open c.args.self.now c.args.process c.args.seed c.requires (sym used ∙ c.if-is_used.false) (sym busy ∙ c.if-is_some.false)
