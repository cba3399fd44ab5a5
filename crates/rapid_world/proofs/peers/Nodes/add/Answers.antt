use Rattle.std.proofs.Common.{ap, ◌∙◌}
use Rattle.rapid_model.specs.Node.{Node}
use Rattle.rapid_model.specs.Process.{identifier, endpoint}
use Rattle.rapid_world.proofs.Finding.{indexed_listed, added_listed}
use Rattle.rapid_world.proofs.peers.Nodes.add.Goals as goal

pub invariant_of-self-in_err-insert-2 : goal.invariant_of-self-in_err-insert-2
invariant_of-self-in_err-insert-2 c =
    indexed_listed c.self.inside.by_id c.self.inside.by_endpoint c.insert.new.self c.insert-2.new.self c.self.inside.endpoints.items c.reserve-2.new.self.items c.args.self.now c.self.inside.peers.items c.reserve.new.self.items c.args.peer c.id.result c.len-place.result
    c.self.invariant c.requires c.self.view_is (c.id.ensures ∙ ap identifier (c.process-process.ensures ∙ ap (λ (n : Node). n.me) c.node.ensures))
    c.in_ok-insert.ensures.ok c.in_err-insert-2.ensures.unchanged c.reserve.ensures.items c.reserve-2.ensures.items

pub invariant_of-self-2 : goal.invariant_of-self-2
invariant_of-self-2 c =
    added_listed c.self.inside.by_id c.self.inside.by_endpoint c.insert.new.self c.insert-2.new.self c.self.inside.endpoints.items c.reserve-2.new.self.items c.push_within.new.elements.items c.args.self.now c.self.inside.peers.items c.reserve.new.self.items c.push_within-2.new.elements.items c.args.peer c.id.result c.endpoint-endpoint.result c.len-place.result
    c.self.invariant c.requires c.self.view_is (c.len-place.ensures ∙ c.self.inside.peers.ok.0)
    (c.id.ensures ∙ ap identifier (c.process-process.ensures ∙ ap (λ (n : Node). n.me) c.node.ensures))
    (c.endpoint-endpoint.ensures ∙ ap endpoint (c.process-process.ensures ∙ ap (λ (n : Node). n.me) c.node.ensures))
    c.in_ok-insert.ensures.ok c.in_ok-insert-2.ensures.ok c.reserve.ensures.items c.push_within-2.ensures c.reserve-2.ensures.items c.push_within.ensures
