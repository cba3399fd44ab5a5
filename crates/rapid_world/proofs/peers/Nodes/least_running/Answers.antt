use Rattle.std.proofs.Common.{◌≡◌, List, sym, ap, subst, ◌∙◌}
use Rattle.std.specs.Prelude.{is_some}
use Rattle.std.specs.List.{find}
use Rattle.rapid_model.specs.World.{Peer}
use Rattle.rapid_world.specs.Found.{AreFound, runs}
use Rattle.rapid_world.proofs.Next.{least_runs, passed, stopped, ended}
use Rattle.rapid_world.proofs.peers.Nodes.least_running.Goals as goal

pub loop-id-preserved : goal.loop-id-preserved
loop-id-preserved c =
    passed (runs c.args.self.now) c.in-Some.id.now _ _ c.in-Some.ensures.steps (sym (c.is_some.ensures ∙ ap is_some c.place_under.ensures) ∙ c.if-is_some.false) ∙ c.loop-id.invariant

pub returns-then-is_some : goal.returns-then-is_some
returns-then-is_some c =
    let start : c.into_iter-id-iterator.result ≡ c.ids.result.now.keys = c.into_iter-id-iterator.ensures.into_iter_gives ∙ c.iter-id-items.ensures.rest in
    let are : AreFound c.self.inside.by_id c.self.inside.by_endpoint c.args.self.now = subst (λ (l : List Peer). AreFound c.self.inside.by_id c.self.inside.by_endpoint l) c.self.view_is c.self.invariant.found in
    stopped (runs c.args.self.now) c.in-Some.id.now _ _ c.in-Some.ensures.steps (sym (c.is_some.ensures ∙ ap is_some c.place_under.ensures) ∙ c.if-is_some.true)
    ∙ c.loop-id.invariant ∙ ap (find (runs c.args.self.now)) start ∙ least_runs c.ids.result.now.keys c.self.inside.by_id c.self.inside.by_endpoint c.args.self.now c.ids.ensures are c.iter-id-items.ensures.ordered

pub returns : goal.returns
returns c =
    let start : c.into_iter-id-iterator.result ≡ c.ids.result.now.keys = c.into_iter-id-iterator.ensures.into_iter_gives ∙ c.iter-id-items.ensures.rest in
    let are : AreFound c.self.inside.by_id c.self.inside.by_endpoint c.args.self.now = subst (λ (l : List Peer). AreFound c.self.inside.by_id c.self.inside.by_endpoint l) c.self.view_is c.self.invariant.found in
    ended (runs c.args.self.now) _ c.in-None.ensures.steps.0
    ∙ c.loop-id.invariant ∙ ap (find (runs c.args.self.now)) start ∙ least_runs c.ids.result.now.keys c.self.inside.by_id c.self.inside.by_endpoint c.args.self.now c.ids.ensures are c.iter-id-items.ensures.ordered
