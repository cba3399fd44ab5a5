use Rattle.std.proofs.Common.{◌≡◌, List, sym, ap, subst, ◌∙◌, ◌&&◌, true, filter}
use Rattle.std.specs.Prelude.{is_some}
use Rattle.std.specs.List.{find}
use Rattle.std.specs.Ordering.{is_lt}
use Rattle.rapid_model.specs.Process.{bytes_cmp}
use Rattle.rapid_model.specs.World.{Peer}
use Rattle.rapid_world.specs.Found.{AreFound, runs}
use Rattle.rapid_world.proofs.Next.{above_runs, passed, stopped, ended}
use Rattle.rapid_world.proofs.peers.Nodes.running_above.Goals as goal

pub loop-id-preserved : goal.loop-id-preserved
loop-id-preserved c =
    passed (runs c.args.self.now) c.in-Some.id.now _ _ c.in-Some.ensures.steps (sym (c.is_some.ensures ∙ ap is_some c.place_under.ensures) ∙ c.if-is_some.false) ∙ c.loop-id.invariant

pub returns-then-is_some : goal.returns-then-is_some
returns-then-is_some c =
    let start : c.into_iter-id-iterator.result ≡ filter (λ id. is_lt (bytes_cmp c.args.last.now id) && true) c.ids.result.now.keys =
    c.into_iter-id-iterator.ensures.into_iter_gives ∙ c.range-id-items.ensures.between tt in
    let are : AreFound c.self.inside.by_id c.self.inside.by_endpoint c.args.self.now = subst (λ (l : List Peer). AreFound c.self.inside.by_id c.self.inside.by_endpoint l) c.self.view_is c.self.invariant.found in
    stopped (runs c.args.self.now) c.in-Some.id.now _ _ c.in-Some.ensures.steps (sym (c.is_some.ensures ∙ ap is_some c.place_under.ensures) ∙ c.if-is_some.true)
    ∙ c.loop-id.invariant ∙ ap (find (runs c.args.self.now)) start ∙ above_runs c.ids.result.now.keys c.self.inside.by_id c.self.inside.by_endpoint c.args.self.now c.args.last.now c.ids.ensures are c.range-id-items.ensures.ordered

pub returns : goal.returns
returns c =
    let start : c.into_iter-id-iterator.result ≡ filter (λ id. is_lt (bytes_cmp c.args.last.now id) && true) c.ids.result.now.keys =
    c.into_iter-id-iterator.ensures.into_iter_gives ∙ c.range-id-items.ensures.between tt in
    let are : AreFound c.self.inside.by_id c.self.inside.by_endpoint c.args.self.now = subst (λ (l : List Peer). AreFound c.self.inside.by_id c.self.inside.by_endpoint l) c.self.view_is c.self.invariant.found in
    ended (runs c.args.self.now) _ c.in-None.ensures.steps.0
    ∙ c.loop-id.invariant ∙ ap (find (runs c.args.self.now)) start ∙ above_runs c.ids.result.now.keys c.self.inside.by_id c.self.inside.by_endpoint c.args.self.now c.args.last.now c.ids.ensures are c.range-id-items.ensures.ordered
