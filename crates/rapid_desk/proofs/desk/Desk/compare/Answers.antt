use Rattle.std.proofs.Common.{ap}
use Rattle.rapid_desk.specs.Desks.{DeskValue}
use Rattle.rapid_desk.proofs.Following.{compare_follows, compare_known, compare_order}
use Rattle.rapid_desk.proofs.desk.Desk.compare.Goals as goal

pub invariant_of-self : goal.invariant_of-self
invariant_of-self g c =
    (c.self.invariant.0, compare_follows _ c.self.inside.outlets.items c.args.self.now.subscriptions c.args.number c.index_mut.result.now c.compare.new.self c.args.subscription.now.taken _ (ap (λ (v : DeskValue). v.subscriptions) c.self.view_is) c.index_mut.ensures.value c.requires.served c.compare.ensures.known c.self.invariant.1)

pub returns-clause-known : goal.returns-clause-known
returns-clause-known g c =
    compare_known c.self.inside.outlets.items c.args.self.now.subscriptions c.args.number c.index_mut.result.now c.compare.new.self c.args.subscription.now.taken _ (ap (λ (v : DeskValue). v.subscriptions) c.self.view_is) c.index_mut.ensures.value c.requires.served c.compare.ensures.known

pub returns-clause-order : goal.returns-clause-order
returns-clause-order g c =
    compare_order c.self.inside.outlets.items c.args.self.now.subscriptions c.args.number c.index_mut.result.now c.args.subscription.now.taken _ (ap (λ (v : DeskValue). v.subscriptions) c.self.view_is) c.index_mut.ensures.value c.requires.served c.compare.ensures.order
