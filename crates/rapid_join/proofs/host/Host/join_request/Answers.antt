use Rattle.rapid_join.proofs.Waiting.{host_few}
use Rattle.rapid_join.proofs.host.Host.join_request.Goals as goal

pub invariant_of-self-else-is_full_for : goal.invariant_of-self-else-is_full_for
invariant_of-self-else-is_full_for c = (
  c.self.invariant.0,
  host_few _ c.args.self.now c.insert.new.self c.args.joiner.now c.is_full_for.result c.self.invariant.1 c.self.view_is c.is_full_for.ensures c.if-is_full_for.false c.in_ok-insert.ensures.ok,
)

pub returns-in_ok-insert-clause-few : goal.returns-in_ok-insert-clause-few
returns-in_ok-insert-clause-few c =
    host_few _ c.args.self.now c.insert.new.self c.args.joiner.now c.is_full_for.result c.self.invariant.1 c.self.view_is c.is_full_for.ensures c.if-is_full_for.false c.in_ok-insert.ensures.ok
