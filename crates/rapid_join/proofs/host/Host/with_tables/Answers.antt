use Rattle.std.proofs.Common.{sym, ◌∙◌}
use Rattle.rapid_join.proofs.Waiting.{none_few}
use Rattle.rapid_join.proofs.host.Host.with_tables.Goals as goal

pub invariant_of-result : goal.invariant_of-result
invariant_of-result c = (
  c.in_ok-try_copy-2.ensures ∙ c.requires ∙ sym c.in_ok-try_copy.ensures,
  none_few c.new.result c.new.ensures,
)
