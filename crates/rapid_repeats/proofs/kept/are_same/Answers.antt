use Rattle.std.proofs.Common.{sym, ◌∙◌}
use Rattle.rapid_repeats.proofs.kept.are_same.Goals as goal

pub returns-clause-same : goal.returns-clause-same
returns-clause-same c e = sym c.alerts.ensures.value ∙ c.says_same.ensures.same e ∙ c.alerts-2.ensures.value

pub returns-clause-told : goal.returns-clause-told
returns-clause-told c e = c.says_same.ensures.told (c.alerts.ensures.value ∙ e ∙ sym c.alerts-2.ensures.value)
