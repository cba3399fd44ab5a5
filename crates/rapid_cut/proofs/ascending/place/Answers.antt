use Rattle.std.proofs.Common.{rules}
use Rattle.std.proofs.lemmas.Fn.{always_returns_same}
use Rattle.rapid_model.specs.Process.{process_cmp}
use Rattle.rapid_cut.proofs.ascending.place.Goals as goal

pub returns-clause-position : goal.returns-clause-position
returns-clause-position c =
    c.binary_search_by.ensures.position (λ p. process_cmp p c.args.process.now) (always_returns_same _ _ _ (λ a r g k. (search rules, search rules)))
