use Rattle.std.proofs.Common.{rules, tests}
use Rattle.std.proofs.lemmas.Iterator.{YieldsList-from_slice}
use Rattle.std.proofs.lemmas.Iterator.Search.{any_from_yields_List}
use Rattle.rapid_model.specs.Process.{identifier, same_bytes}
use Rattle.rapid_sim.proofs.view.is_among.Goals as goal

pub returns : goal.returns
returns c = any_from_yields_List (λ p. same_bytes c.args.id.now (identifier p)) _ _ _ c.any.ensures.ran (YieldsList-from_slice c.args.processes.now cc) (λ x b q k. search (rules, tests))
