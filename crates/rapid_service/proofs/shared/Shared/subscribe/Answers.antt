use Rattle.std.proofs.lemmas.Result.{IfErr-weaker}
use Rattle.rapid_service.proofs.shared.Shared.subscribe.Goals as goal

pub returns-clause-refused : goal.returns-clause-refused
returns-clause-refused g c = IfErr-weaker c.subscribe.result _ _ (λ _ p. (_, p)) c.subscribe.ensures.refused
