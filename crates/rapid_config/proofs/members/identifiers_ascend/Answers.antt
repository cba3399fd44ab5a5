use Rattle.std.proofs.Common.{refl, rules}
use Rattle.std.specs.Ordering.{is_lt}
use Rattle.std.proofs.lemmas.List.Sorted.{answers_always}
use Rattle.rapid_model.specs.Process.{identifier, bytes_cmp}
use Rattle.rapid_model.specs.Configuration.{identifiers_ascend}
use Rattle.rapid_endpoint.proofs.Ascents.{is_lt_trans}
use Rattle.rapid_config.proofs.Ascending.{ascends_by_neighbours, bytes_total}
use Rattle.rapid_config.proofs.members.identifiers_ascend.Goals as goal

pub returns : goal.returns
returns c =
    ascends_by_neighbours (λ p q. is_lt (bytes_cmp (identifier p) (identifier q))) identifiers_ascend (λ x y z. is_lt_trans bytes_total (identifier x) (identifier y) (identifier z)) refl (λ _ _. refl) c.args.processes.now
    c.is_sorted_by.result (c.is_sorted_by.ensures.cases (λ p q. is_lt (bytes_cmp (identifier p) (identifier q))) (answers_always _ _ _ (λ f a r g h. search rules)))
