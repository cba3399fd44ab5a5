use Rattle.std.proofs.Common.{refl, rules}
use Rattle.std.specs.Ordering.{is_lt}
use Rattle.std.proofs.lemmas.List.Sorted.{answers_always}
use Rattle.rapid_model.specs.Process.{process_cmp}
use Rattle.rapid_model.specs.Cut.{is_ascending}
use Rattle.rapid_endpoint.proofs.Ascents.{is_lt_trans}
use Rattle.rapid_config.proofs.Ascending.{ascends_by_neighbours, bytes_total}
use Rattle.rapid_config.proofs.cut.ascend.Goals as goal

pub returns : goal.returns
returns c =
    ascends_by_neighbours (λ p q. is_lt (process_cmp p q)) is_ascending (is_lt_trans bytes_total) refl (λ _ _. refl) c.args.processes.now c.is_sorted_by.result
    (c.is_sorted_by.ensures.cases (λ p q. is_lt (process_cmp p q)) (answers_always _ _ _ (λ f a r g h. search rules)))
