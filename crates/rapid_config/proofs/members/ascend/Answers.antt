use Rattle.std.proofs.Common.{ℕ, List, ◌≡◌, rules, subst}
use Rattle.std.specs.List.{IsAllAdjacentAnswer}
use Rattle.std.specs.Ordering.{is_lt}
use Rattle.std.proofs.lemmas.List.Sorted.{answers_always}
use Rattle.rapid_model.specs.Process.{bytes_cmp}
use Rattle.rapid_config.proofs.Ascending.{identifiers_ascend_alone}
use Rattle.rapid_config.proofs.members.ascend.Goals as goal

pub returns : goal.returns
returns c ps is =
    identifiers_ascend_alone ps c.is_sorted_by.result
    (subst (λ (ids : List (List ℕ)). IsAllAdjacentAnswer (λ a b r. r ≡ is_lt (bytes_cmp a b)) ids c.is_sorted_by.result) is
    (c.is_sorted_by.ensures.cases (λ a b. is_lt (bytes_cmp a b)) (answers_always _ _ _ (λ f a r g h. search rules))))
