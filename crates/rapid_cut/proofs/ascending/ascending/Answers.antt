use Rattle.std.proofs.Common.{rules}
use Rattle.std.specs.Ordering.{is_lt}
use Rattle.std.proofs.lemmas.List.Filters.{dedup_is}
use Rattle.std.proofs.lemmas.List.Sorted.{answers_always, ranks_by}
use Rattle.rapid_model.specs.Process.{process_cmp, same_bytes}
use Rattle.rapid_model.proofs.Orders.{processes_total}
use Rattle.rapid_cut.proofs.Ordered.{put_in_order}
use Rattle.rapid_cut.proofs.ascending.ascending.Goals as goal

pub returns : goal.returns
returns c =
    put_in_order c.args.processes.items c.sort_unstable_by.new.self.items c.dedup.new.self.items c.sort_unstable_by.ensures.permutation
    (c.sort_unstable_by.ensures.sorted (λ p q. is_lt (process_cmp p q)) (ranks_by processes_total (λ p. p)) (answers_always _ _ _ (λ f a r g h. search rules)))
    (dedup_is same_bytes c.sort_unstable_by.new.self.items c.dedup.new.self.items c.dedup.ensures.filtered)
