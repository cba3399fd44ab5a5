use Rattle.std.proofs.lemmas.List.Filters.{dedup_is}
use Rattle.rapid_model.specs.Process.{same_bytes}
use Rattle.rapid_cut.proofs.Ordered.{put_in_order}
use Rattle.rapid_world.proofs.lookups.ascending.Goals as goal

pub returns : goal.returns
returns c =
    put_in_order c.args.ids.items c.sort_unstable.new.self.items c.dedup.new.self.items c.sort_unstable.ensures.permutation c.sort_unstable.ensures.sorted
    (dedup_is same_bytes c.sort_unstable.new.self.items c.dedup.new.self.items c.dedup.ensures.filtered)
