use Rattle.std.proofs.Common.{ℕ, List, ap, ◌∙◌}
use Rattle.std.specs.FinSet as set
use Rattle.rapid_model.specs.Process.{bytes_cmp}
use Rattle.rapid_join.proofs.Holding.{same_endpoints}
use Rattle.rapid_join.proofs.endpoints.MemberEndpoints.of.Goals as goal

pub returns : goal.returns
returns c =
    ap (λ (xs : List (List ℕ)). set.from_list {R = bytes_cmp} xs) c.in_ok-sorted.ensures
    ∙ same_endpoints c.args.members.now c.in_ok-endpoints.endpoints.items c.sort_unstable.new.self.items c.in_ok-endpoints.ensures c.sort_unstable.ensures.permutation
