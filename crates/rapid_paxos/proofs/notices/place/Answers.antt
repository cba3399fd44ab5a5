use Rattle.std.proofs.Common.{rules}
use Rattle.std.proofs.lemmas.Fn.{always_returns_same}
use Rattle.rapid_paxos.specs.Notices.{key_cmp}
use Rattle.rapid_paxos.proofs.notices.place.Goals as goal

pub returns-clause-position : goal.returns-clause-position
returns-clause-position c =
    c.binary_search_by.ensures.position (λ e. key_cmp e.0 (c.args.ballot, c.args.cut.now)) (always_returns_same _ _ _ (λ a r g k. (search rules, search rules)))
