use Rattle.std.proofs.Common.{arith, map, ap, ◌∙◌}
use Rattle.std.proofs.lemmas.List.{take_all}
use Rattle.rapid_sharded_map.proofs.Dealt.{all_dealt}
use Rattle.rapid_sharded_map.proofs.stores.deal.Goals as goal

pub returns-clause-owners : goal.returns-clause-owners
returns-clause-owners c =
    all_dealt c.args.configuration.now (λ key. key.now) c.args.keys.now c.loop-key.owners.items
    (c.loop-key.invariant.1 ∙ ap (map _) (take_all c.loop-key.key-index c.args.keys.now (omega arith)))
