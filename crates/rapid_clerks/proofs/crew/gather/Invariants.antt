use Rattle.std.proofs.Common.{◌≡◌, ℕ, ◌+◌, ◌≤◌, All, sum, vec_len}
use Rattle.std.specs.Prelude.{vec_capacity}
use Rattle.std.specs.Vec.Iter.{into_iter_len}
use Rattle.rapid_clerks.proofs.crew.gather.Given as goal

abbrev pub invariant-loop-place : goal.invariant-loop-place
invariant-loop-place g l =
    (l.share.parts + into_iter_len l.place-iterator ≡ l.fn.share.parts + vec_len l.fn.places)
    × (l.share.amount ≡ l.fn.share.amount + sum l.counts.items)
    × (vec_len l.counts + into_iter_len l.place-iterator ≡ vec_len l.fn.places)
    × (vec_len l.fn.places ≤ vec_capacity l.counts)
    × All (λ count. count ≤ g.N.TurnCount.given) l.counts.items
