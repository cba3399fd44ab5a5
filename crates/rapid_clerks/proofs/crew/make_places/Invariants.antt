use Rattle.std.proofs.Common.{◌≡◌, ℕ, ◌+◌, ◌≤◌, vec_len}
use Rattle.std.specs.Prelude.{vec_capacity}
use Rattle.rapid_clerks.proofs.crew.make_places.Given as goal

abbrev pub invariant-loop-worker : goal.invariant-loop-worker
invariant-loop-worker g l =
    (l.share.parts + l.worker ≡ l.fn.share.parts) × (l.share.amount ≡ l.fn.share.amount) × (vec_len l.places ≡ l.worker) × (l.workers ≤ vec_capacity l.places)
