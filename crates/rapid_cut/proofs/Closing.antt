-- Least closed sets, and what is implied.
use Rattle.std.proofs.Common.{◌≡◌, ℕ, ◌≤◌, ◌<◌, true, ◌&&◌, List, arith, nat_lt, nat_le}
use Rattle.std.specs.Cmp.{both_ways}
use Rattle.std.specs.FinSet as set
use Rattle.rapid_model.specs.Process.{Process, is_in}
use Rattle.rapid_model.specs.Ring.{Observers, rings}
use Rattle.rapid_model.specs.Reports.{Report, Reports, tally, reaches_low, is_implied, IsLeastClosed}
use Rattle.rapid_model.proofs.Orders.{reports_total, reports_exact}
use Rattle.rapid_model.proofs.Closure.{some_counted}
use Rattle.std.proofs.lemmas.Bool.{and_parts}

-- two least closed sets are one
pub least_is_one : (t : Observers) (direct r q : Reports) → IsLeastClosed t direct r → IsLeastClosed t direct q → r ≡ q
least_is_one t direct r q a b =
    set.same_set reports_total reports_exact r q (λ x. both_ways _ _ (a.least q b.includes b.closed x) (b.least r a.includes a.closed x))

pub ring_below : (t : Observers) (r : Reports) (x : Report) → is_implied t r x ≡ true → x.1 < t.params.k
ring_below t r x h =
    let a = and_parts (nat_lt x.1 t.params.k && nat_le t.params.l (tally t r x.0)) (reaches_low t r (t.observer x.1 x.0)) h in
    let b = and_parts (nat_lt x.1 t.params.k) (nat_le t.params.l (tally t r x.0)) a.0 in
    below x.1 t.params.k b.0
  where
    below : (m n : ℕ) → nat_lt m n ≡ true → m < n
    below m n e = grind arith

pub on_low : (t : Observers) (ss : List Process) (r : Reports) (x : Report) → 1 ≤ t.params.l → ((y : Report) → set.contains r y ≡ true → is_in ss y.0 ≡ true) → is_implied t r x ≡ true → is_in ss x.0 ≡ true
on_low t ss r x low within h =
    let a = and_parts (nat_lt x.1 t.params.k && nat_le t.params.l (tally t r x.0)) (reaches_low t r (t.observer x.1 x.0)) h in
    let b = and_parts (nat_lt x.1 t.params.k) (nat_le t.params.l (tally t r x.0)) a.0 in
    let enough : t.params.l ≤ tally t r x.0 = at_most t.params.l (tally t r x.0) b.1 in
    some_counted t ss r x.0 (rings t) within (omega (arith, enough, low))
  where
    at_most : (m n : ℕ) → nat_le m n ≡ true → m ≤ n
    at_most m n e = grind arith
