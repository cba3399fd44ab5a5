use Rattle.std.proofs.Common.{◌≡◌}
use Rattle.rapid_node_tests.proofs.desk.published.two_threads.look_often.Given as goal

abbrev pub invariant-loop : goal.invariant-loop
invariant-loop l = l.seat.cell ≡ l.fn.seat.cell
