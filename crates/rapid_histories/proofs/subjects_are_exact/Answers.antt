use Rattle.rapid_histories.proofs.Observing.{subjects_are_exact as exact, subjects_stand_by_ring as by_ring}
use Rattle.rapid_histories.proofs.subjects_are_exact.Goals as goal

pub returns : goal.returns
returns c = record { exact = exact; by_ring = by_ring }
