use Rattle.std.proofs.Common.{◌≡◌, take}
use Rattle.rapid_monitor.specs.Probes.{part_of}
use Rattle.rapid_monitor.proofs.probe_book.subjects_in.Given as goal

abbrev pub invariant-loop-subject : goal.invariant-loop-subject
invariant-loop-subject l = l.own.items ≡ part_of l.part l.parts (take l.subject-index l.subjects)
