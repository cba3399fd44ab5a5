use Rattle.std.proofs.Common.{◌≡◌, ◌+◌}
use Rattle.rapid_clerks.specs.Jobs.{DoesJobs}
use Rattle.rapid_cluster.specs.Driven.{starts_of}
use Rattle.rapid_cluster.proofs.cluster.start_others.Given as goal

abbrev pub invariant-loop-before : goal.invariant-loop-before
invariant-loop-before g l = record {
  done : DoesJobs l.fn.book (starts_of l.before) l.book;
  counted : l.share.amount ≡ l.fn.share.amount + l.before;
  parts : l.share.parts ≡ l.fn.share.parts;
}
