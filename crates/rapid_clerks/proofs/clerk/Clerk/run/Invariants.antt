use Rattle.std.proofs.Common.{◌≡◌, ℕ, ◌+◌, ◌<◌, ◌≤◌, All, take}
use Rattle.rapid_clerks.specs.Jobs.{HandedIn, IsPast}
use Rattle.rapid_clerks.specs.declared.verdict.Ended.TheVariants as ended
use Rattle.rapid_clerks.proofs.clerk.Clerk.run.Given as goal

abbrev pub invariant-loop-job : goal.invariant-loop-job
invariant-loop-job g l =
    (l.turn ≡ l.job-index) × (l.done + l.self.passed ≡ l.job-index) × (l.self.ended ≡ ended.Through) × (l.self.share.parts ≡ l.initial.self.share.parts) × (l.self.worker ≡ l.initial.self.worker) × (l.self.share.amount ≡ l.initial.self.share.amount + l.done) × All (IsPast g.B.DoJob.answered) (take l.job-index l.jobs) × HandedIn g.B.DoJob.handed l.initial.self.share.amount (take l.job-index l.jobs) l.self.share.amount × ((turn : ℕ) → 0 < turn → turn ≤ l.job-index → g.G.Gate.has_let_in l.initial.self.worker turn × g.G.Gate.was_told l.initial.self.worker turn)
