use Rattle.std.proofs.Common.{◌≡◌, ◌≢◌, ℕ, ◌+◌, take, subst, rules, arith}
use Rattle.std.proofs.lemmas.List.Elements.{All-more}
use Rattle.rapid_clerks.specs.Jobs.{HandedIn, no_job, IsPast}
use Rattle.rapid_clerks.specs.declared.verdict.Ended.{Ended}
use Rattle.rapid_clerks.specs.declared.verdict.Verdict.TheVariants.{Ends}
use Rattle.rapid_clerks.proofs.Handing.{handed_next, one_more, is_past}
use Rattle.rapid_clerks.proofs.clerk.Clerk.run.Goals.{in-Done, in-Passed}
use Rattle.rapid_clerks.proofs.clerk.Clerk.run.Goals as goal

pub loop-job-init : goal.loop-job-init
loop-job-init g c = (search rules, search rules, search rules, search rules, search rules, search rules, search rules, no_job, λ turn some few. absurd (omega arith))

pub loop-job-preserved : goal.loop-job-preserved
loop-job-preserved g c =
    let i = c.loop-job.invariant in
    let jobs = c.args.jobs.now in
    let n = c.loop-job.job-index in
    let job = c.job-item.result in
    let answer = c.do_job-answer.ensures in
    let before = c.loop-job.self.share.amount in
    let after = c.do_job-answer.new.share.amount in
    let from = c.args.self.now.share.amount in
    let worker = c.args.self.now.worker in
    let through = λ (w t : ℕ). g.G.Gate.has_let_in w t × g.G.Gate.was_told w t in
    let here =
    subst (λ w. through w (n + 1)) i.4
    (subst (λ t. through c.loop-job.self.worker (t + 1)) i.0 (c.enter.ensures.open c.if-not-enter.false, c.left.ensures)) in
    let other : (why : Ended) → c.judge.result ≢ Ends why =
    elim c.match-judge.branch [
      | in-Done w ↦ λ why is. let done = w.in-Done.is in cc
      | in-Passed w ↦ λ why is. let passed = w.in-Passed.is in cc
    ] in
    let past : IsPast g.B.DoJob.answered job = is_past g.B.DoJob.answered job c.do_job-answer.result c.judge.result answer.answered c.judge.ensures.refused other in
    let same : after ≡ c.match-judge.self.share.amount = search rules in (
      search rules,
      search rules,
      search rules,
      search rules,
      search rules,
      search rules,
      All-more (IsPast g.B.DoJob.answered) jobs n job c.loop-job-test.true i.6 (subst (IsPast g.B.DoJob.answered) c.job-item.is past),
      subst (λ a. HandedIn g.B.DoJob.handed from (take (n + 1) jobs) a) same
          (handed_next g.B.DoJob.handed from before after jobs n job c.loop-job-test.true i.7 (subst (λ j. g.B.DoJob.handed before j after) c.job-item.is answer.handed)),
      one_more (through worker) n i.8 here,
    )
