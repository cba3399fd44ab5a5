use Rattle.std.proofs.Common.{take, drop}
use Rattle.rapid_service.specs.Posting.{to_each, present_in}
use Rattle.rapid_service.proofs.Posting.{present_first, on_err}
use Rattle.rapid_service.proofs.service.probe_all.Goals as goal

-- Those before the process for whom there was no memory have got the frame.
pub returns-in_err-clone-clause-some : goal.returns-in_err-clone-clause-some
returns-in_err-clone-clause-some g c =
    let bytes = c.args.frame.now in
    let subjects = c.args.subjects.now in
    let i = c.loop-subject.subject-index in
    on_err c.from_residual.result (to_each bytes (present_in (take i subjects)), to_each bytes (present_in (drop i subjects)), present_first bytes subjects i, c.loop-subject.invariant)
