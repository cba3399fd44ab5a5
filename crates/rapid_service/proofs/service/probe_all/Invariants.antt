use Rattle.std.proofs.Common.{take}
use Rattle.rapid_service.specs.Posting.{to_each, present_in}
use Rattle.rapid_service.proofs.service.probe_all.Given as goal

abbrev pub invariant-loop-subject : goal.invariant-loop-subject
invariant-loop-subject g l = g.P.Post.has_posted l.fn.post (to_each l.frame (present_in (take l.subject-index l.subjects))) l.post
