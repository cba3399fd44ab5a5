use Rattle.std.proofs.Common.{take}
use Rattle.rapid_service.specs.Posting.{to_each, all_but}
use Rattle.rapid_service.proofs.service.broadcast.Given as goal

abbrev pub invariant-loop-member : goal.invariant-loop-member
invariant-loop-member g l = g.P.Post.has_posted l.fn.post (to_each l.frame (all_but l.me (take l.member-index l.members))) l.post
