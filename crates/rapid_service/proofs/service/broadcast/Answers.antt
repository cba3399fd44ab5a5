use Rattle.std.proofs.Common.{take, drop}
use Rattle.rapid_service.specs.Posting.{to_each, all_but}
use Rattle.rapid_service.proofs.Posting.{each_first, on_err}
use Rattle.rapid_service.proofs.service.broadcast.Goals as goal

-- Those before the member for whom there was no memory have got the frame.
pub returns-in_err-clone-clause-some : goal.returns-in_err-clone-clause-some
returns-in_err-clone-clause-some g c =
    let bytes = c.args.frame.now in
    let me = c.args.me.now in
    let members = c.args.members.now in
    let i = c.loop-member.member-index in
    on_err c.from_residual.result (to_each bytes (all_but me (take i members)), to_each bytes (all_but me (drop i members)), each_first bytes me members i, c.loop-member.invariant)
