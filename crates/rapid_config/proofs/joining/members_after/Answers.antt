use Rattle.std.proofs.Common.{not, subst, sym}
use Rattle.rapid_model.specs.Process.{is_in}
use Rattle.rapid_model.specs.Configuration.{AreMembers}
use Rattle.rapid_config.proofs.Ascending.{members_ascend}
use Rattle.rapid_config.proofs.Kept.{members_kept}
use Rattle.rapid_config.proofs.joining.members_after.Goals as goal

pub without-requires-2 : goal.without-requires-2
without-requires-2 c = members_ascend c.args.members.now c.requires.members.identifiers

pub join_all-requires : goal.join_all-requires
join_all-requires c = subst AreMembers (sym c.in_ok-next.ensures) (members_kept (λ p. not (is_in c.args.cut.now p)) c.args.members.now c.requires.members)
