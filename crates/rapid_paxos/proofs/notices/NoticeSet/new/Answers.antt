use Rattle.std.proofs.Common.{ap, sym, subst, ◌∙◌}
use Rattle.rapid_paxos.specs.Notices.{notices_of, AreEntries}
use Rattle.rapid_paxos.proofs.Noticing.{no_entries, no_notices}
use Rattle.rapid_paxos.proofs.notices.NoticeSet.new.Goals as goal

pub invariant_of-result : goal.invariant_of-result
invariant_of-result c = subst AreEntries (sym c.new.ensures.items) no_entries

pub returns : goal.returns
returns c = ap notices_of c.new.ensures.items ∙ no_notices
