use Rattle.std.proofs.Common.{ap, ◌∙◌}
use Rattle.std.specs.FinSet as set
use Rattle.rapid_paxos.proofs.Noticing.{entries_raised, notices_raised, entries_begun, notices_begun}
use Rattle.rapid_paxos.proofs.notices.NoticeSet.insert.Goals as goal

pub invariant_of-self : goal.invariant_of-self
invariant_of-self c =
    entries_raised c.args.self.now c.self.inside.entries.items c.deref.result.now c.args.ballot c.args.cut.now c.args.position c.self.invariant c.self.view_is c.deref.ensures.value
    c.in-Ok.i c.index_mut.result.now c.in-Ok.ensures.bound c.in-Ok.ensures.position c.index_mut.ensures.value c.insert.new.self c.insert.ensures

pub returns-in-Ok-clause-ok : goal.returns-in-Ok-clause-ok
returns-in-Ok-clause-ok c =
    notices_raised c.args.self.now c.self.inside.entries.items c.deref.result.now c.args.ballot c.args.cut.now c.args.position c.self.invariant c.self.view_is c.deref.ensures.value
    c.in-Ok.i c.index_mut.result.now c.in-Ok.ensures.bound c.in-Ok.ensures.position c.index_mut.ensures.value c.insert.new.self c.insert.ensures

pub invariant_of-self-in-Continue-branch-2 : goal.invariant_of-self-in-Continue-branch-2
invariant_of-self-in-Continue-branch-2 c =
    entries_begun c.args.self.now c.self.inside.entries.items c.deref.result.now c.args.ballot c.args.cut.now c.args.position c.self.invariant c.self.view_is c.deref.ensures.value
    c.in-Err.i c.in-Err.ensures.bound c.in-Err.ensures.position c.in_ok-cut-in-Err.cut c.in_ok-cut-in-Err.ensures
    c.insert-in-Err.new.self (c.insert-in-Err.ensures ∙ ap (λ s. set.insert s c.args.position) c.new-positions.ensures) c.insert-in-Err-2.new.self.items c.in_ok-insert-in-Err.ensures.items

pub returns-in_ok-insert-in-Err-clause-ok : goal.returns-in_ok-insert-in-Err-clause-ok
returns-in_ok-insert-in-Err-clause-ok c =
    notices_begun c.args.self.now c.self.inside.entries.items c.deref.result.now c.args.ballot c.args.cut.now c.args.position c.self.invariant c.self.view_is c.deref.ensures.value
    c.in-Err.i c.in-Err.ensures.bound c.in-Err.ensures.position c.in_ok-cut-in-Err.cut c.in_ok-cut-in-Err.ensures
    c.insert-in-Err.new.self (c.insert-in-Err.ensures ∙ ap (λ s. set.insert s c.args.position) c.new-positions.ensures) c.insert-in-Err-2.new.self.items c.in_ok-insert-in-Err.ensures.items
