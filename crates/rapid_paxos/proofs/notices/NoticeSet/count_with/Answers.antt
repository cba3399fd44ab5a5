use Rattle.std.proofs.Common.{◌+◌, ap, sym, ◌∙◌}
use Rattle.rapid_paxos.proofs.Noticing.{count_at_known, count_at_new, count_first}
use Rattle.rapid_paxos.proofs.notices.NoticeSet.count_with.Goals as goal

pub returns-then-contains : goal.returns-then-contains
returns-then-contains c =
    c.len.ensures.value
    ∙ count_at_known c.args.self.now c.self.inside.entries.items c.deref.result.now c.args.ballot c.args.cut.now c.args.position c.self.invariant c.self.view_is c.deref.ensures.value
    c.in-Ok.i c.index.result.now c.in-Ok.ensures.bound c.in-Ok.ensures.position c.index.ensures (sym c.contains.ensures.value ∙ c.if-contains.true)

pub returns-else-contains : goal.returns-else-contains
returns-else-contains c =
    ap (λ n. n + 1) c.len-else-contains.ensures.value
    ∙ count_at_new c.args.self.now c.self.inside.entries.items c.deref.result.now c.args.ballot c.args.cut.now c.args.position c.self.invariant c.self.view_is c.deref.ensures.value
    c.in-Ok.i c.index.result.now c.in-Ok.ensures.bound c.in-Ok.ensures.position c.index.ensures (sym c.contains.ensures.value ∙ c.if-contains.false)

pub returns-in-Err : goal.returns-in-Err
returns-in-Err c =
    count_first c.args.self.now c.self.inside.entries.items c.deref.result.now c.args.ballot c.args.cut.now c.args.position c.self.invariant c.self.view_is c.deref.ensures.value
    c.in-Err.field-0 c.in-Err.ensures.bound c.in-Err.ensures.position
