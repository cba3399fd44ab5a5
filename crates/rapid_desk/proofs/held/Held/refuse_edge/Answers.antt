use Rattle.std.proofs.Common.{◌||◌, length, ap, ◌∙◌}
use Rattle.std.specs.Prelude.{nat_le}
use Rattle.rapid_desk.specs.Desks.{HeldValue}
use Rattle.rapid_desk.proofs.Settling.{edge_full_for, edge_unmade}
use Rattle.rapid_desk.proofs.held.Held.refuse_edge.Goals as goal

pub returns-then-self-clause-refused : goal.returns-then-self-clause-refused
returns-then-self-clause-refused c =
    let before = c.self.inside in
    let after : HeldValue = record { entry = before.journal.entry; journal = before.journal.records; full = before.full || nat_le 65536 c.len.result; node = before.node.value; next = before.next.value } in
    edge_full_for c.args.self.now after c.len.result (c.len.ensures ∙ ap (λ (h : HeldValue). length h.journal) c.self.view_is) (ap (λ (h : HeldValue). h.full || nat_le 65536 c.len.result) c.self.view_is) (ap (λ (h : HeldValue). h.node) c.self.view_is) c.if-self.true

pub returns-clause-refused : goal.returns-clause-refused
returns-clause-refused c =
    let before = c.self.inside in
    let after : HeldValue = record { entry = before.journal.entry; journal = before.journal.records; full = before.full || nat_le 65536 c.len.result; node = before.node.value; next = before.next.value } in
    edge_unmade c.args.self.now after c.len.result (c.len.ensures ∙ ap (λ (h : HeldValue). length h.journal) c.self.view_is) (ap (λ (h : HeldValue). h.full || nat_le 65536 c.len.result) c.self.view_is) (ap (λ (h : HeldValue). h.node) c.self.view_is) c.if-self.false
