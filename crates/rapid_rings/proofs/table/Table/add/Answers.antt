use Rattle.std.proofs.Common.{◌≡◌, ◌+◌, true, false, cond, subst, sym, ◌∙◌}
use Rattle.rapid_rings.specs.Rows.{is_unobserved_in, Holds}
use Rattle.rapid_rings.proofs.Tables.{Holds-same, Holds-edge, ring_below}
use Rattle.rapid_rings.proofs.table.Table.add.Goals as goal

pub add_edge-requires-clause-ring : goal.add_edge-requires-clause-ring
add_edge-requires-clause-ring c =
    ring_below c.self.inside.params c.self.inside.rows c.self.inside.observed c.args.ring c.as_ref-subject.result c.self.invariant
    (c.in_default.ensures c.as_ref-subject.result c.self.invariant c.find-place.ensures)

pub invariant_of-self : goal.invariant_of-self
invariant_of-self c = Holds-same c.self.inside.params c.self.inside.rows c.add_edge.new.self c.self.inside.observed c.in_err-add_edge.ensures.unchanged c.self.invariant

pub invariant_of-self-then-branch : goal.invariant_of-self-then-branch
invariant_of-self-then-branch c =
    let is : is_unobserved_in c.self.inside.rows c.as_ref-subject.result ≡ true = sym c.in_ok-add_edge.ensures.counts ∙ c.if-branch.true in
    subst (λ b. Holds c.self.inside.params c.add_edge.new.self (cond b (c.self.inside.observed + 1) c.self.inside.observed)) is
    (Holds-edge c.self.inside.params c.self.inside.rows c.add_edge.new.self c.args.ring c.as_ref.result c.as_ref-subject.result c.self.inside.observed c.in_ok-add_edge.ensures.added c.self.invariant
    (c.in_default.ensures c.as_ref-subject.result c.self.invariant c.find-place.ensures))

pub invariant_of-self-else-branch : goal.invariant_of-self-else-branch
invariant_of-self-else-branch c =
    let is : is_unobserved_in c.self.inside.rows c.as_ref-subject.result ≡ false = sym c.in_ok-add_edge.ensures.counts ∙ c.if-branch.false in
    subst (λ b. Holds c.self.inside.params c.add_edge.new.self (cond b (c.self.inside.observed + 1) c.self.inside.observed)) is
    (Holds-edge c.self.inside.params c.self.inside.rows c.add_edge.new.self c.args.ring c.as_ref.result c.as_ref-subject.result c.self.inside.observed c.in_ok-add_edge.ensures.added c.self.invariant
    (c.in_default.ensures c.as_ref-subject.result c.self.invariant c.find-place.ensures))
