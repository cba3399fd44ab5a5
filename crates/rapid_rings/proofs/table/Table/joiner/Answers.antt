use Rattle.std.proofs.Common.{◌≡◌, ◌-◌, true, false, cond, subst, sym, ◌∙◌}
use Rattle.rapid_rings.specs.Rows.{is_counted_in, Holds}
use Rattle.rapid_rings.proofs.Tables.{counted, Holds-joiner}
use Rattle.rapid_rings.proofs.table.Table.joiner.Goals as goal

pub overflow_sub-self : goal.overflow_sub-self
overflow_sub-self c = counted c.self.inside.params c.self.inside.rows c.self.inside.observed c.as_ref.result c.self.invariant (sym c.in_ok-add_joiner.ensures.counted ∙ c.if-branch.true)

pub invariant_of-self-then-branch : goal.invariant_of-self-then-branch
invariant_of-self-then-branch c =
    let is : is_counted_in c.self.inside.rows c.as_ref.result ≡ true = sym c.in_ok-add_joiner.ensures.counted ∙ c.if-branch.true in
    subst (λ b. Holds c.self.inside.params c.add_joiner.new.self (cond b (c.self.inside.observed - 1) c.self.inside.observed)) is
    (Holds-joiner c.self.inside.params c.self.inside.rows c.add_joiner.new.self c.as_ref.result c.self.inside.observed c.in_ok-add_joiner.ensures.added c.self.invariant)

pub invariant_of-self-else-branch : goal.invariant_of-self-else-branch
invariant_of-self-else-branch c =
    let is : is_counted_in c.self.inside.rows c.as_ref.result ≡ false = sym c.in_ok-add_joiner.ensures.counted ∙ c.if-branch.false in
    subst (λ b. Holds c.self.inside.params c.add_joiner.new.self (cond b (c.self.inside.observed - 1) c.self.inside.observed)) is
    (Holds-joiner c.self.inside.params c.self.inside.rows c.add_joiner.new.self c.as_ref.result c.self.inside.observed c.in_ok-add_joiner.ensures.added c.self.invariant)
