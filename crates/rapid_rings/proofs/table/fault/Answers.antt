use Rattle.std.proofs.Common.{◌≤◌, ◌<◌, true, false, ap, sym, subst, ◌∙◌, is_some}
use Rattle.rapid_rings.proofs.Tables.{too_many, out_of_range, twice_or_none}
use Rattle.rapid_rings.proofs.table.fault.Goals as goal

pub returns-then-is_full : goal.returns-then-is_full
returns-then-is_full c s h e = too_many c.args.params c.args.rows.now c.args.observed c.args.ring s h (sym (c.is_full.ensures s e) ∙ c.if-is_full.true)

pub returns-then-ring-k : goal.returns-then-ring-k
returns-then-ring-k c s h e =
    out_of_range c.args.params c.args.rows.now c.args.observed c.args.ring s h (sym (c.is_full.ensures s e) ∙ c.if-is_full.false)
    (subst (λ k. k ≤ c.args.ring) c.k.ensures.value c.if-ring-k.true)

pub returns-then-is_some : goal.returns-then-is_some
returns-then-is_some c s h e =
    twice_or_none c.args.params c.args.rows.now c.args.observed c.args.ring s true h (sym (c.is_full.ensures s e) ∙ c.if-is_full.false)
    (subst (λ k. c.args.ring < k) c.k.ensures.value c.if-ring-k.false) (ap is_some (sym (c.observer.ensures s e)) ∙ sym c.is_some.ensures ∙ c.if-is_some.true)

pub returns-else-is_some : goal.returns-else-is_some
returns-else-is_some c s h e =
    twice_or_none c.args.params c.args.rows.now c.args.observed c.args.ring s false h (sym (c.is_full.ensures s e) ∙ c.if-is_full.false)
    (subst (λ k. c.args.ring < k) c.k.ensures.value c.if-ring-k.false) (ap is_some (sym (c.observer.ensures s e)) ∙ sym c.is_some.ensures ∙ c.if-is_some.false)
