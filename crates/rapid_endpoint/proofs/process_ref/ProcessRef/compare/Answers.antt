use Rattle.std.proofs.Common.{sym, ◌∙◌}
use Rattle.std.proofs.lemmas.Bool.{not-true, not-false}
use Rattle.rapid_endpoint.specs.Joined.{first_decides, second_decides}
use Rattle.rapid_endpoint.proofs.process_ref.ProcessRef.compare.Goals as goal

pub returns-then-ne : goal.returns-then-ne
returns-then-ne c =
    rw (← c.self.view_is, ← c.other.view_is)
    (c.cmp.ensures
    ∙ first_decides c.self.inside.key c.other.inside.key c.self.inside.tags.now c.other.inside.tags.now
    (c.self.invariant.0 ∙ sym c.other.invariant.0) (not-true _ (sym c.ne.ensures ∙ c.if-ne.true)))

pub returns : goal.returns
returns c =
    rw (← c.self.view_is, ← c.other.view_is)
    (c.cmp-2.ensures
    ∙ second_decides c.self.inside.key c.other.inside.key c.self.inside.tags.now c.other.inside.tags.now
    (c.self.invariant.0 ∙ sym c.other.invariant.0) (not-false _ (sym c.ne.ensures ∙ c.if-ne.false)))
