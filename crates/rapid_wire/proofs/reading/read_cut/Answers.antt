use Rattle.std.proofs.Common.{ℕ, List, Some, None, cond, refl, sym, ap, subst, ◌∙◌}
use Rattle.rapid_model.specs.Cut.{Cut}
use Rattle.rapid_model.specs.Process.{Process}
use Rattle.rapid_wire.specs.Faults.{Gives}
use Rattle.rapid_wire.specs.Reading.{is_cut}
use Rattle.rapid_wire.proofs.Lists.{cut_announced, no_cut_announced}
use Rattle.rapid_wire.proofs.reading.read_cut.Goals as goal

pub returns-then-not-are_just : goal.returns-then-not-are_just
returns-then-not-are_just c =
    let read = c.in_ok-count.ensures ∙ ap (λ (n : ℕ). Some (n, c.in_ok-count.rest.now)) (sym c.from-count.ensures) in
    no_cut_announced _ _ _ read (c.if-not-are_just.ensures.others refl)

pub returns : goal.returns
returns c =
    let read = c.in_ok-count.ensures ∙ ap (λ (n : ℕ). Some (n, c.in_ok-count.rest.now)) (sym c.from-count.ensures) in
    subst (Gives (λ (cut : Cut). cut) c.cut_of.result)
    (ap (λ (ps : List Process). cond (is_cut ps) (Some ps) None) c.in_ok-processes.ensures ∙ sym (cut_announced _ _ _ read (c.if-not-are_just.ensures.all refl)))
    c.cut_of.ensures
