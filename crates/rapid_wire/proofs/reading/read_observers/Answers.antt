use Rattle.std.proofs.Common.{◌≤◌, ℕ, List, Some, length, sym, ap, subst, ◌∙◌}
use Rattle.rapid_model.specs.Process.{Process}
use Rattle.rapid_wire.specs.Reading.{process_at}
use Rattle.rapid_wire.proofs.Counts.{no_observers_announced, observers_announced, some_and_few}
use Rattle.rapid_wire.proofs.reading.read_observers.Goals as goal

pub returns-then-not-may_have-clause-value : goal.returns-then-not-may_have-clause-value
returns-then-not-may_have-clause-value c =
    let read = c.in_ok-count.ensures ∙ ap (λ (n : ℕ). Some (n, c.in_ok-count.rest.now)) (sym c.from-count.ensures) in
    no_observers_announced _ _ _ read (sym c.if-not-may_have.ensures)

pub new-requires : goal.new-requires
new-requires c = (some_and_few process_at 16 _ _ _ _ c.in_ok-processes.ensures (sym c.if-not-may_have.ensures)).1

pub returns-clause-value : goal.returns-clause-value
returns-clause-value c =
    let read = c.in_ok-count.ensures ∙ ap (λ (n : ℕ). Some (n, c.in_ok-count.rest.now)) (sym c.from-count.ensures) in
    observers_announced _ _ _ _ _ _ read c.in_ok-processes.ensures (sym c.if-not-may_have.ensures) c.in_ok-ended.ensures
    ∙ ap (λ (os : List Process). Some os) (sym c.in_ok-new.ensures)

pub returns-clause-some : goal.returns-clause-some
returns-clause-some c =
    let some = (some_and_few process_at 16 _ _ _ _ c.in_ok-processes.ensures (sym c.if-not-may_have.ensures)).0 in
    subst (λ (os : List Process). 1 ≤ length os) (sym c.in_ok-new.ensures) some
