use Rattle.std.proofs.Common.{◌≡◌, ◌+◌, ◌==◌, ℕ, Some, None, ap, ◌∙◌, arith}
use Rattle.std.specs.Cmp.{nat_eq_equiv}
use Rattle.std.specs.Prelude.{if◌then◌else◌}
use Rattle.rapid_model.specs.FastRound.{count_of}
use Rattle.rapid_fast.proofs.Counting.{count_at, count_none, raised_at, sorted-raised_at, begun_at, sorted-begun_at}
use Rattle.rapid_fast.proofs.counts.CutCounts.add_up_to.Goals as goal

pub overflow_add-count : goal.overflow_add-count
overflow_add-count c =
    let count : c.index.result.now.1 ≡ count_of c.args.self.now c.args.cut.now = count_at c.args.self.now c.self.inside.counts.items c.deref.result.now c.args.cut.now c.self.invariant c.self.view_is c.deref.ensures.value
    c.in-Ok.i c.index.result.now c.in-Ok.ensures.bound c.in-Ok.ensures.position c.index.ensures in
    omega (arith, count, c.requires.room)

pub overflow_add-index_mut : goal.overflow_add-index_mut
overflow_add-index_mut c =
    let count : c.index_mut.result.now.1 ≡ count_of c.args.self.now c.args.cut.now = count_at c.args.self.now c.self.inside.counts.items c.deref.result.now c.args.cut.now c.self.invariant c.self.view_is c.deref.ensures.value
    c.in-Ok.i c.index_mut.result.now c.in-Ok.ensures.bound c.in-Ok.ensures.position c.index_mut.ensures.value in
    omega (arith, count, c.requires.room)

pub invariant_of-self : goal.invariant_of-self
invariant_of-self c =
    sorted-raised_at c.args.self.now c.self.inside.counts.items c.deref.result.now c.args.cut.now c.self.invariant c.self.view_is c.deref.ensures.value
    c.in-Ok.i c.index_mut.result.now c.in-Ok.ensures.bound c.in-Ok.ensures.position c.index_mut.ensures.value

pub returns-in_ok-reached-in-Ok-clause-ok : goal.returns-in_ok-reached-in-Ok-clause-ok
returns-in_ok-reached-in-Ok-clause-ok c =
    raised_at c.args.self.now c.self.inside.counts.items c.deref.result.now c.args.cut.now c.self.invariant c.self.view_is c.deref.ensures.value
    c.in-Ok.i c.index_mut.result.now c.in-Ok.ensures.bound c.in-Ok.ensures.position c.index_mut.ensures.value

pub returns-in_ok-reached-in-Ok-clause-reached : goal.returns-in_ok-reached-in-Ok-clause-reached
returns-in_ok-reached-in-Ok-clause-reached c =
    c.in_ok-reached-in-Ok.ensures
    ∙ ap (λ (n : ℕ). if n + 1 == c.args.enough then Some c.args.cut.now else None)
    (count_at c.args.self.now c.self.inside.counts.items c.deref.result.now c.args.cut.now c.self.invariant c.self.view_is c.deref.ensures.value
    c.in-Ok.i c.index.result.now c.in-Ok.ensures.bound c.in-Ok.ensures.position c.index.ensures)

pub invariant_of-self-in-Err : goal.invariant_of-self-in-Err
invariant_of-self-in-Err c =
    sorted-begun_at c.args.self.now c.self.inside.counts.items c.deref.result.now c.args.cut.now c.self.invariant c.self.view_is c.deref.ensures.value
    c.in-Err.i c.in-Err.ensures.bound c.in-Err.ensures.position c.in_ok-cut-in-Err.cut c.in_ok-cut-in-Err.ensures c.insert.new.self.items c.in_ok-insert-in-Err.ensures.items

pub returns-in_ok-insert-in-Err-clause-ok : goal.returns-in_ok-insert-in-Err-clause-ok
returns-in_ok-insert-in-Err-clause-ok c =
    begun_at c.args.self.now c.self.inside.counts.items c.deref.result.now c.args.cut.now c.self.invariant c.self.view_is c.deref.ensures.value
    c.in-Err.i c.in-Err.ensures.bound c.in-Err.ensures.position c.in_ok-cut-in-Err.cut c.in_ok-cut-in-Err.ensures c.insert.new.self.items c.in_ok-insert-in-Err.ensures.items

pub returns-in_ok-insert-in-Err-clause-reached : goal.returns-in_ok-insert-in-Err-clause-reached
returns-in_ok-insert-in-Err-clause-reached c =
    c.in_ok-reached-in-Err.ensures ∙ turned c.args.enough
    ∙ ap (λ (n : ℕ). if n + 1 == c.args.enough then Some c.args.cut.now else None)
    (count_none c.args.self.now c.self.inside.counts.items c.deref.result.now c.args.cut.now c.self.invariant c.self.view_is c.deref.ensures.value
    c.in-Err.i c.in-Err.ensures.bound c.in-Err.ensures.position)
  where
    turned : (n : ℕ) → (if n == 1 then Some c.args.cut.now else None) ≡ (if 0 + 1 == n then Some c.args.cut.now else None)
    turned n = ap (λ b. if b then Some c.args.cut.now else None) (nat_eq_equiv.symm n 1)
