use Rattle.std.proofs.Common.{◌≡◌, ◌+◌, ◌==◌, ◌≤◌, ℕ, Some, None, ap, sym, subst, ◌∙◌, arith}
use Rattle.std.specs.Prelude.{if◌then◌else◌}
use Rattle.std.specs.Cmp.{nat_eq_equiv}
use Rattle.std.proofs.lemmas.Bool.{not-true, not-false}
use Rattle.std.proofs.lemmas.Result.{on_ok_weaker, IfOk-weaker}
use Rattle.rapid_model.specs.FastRound.{count_of}
use Rattle.rapid_fast.proofs.Apart.{nothing, count_here, count_there, raised_here, raised_there, count_of_none, begun_first}
use Rattle.rapid_fast.proofs.votes.VoteCounts.add.Goals as goal

pub add_up_to-requires : goal.add_up_to-requires
add_up_to-requires c =
    record {
      room =
          subst (λ (n : ℕ). n ≤ 1024)
          (sym (count_there c.self.inside.first c.self.inside.others c.args.self.now c.in-Some.first c.args.cut.now c.in-Some.is c.self.view_is
          (not-true _ (sym c.ne.ensures ∙ c.if-ne.true))))
          c.requires.room;
    }

pub returns-then-ne-clause-ok : goal.returns-then-ne-clause-ok
returns-then-ne-clause-ok c =
    on_ok_weaker c.add_up_to.result
    (raised_there c.self.inside.first c.self.inside.others c.args.self.now c.in-Some.first c.args.cut.now c.in-Some.is c.self.view_is
    (not-true _ (sym c.ne.ensures ∙ c.if-ne.true)) c.add_up_to.new.self)
    c.add_up_to.ensures.ok

pub returns-then-ne-clause-reached : goal.returns-then-ne-clause-reached
returns-then-ne-clause-reached c =
    IfOk-weaker c.add_up_to.result _ _
    (λ reached e. e ∙ ap (λ (n : ℕ). if n + 1 == c.args.enough then Some c.args.cut.now else None)
    (count_there c.self.inside.first c.self.inside.others c.args.self.now c.in-Some.first c.args.cut.now c.in-Some.is c.self.view_is
    (not-true _ (sym c.ne.ensures ∙ c.if-ne.true))))
    c.add_up_to.ensures.reached

pub overflow_add-first : goal.overflow_add-first
overflow_add-first c =
    let count : c.in-Some.first.1 ≡ count_of c.args.self.now c.args.cut.now =
    count_here c.self.inside.first c.self.inside.others c.args.self.now c.in-Some.first c.args.cut.now c.in-Some.is c.self.view_is
    (not-false _ (sym c.ne.ensures ∙ c.if-ne.false)) in
    omega (arith, count, c.requires.room)

pub overflow_add-first-in-Some : goal.overflow_add-first-in-Some
overflow_add-first-in-Some c =
    let count : c.in-Some.first.1 ≡ count_of c.args.self.now c.args.cut.now =
    count_here c.self.inside.first c.self.inside.others c.args.self.now c.in-Some.first c.args.cut.now c.in-Some.is c.self.view_is
    (not-false _ (sym c.ne.ensures ∙ c.if-ne.false)) in
    omega (arith, count, c.requires.room)

pub returns-in_ok-reached-in-Some-clause-ok : goal.returns-in_ok-reached-in-Some-clause-ok
returns-in_ok-reached-in-Some-clause-ok c =
    raised_here c.self.inside.first c.self.inside.others c.args.self.now c.in-Some.first c.args.cut.now c.in-Some.is c.self.view_is
    (not-false _ (sym c.ne.ensures ∙ c.if-ne.false))

pub returns-in_ok-reached-in-Some-clause-reached : goal.returns-in_ok-reached-in-Some-clause-reached
returns-in_ok-reached-in-Some-clause-reached c =
    c.in_ok-reached-in-Some.ensures
    ∙ ap (λ (n : ℕ). if n + 1 == c.args.enough then Some c.args.cut.now else None)
    (count_here c.self.inside.first c.self.inside.others c.args.self.now c.in-Some.first c.args.cut.now c.in-Some.is c.self.view_is
    (not-false _ (sym c.ne.ensures ∙ c.if-ne.false)))

pub returns-in_ok-try_copy-in-None-clause-ok : goal.returns-in_ok-try_copy-in-None-clause-ok
returns-in_ok-try_copy-in-None-clause-ok c =
    let none = nothing c.self.inside.first c.self.inside.others c.args.self.now c.in-None.is c.self.view_is c.self.invariant in
    begun_first c.self.inside.others c.args.self.now c.in_ok-try_copy-in-None.field-0 c.args.cut.now none.0 none.1 c.in_ok-try_copy-in-None.ensures

pub returns-in_ok-try_copy-in-None-clause-reached : goal.returns-in_ok-try_copy-in-None-clause-reached
returns-in_ok-try_copy-in-None-clause-reached c =
    let none = nothing c.self.inside.first c.self.inside.others c.args.self.now c.in-None.is c.self.view_is c.self.invariant in
    c.in_ok-reached-in-None.ensures
    ∙ ap (λ b. if b then Some c.args.cut.now else None) (nat_eq_equiv.symm c.args.enough 1)
    ∙ ap (λ (n : ℕ). if n + 1 == c.args.enough then Some c.args.cut.now else None) (count_of_none c.args.self.now c.args.cut.now none.1)
