use Rattle.std.proofs.Common.{◌≡◌, ◌∙◌, Ok, None, subst, sym}
use Rattle.std.proofs.lemmas.Result.{err_from_is_err_and}
use Rattle.rapid_wire.specs.Feeding.{IsNext}
use Rattle.rapid_transport.specs.Receiving.{Wants, Refills, IsUnderway}
use Rattle.rapid_transport.proofs.Receiving.{receives_message, receives_failure, underway_more, none_wants, none_stays}
use Rattle.rapid_transport.proofs.engine.receive.Goals as goal

pub returns-in-Some-2-clause-received : goal.returns-in-Some-2-clause-received
returns-in-Some-2-clause-received g c =
    receives_message _ _ _ _ c.loop.invariant.underway _ _ (subst (λ o. IsNext c.loop.feed c.next-in-loop.new.self (Ok o)) c.in-Some-2.is c.in_ok-message.ensures)

pub returns-in_err-refill-clause-received : goal.returns-in_err-refill-clause-received
returns-in_err-refill-clause-received g c =
    let p = err_from_is_err_and c.from_residual-in_err-refill.result c.from_residual-in_err-refill.ensures.1 in
    let s = c.next-in-loop.new.self in
    let before = g.R.CountedRead.remaining c.args.reader.now in
    let left = g.R.CountedRead.remaining c.loop.reader in
    let later = g.R.CountedRead.remaining c.refill.new.reader in
    let none : IsNext c.loop.feed s (Ok None) = subst (λ o. IsNext c.loop.feed s (Ok o)) c.in_default.is c.in_ok-message.ensures in
    let same : c.loop.feed ≡ s = sym (none_stays c.loop.feed s none) in
    let underway : IsUnderway c.args.feed.now s before left = subst (λ x. IsUnderway c.args.feed.now x before left) same c.loop.invariant.underway in
    let wants : Wants s = subst Wants same (none_wants c.loop.feed s none) in
    rw (p.1, p.2) (receives_failure c.args.feed.now s before left underway c.refill.new.feed later c.in_err-refill.field-0.0 wants c.in_err-refill.ensures.refills)

pub loop-preserved : goal.loop-preserved
loop-preserved g c =
    let s = c.next-in-loop.new.self in
    let before = g.R.CountedRead.remaining c.args.reader.now in
    let left = g.R.CountedRead.remaining c.loop.reader in
    let later = g.R.CountedRead.remaining c.refill.new.reader in
    let none : IsNext c.loop.feed s (Ok None) = subst (λ o. IsNext c.loop.feed s (Ok o)) c.in_default.is c.in_ok-message.ensures in
    let same : c.loop.feed ≡ s = sym (none_stays c.loop.feed s none) in
    let underway : IsUnderway c.args.feed.now s before left = subst (λ x. IsUnderway c.args.feed.now x before left) same c.loop.invariant.underway in
    let wants : Wants s = subst Wants same (none_wants c.loop.feed s none) in
    record {
      underway = underway_more c.args.feed.now s before left underway c.refill.new.feed later wants (subst (λ b. Refills s c.refill.new.feed left later (Ok b)) c.if-not-branch.false c.in_ok-refill.ensures.refills);
      counts = c.in_ok-refill.ensures.counts ∙ c.loop.invariant.counts;
    }
