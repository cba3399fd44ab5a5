use Rattle.std.proofs.Common.{IsSomeAnd, sym, subst}
use Rattle.rapid_repeats.specs.Remembering.{IsRepeatFor}
use Rattle.rapid_service.proofs.service.Service.admits.Goals as goal

-- What the filter of the present view does not let through is a repeat.
pub returns-in-Some-clause-repeats : goal.returns-in-Some-clause-repeats
returns-in-Some-clause-repeats g c e =
    subst (λ o. IsSomeAnd o (λ present. IsRepeatFor present.repeats c.args.message.now)) (sym c.in-Some.is)
    (λ config now passed h. c.admits.ensures.dropped config now passed h e)

-- A repeat is not let through.
pub returns-in-Some-clause-drops : goal.returns-in-Some-clause-drops
returns-in-Some-clause-drops g c x =
    c.admits.ensures.repeats (subst (λ o. IsSomeAnd o (λ present. IsRepeatFor present.repeats c.args.message.now)) c.in-Some.is x)
