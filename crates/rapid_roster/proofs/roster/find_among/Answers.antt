use Rattle.std.proofs.Common.{◌≡◌, inl, inr, true≢false, Some, Contains, slice_get, get_or, take, sym, subst, ◌∙◌, arith}
use Rattle.std.proofs.lemmas.List.{take_more, take_all}
use Rattle.std.proofs.lemmas.List.Elements.{Contains-push_cases}
use Rattle.rapid_roster.proofs.roster.find_among.Goals as goal

pub loop-place-init : goal.loop-place-init
loop-place-init c place m at = absurd (omega (arith, m.1))

pub loop-place-preserved : goal.loop-place-preserved
loop-place-preserved c place m at =
    let ns = c.args.places.now in
    let i = c.loop-place.place-index in
    let last = get_or ns i 0 in
    let more = subst (λ xs. Contains xs place) (take_more ns i 0 c.loop-place-test.true) m in
    elim (Contains-push_cases (take i ns) last place more) [
      | inl before ↦ c.loop-place.invariant place before at
      | inr same ↦ true≢false (sym (c.is_at.ensures.told (subst (λ n. slice_get c.args.processes.now n ≡ Some c.args.process.now) (sym same) at)) ∙ c.if-is_at.false)
    ]

pub returns-clause-none : goal.returns-clause-none
returns-clause-none c place m =
    c.loop-place.invariant place (subst (λ xs. Contains xs place) (sym (take_all c.loop-place.place-index c.args.places.now c.loop-place-test.false)) m)
