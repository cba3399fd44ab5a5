use Rattle.std.proofs.Common.{◌≡◌, ◌+◌, ◌≤◌, ◌∙◌, All, ap, sum, sym, subst, rules, arith}
use Rattle.std.proofs.lemmas.List.Elements.{All-push}
use Rattle.std.proofs.lemmas.List.Sums.{sum_by_push}
use Rattle.rapid_clerks.proofs.crew.gather.Goals as goal

pub loop-place-preserved : goal.loop-place-preserved
loop-place-preserved g c =
    let i = c.loop-place.invariant in
    let place = c.into_inner-clerk.result in
    let merged = c.merge.ensures in
    let items = c.push_reserved.ensures.items in
    let one = place.one_part in
    let counted = place.counted in
    let sums = ap sum items ∙ sum_by_push (λ x. x) c.loop-place.counts.items place.done in
    let amount_before = i.1 in (
      search rules,
      omega (arith, merged.amount, amount_before, counted, sums),
      search rules,
      search rules,
      subst (All (λ count. count ≤ g.N.TurnCount.given)) (sym items) (All-push (λ count. count ≤ g.N.TurnCount.given) c.loop-place.counts.items place.done i.4 place.most),
    )
