use Rattle.std.proofs.Common.{◌≡◌, ◌+◌, ◌∙◌, ap, sym, true, arith, rules}
use Rattle.std.proofs.lemmas.Bool.Decides.{nat_tests}
use Rattle.std.specs.FinSet as set
use Rattle.rapid_sim.specs.Settling.{settled_by}
use Rattle.rapid_sim.proofs.Settling.{settled_moves}
use Rattle.rapid_sim.proofs.settled.all_from.Goals as goal

pub loop-next-preserved : goal.loop-next-preserved
loop-next-preserved c =
    let n = c.loop-next.all_to in
    let next : c.in-Some.next ≡ n + 1 = search rules in
    let has : set.contains c.loop-next.above (n + 1) ≡ true = ap (set.contains c.loop-next.above) (sym next) ∙ sym c.contains.ensures ∙ grind (arith, nat_tests) in
    ap (settled_by c.in-Some.next) c.remove.ensures
    ∙ ap (λ p. settled_by p (set.remove c.loop-next.above p)) next
    ∙ settled_moves n c.loop-next.above has
    ∙ c.loop-next.invariant
