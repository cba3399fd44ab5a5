use Rattle.std.proofs.Common.{◌≡◌, ◌+◌, ◌∙◌, ap, sym, arith}
use Rattle.std.proofs.lemmas.Result.{on_ok_weaker}
use Rattle.std.specs.FinSet as set
use Rattle.rapid_sim.specs.Settling.{settled_by}
use Rattle.rapid_sim.proofs.Settling.{settled_already, settled_above, settled_next, gap_stays}
use Rattle.rapid_sim.proofs.settled.Settled.settle.Goals as goal

pub returns-then-packet-self-clause-ok : goal.returns-then-packet-self-clause-ok
returns-then-packet-self-clause-ok c =
    sym c.self.view_is ∙ settled_already c.self.inside.all_to c.args.packet c.self.inside.above c.requires (omega arith) ∙ ap (λ s. set.insert s c.args.packet) c.self.view_is

pub invariant_of-self : goal.invariant_of-self
invariant_of-self c = gap_stays c.insert.result c.self.inside.all_to c.args.packet c.self.inside.above c.insert.new.self (omega arith) c.self.invariant c.insert.ensures.ok c.insert.ensures.unchanged

pub returns-then-packet-self-2-clause-ok : goal.returns-then-packet-self-2-clause-ok
returns-then-packet-self-2-clause-ok c =
    on_ok_weaker c.insert.result (λ e.
    ap (settled_by c.self.inside.all_to) e ∙ settled_above c.self.inside.all_to c.args.packet c.self.inside.above ∙ ap (λ s. set.insert s c.args.packet) c.self.view_is) c.insert.ensures.ok

pub returns-clause-ok : goal.returns-clause-ok
returns-clause-ok c =
    let next : c.args.packet ≡ c.self.inside.all_to + 1 = omega arith in
    c.all_from-self-inside.ensures.same
    ∙ ap (λ p. settled_by p c.self.inside.above) next
    ∙ settled_next c.self.inside.all_to c.self.inside.above
    ∙ ap (λ s. set.insert s (c.self.inside.all_to + 1)) c.self.view_is
    ∙ ap (set.insert c.args.self.now) (sym next)
