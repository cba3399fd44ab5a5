use Rattle.std.proofs.Common.{◌≡◌, ◌↔◌, ◌++◌, [], ◌∷◌, Bool, ◌||◌, take, not, nat_le, sym, ap, subst, ◌∙◌}
use Rattle.std.specs.Prelude.{if◌then◌else◌}
use Rattle.circular_buffer.specs.Buffer.{Buffer}
use Rattle.rapid_model.specs.Edge.{Edge, failures, next_window, probed, HasDownStretch}
use Rattle.rapid_monitor.specs.declared.edge.Verdict.{Verdict}
use Rattle.rapid_monitor.specs.declared.edge.Verdict.TheVariants.{Up, Down}
use Rattle.rapid_monitor.proofs.Windows.{probed_is, verdict_so_far, length_take}
use Rattle.rapid_monitor.proofs.edge.Edge.probe.Goals as goal

next : (c : goal.After-of) → c.failures_after-failures.result ≡ failures (take 10 (not c.args.ok ∷ c.self.inside.window.items))
next c = c.failures_after-failures.ensures ∙ ap (λ (e : Edge). failures (next_window e.window c.args.ok)) (sym c.self.view_is)

items_are : (c : goal.After-of) → c.push_front.new.self.items ≡ take 10 (not c.args.ok ∷ c.self.inside.window.items)
items_are c = ap (λ (b : Buffer Bool). b.items) c.push_front.ensures.items ∙ ap (λ n. take n (not c.args.ok ∷ c.self.inside.window.items)) c.self.invariant.0

after_is : (c : goal.After-of) → record { window = c.push_front.new.self.items; is_down = c.self.inside.is_down || nat_le 4 c.failures_after-failures.result } ≡ probed c.args.self.now c.args.ok
after_is c = probed_is c.args.ok c.self.inside.window.items c.push_front.new.self.items c.self.inside.is_down c.self.view_is (items_are c) (next c)

pub invariant_of-self : goal.invariant_of-self
invariant_of-self c = (
  ap (λ (b : Buffer Bool). b.capacity) c.push_front.ensures.items ∙ c.self.invariant.0,
  rw (items_are c) (length_take 10 (not c.args.ok ∷ c.self.inside.window.items)),
  next c ∙ ap failures (sym (items_are c)),
)

pub returns-clause-after : goal.returns-clause-after
returns-clause-after c = after_is c

pub returns-clause-so_far : goal.returns-clause-so_far
returns-clause-so_far c oks is =
    let verdict = c.of.ensures ∙ ap (λ (x : Edge). if x.is_down then Down else Up) (after_is c) in
    subst (λ (v : Verdict). (v ≡ Down) ↔ HasDownStretch (oks ++ c.args.ok ∷ [])) (sym verdict) (verdict_so_far c.args.self.now c.args.ok oks is)
