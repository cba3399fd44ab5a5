use Rattle.std.proofs.Common.{◌≡◌, ℕ, ◌+◌, ◌-◌, ◌∙◌, ap, sym, Option, Some, None, unwrap_or, arith, Bor}
use Rattle.std.specs.Option.{option_map}
use Rattle.rapid_model.specs.Cut.{Cut}
use Rattle.rapid_model.specs.Coordinator.{Coordinator, value_of}
use Rattle.rapid_paxos.proofs.Coordinating.{value_chosen}
use Rattle.rapid_paxos.proofs.coordinator.Coordinator.value.Goals as goal

now_of : (o : Option (Bor Cut)) (d r : Bor Cut) → r ≡ unwrap_or o d → r.now ≡ unwrap_or (option_map (λ v. v.now) o) d.now
now_of None d r e = ap (λ x. x.now) e
now_of (Some v) d r e = ap (λ x. x.now) e

pub returns-in_ok-try_copy-in-len1-up : goal.returns-in_ok-try_copy-in-len1-up
returns-in_ok-try_copy-in-len1-up c =
    let k : Coordinator = record { size = c.self.inside.size; position = c.self.inside.position; ballot = c.self.inside.ballot; heard = c.self.inside.heard; top = c.self.inside.top; counts = c.self.inside.counts } in
    let own : Option Cut = option_map (λ v. v.now) c.args.own in
    value_chosen k c.entries.result.now own c.index-least-0.result c.saturating_sub-enough.result (option_map (λ v. v.now) c.reported_by.result) c.in_ok-try_copy-in-len1-up.field-0
    c.entries.ensures (omega arith) c.index-least-0.is
    (c.saturating_sub-enough.ensures ∙ (λ i. (c.fast_size.ensures i + c.len-promised.ensures.value i) - c.self.inside.size))
    c.reported_by.ensures (c.in_ok-try_copy-in-len1-up.ensures ∙ now_of c.reported_by.result _ c.unwrap_or-chosen.result c.unwrap_or-chosen.ensures
    ∙ ap (λ (x : Cut × ℕ). unwrap_or (option_map (λ (v : Bor Cut). v.now) c.reported_by.result) x.0) (sym c.index-least-0.is))
    ∙ ap (λ q. value_of q own) c.self.view_is
