use Rattle.std.proofs.Common.{◌≡◌, List, [], ◌∷◌, ◌++◌, sym, ap, subst, ◌∙◌, Some, position}
use Rattle.rapid_model.specs.Process.{same_bytes}
use Rattle.rapid_roster.specs.Once.{StandOnce}
use Rattle.rapid_rings.specs.declared.row.Row.{Row}
use Rattle.rapid_rings.specs.Rows.{Rows, blank}
use Rattle.rapid_rings.proofs.RowEdits.{more_AreRows, more_says_same, place_of_last}
use Rattle.rapid_rings.proofs.rows.Rows.push.Goals as goal

pub invariant_of-self-2 : goal.invariant_of-self-2
invariant_of-self-2 c =
    let p = c.args.process.now in
    let x : Rows = record { names = c.self.inside.named; rows = c.self.inside.rows.items } in
    let names : c.push.new.self ≡ c.self.inside.named ++ p ∷ [] = c.in_ok-push.ensures.pushed ∙ ap (λ q. c.self.inside.named ++ q ∷ []) c.in_ok-new.ensures in
    let rows : c.push_reserved.new.self.items ≡ c.self.inside.rows.items ++ blank ∷ [] = c.push_reserved.ensures.items ∙ ap (λ (rs : List Row). rs ++ blank ∷ []) c.reserve.ensures.items in
    rw (names, rows) (more_AreRows x p c.self.invariant (subst StandOnce names c.tell.ensures))

pub returns-clause-place : goal.returns-clause-place
returns-clause-place c =
    let p = c.args.process.now in
    let x : Rows = record { names = c.self.inside.named; rows = c.self.inside.rows.items } in
    let names : c.push.new.self ≡ c.self.inside.named ++ p ∷ [] = c.in_ok-push.ensures.pushed ∙ ap (λ q. c.self.inside.named ++ q ∷ []) c.in_ok-new.ensures in
    ap (position (same_bytes p)) names ∙ place_of_last x p (subst StandOnce names c.tell.ensures) ∙ ap Some (sym c.len-place.ensures)

pub returns-clause-same : goal.returns-clause-same
returns-clause-same c =
    let p = c.args.process.now in
    let x : Rows = record { names = c.self.inside.named; rows = c.self.inside.rows.items } in
    let names : c.push.new.self ≡ c.self.inside.named ++ p ∷ [] = c.in_ok-push.ensures.pushed ∙ ap (λ q. c.self.inside.named ++ q ∷ []) c.in_ok-new.ensures in
    let rows : c.push_reserved.new.self.items ≡ c.self.inside.rows.items ++ blank ∷ [] = c.push_reserved.ensures.items ∙ ap (λ (rs : List Row). rs ++ blank ∷ []) c.reserve.ensures.items in
    rw (← c.self.view_is, names, rows) (more_says_same x p c.self.invariant (subst StandOnce names c.tell.ensures))
