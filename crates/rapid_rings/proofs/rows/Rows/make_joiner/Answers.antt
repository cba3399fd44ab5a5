use Rattle.std.proofs.Common.{◌≡◌, ◌<◌, refl, ap, sym, subst, length, ◌∙◌, Some, slice_get}
use Rattle.std.proofs.lemmas.Option.{slice_get_read}
use Rattle.rapid_rings.specs.Rows.{Rows, place_in, row_in, AreRows}
use Rattle.rapid_rings.proofs.RowLookups.{is_counted}
use Rattle.rapid_rings.proofs.RowEdits.{adds_joiner, row_at}
use Rattle.rapid_rings.proofs.rows.Rows.make_joiner.Goals as goal

pub returns-clause-added : goal.returns-clause-added
returns-clause-added c p at =
    let x : Rows = record { names = c.self.inside.named; rows = c.self.inside.rows.items } in
    let within : c.args.place < length x.rows = subst (λ (y : Rows). c.args.place < length y.rows) (sym c.self.view_is) c.requires in
    let here : slice_get x.rows c.args.place ≡ Some c.index_mut-row.result.now = slice_get_read _ _ _ c.index_mut-row.result.now refl within c.index_mut-row.ensures.value in
    rw (← c.self.view_is) (adds_joiner x c.args.place c.index_mut-row.result.now p c.self.invariant (ap (λ (y : Rows). place_in y p) c.self.view_is ∙ at) here)

pub returns-clause-counted : goal.returns-clause-counted
returns-clause-counted c p at =
    let x : Rows = record { names = c.self.inside.named; rows = c.self.inside.rows.items } in
    let within : c.args.place < length x.rows = subst (λ (y : Rows). c.args.place < length y.rows) (sym c.self.view_is) c.requires in
    let here : slice_get x.rows c.args.place ≡ Some c.index_mut-row.result.now = slice_get_read _ _ _ c.index_mut-row.result.now refl within c.index_mut-row.ensures.value in
    c.is_observed_member-counted.ensures
    ∙ is_counted c.args.self.now p (Some c.index_mut-row.result.now) (subst AreRows c.self.view_is c.self.invariant)
    (ap (λ (y : Rows). row_in y p) (sym c.self.view_is) ∙ row_at x p c.args.place c.index_mut-row.result.now (ap (λ (y : Rows). place_in y p) c.self.view_is ∙ at) here)
