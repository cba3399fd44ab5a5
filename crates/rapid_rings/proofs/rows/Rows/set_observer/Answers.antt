use Rattle.std.proofs.Common.{◌≡◌, ◌<◌, refl, ap, sym, subst, length, ◌∙◌, Some, slice_get}
use Rattle.std.proofs.lemmas.Option.{slice_get_read}
use Rattle.rapid_rings.specs.Rows.{Rows, place_in, row_in, AreRows}
use Rattle.rapid_rings.proofs.RowLookups.{is_unobserved}
use Rattle.rapid_rings.proofs.RowEdits.{adds_edge, row_at}
use Rattle.rapid_rings.proofs.rows.Rows.set_observer.Goals as goal

pub returns-clause-added : goal.returns-clause-added
returns-clause-added c by o s is at who =
    let x : Rows = record { names = c.self.inside.named; rows = c.self.inside.rows.items } in
    let within : c.args.place < length x.rows = subst (λ (y : Rows). c.args.place < length y.rows) (sym c.self.view_is) c.requires.place in
    let here : slice_get x.rows c.args.place ≡ Some c.index_mut-row.result.now = slice_get_read _ _ _ c.index_mut-row.result.now refl within c.index_mut-row.ensures.value in
    rw (c.from.ensures, is, ← c.self.view_is) (adds_edge x c.args.place c.args.ring c.index_mut-row.result.now by o s c.self.invariant c.requires.ring
    (ap (λ (y : Rows). place_in y s) c.self.view_is ∙ at) here (ap (λ (y : Rows). place_in y o) c.self.view_is ∙ who))

pub returns-clause-counts : goal.returns-clause-counts
returns-clause-counts c s at =
    let x : Rows = record { names = c.self.inside.named; rows = c.self.inside.rows.items } in
    let within : c.args.place < length x.rows = subst (λ (y : Rows). c.args.place < length y.rows) (sym c.self.view_is) c.requires.place in
    let here : slice_get x.rows c.args.place ≡ Some c.index_mut-row.result.now = slice_get_read _ _ _ c.index_mut-row.result.now refl within c.index_mut-row.ensures.value in
    c.is_unobserved_member-counts.ensures
    ∙ is_unobserved c.args.self.now s (Some c.index_mut-row.result.now) (subst AreRows c.self.view_is c.self.invariant)
    (ap (λ (y : Rows). row_in y s) (sym c.self.view_is) ∙ row_at x s c.args.place c.index_mut-row.result.now (ap (λ (y : Rows). place_in y s) c.self.view_is ∙ at) here)
