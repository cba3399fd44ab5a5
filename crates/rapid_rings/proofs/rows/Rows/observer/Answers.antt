use Rattle.std.proofs.Common.{◌≡◌, ◌≤◌, refl, ap, sym, subst, length, List, ◌∙◌, Some, slice_get}
use Rattle.std.specs.Option.{option_and_then}
use Rattle.std.proofs.lemmas.Option.{slice_get_read, slice_get_past}
use Rattle.rapid_model.specs.Process.{Process}
use Rattle.rapid_rings.specs.Rows.{Rows}
use Rattle.rapid_rings.proofs.RowLookups.{edge_at_place}
use Rattle.rapid_rings.proofs.rows.Rows.observer.Goals as goal

pub returns-in_err-row : goal.returns-in_err-row
returns-in_err-row c p e = c.from_residual.ensures ∙ sym (edge_at_place c.args.self.now c.args.place p c.args.ring _ c.row.ensures.rules e c.in_err-row.ensures.row)

pub returns-in_err-observer : goal.returns-in_err-observer
returns-in_err-observer c p e =
    c.from_residual-in_err-observer.ensures
    ∙ sym (edge_at_place c.args.self.now c.args.place p c.args.ring _ c.row.ensures.rules e c.in_ok-row.ensures.row
    ∙ ap (option_and_then (slice_get c.args.self.now.names)) (sym c.observer.ensures ∙ c.in_err-observer.was))

pub returns-in_err-get : goal.returns-in_err-get
returns-in_err-get c p e =
    let same : c.as_slice.result.now ≡ c.args.self.now.names = c.as_slice.ensures ∙ ap (λ (x : Rows). x.names) c.self.view_is in
    let past : length c.args.self.now.names ≤ c.in_ok-observer.observer = subst (λ (ns : List Process). length ns ≤ c.in_ok-observer.observer) same c.in_err-get.ensures.lookup.3 in
    c.from_residual-in_err-get.ensures
    ∙ sym (edge_at_place c.args.self.now c.args.place p c.args.ring _ c.row.ensures.rules e c.in_ok-row.ensures.row
    ∙ ap (option_and_then (slice_get c.args.self.now.names)) (sym c.observer.ensures ∙ c.in_ok-observer.was)
    ∙ slice_get_past c.args.self.now.names c.in_ok-observer.observer past)

pub returns : goal.returns
returns c p e =
    let same : c.as_slice.result.now ≡ c.args.self.now.names = c.as_slice.ensures ∙ ap (λ (x : Rows). x.names) c.self.view_is in
    let read : slice_get c.as_slice.result.now c.in_ok-observer.observer ≡ Some c.in_ok-get.field-0.now = slice_get_read _ _ _ c.in_ok-get.field-0.now refl c.in_ok-get.ensures.lookup.3.0 c.in_ok-get.ensures.lookup.1 in
    ap Some c.as_ref.ensures
    ∙ sym (edge_at_place c.args.self.now c.args.place p c.args.ring _ c.row.ensures.rules e c.in_ok-row.ensures.row
    ∙ ap (option_and_then (slice_get c.args.self.now.names)) (sym c.observer.ensures ∙ c.in_ok-observer.was)
    ∙ ap (λ (ns : List Process). slice_get ns c.in_ok-observer.observer) (sym same) ∙ read)
