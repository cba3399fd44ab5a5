use Rattle.std.proofs.Common.{◌≡◌, ◌∙◌, sym, ap, refl, Some, slice_get, position}
use Rattle.std.proofs.lemmas.Option.{slice_get_read}
use Rattle.rapid_model.specs.Process.{same_bytes}
use Rattle.rapid_model.proofs.Orders.{same_bytes_decides}
use Rattle.rapid_roster.proofs.Indexing.{is_there}
use Rattle.rapid_rings.specs.Rows.{Rows}
use Rattle.rapid_rings.proofs.rows.Rows.is_at.Goals as goal

pub returns-in-Some : goal.returns-in-Some
returns-in-Some c e =
    let p = c.args.process.now in
    let names = c.self.inside.named in
    let read : slice_get c.as_slice.result.now c.args.place ≡ Some c.in-Some.named.now = slice_get_read _ _ _ c.in-Some.named.now refl c.in-Some.ensures.lookup.3.0 c.in-Some.ensures.lookup.1 in
    let is : p ≡ c.in-Some.named.now = (same_bytes_decides p c.in-Some.named.now).0 (sym c.is.ensures ∙ e) in
    let at : slice_get names c.args.place ≡ Some p = ap (λ ns. slice_get ns c.args.place) (sym c.as_slice.ensures) ∙ read ∙ ap Some (sym is) in
    ap (λ (x : Rows). position (same_bytes p) x.names) (sym c.self.view_is) ∙ is_there names p c.args.place (λ k there. c.self.invariant.once k c.args.place p there at) at
