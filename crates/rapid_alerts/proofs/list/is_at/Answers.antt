use Rattle.std.proofs.Common.{◌≡◌, ◌<◌, ℕ, length, Some, refl, ap, sym, subst, ◌∙◌, arith}
use Rattle.std.specs.Prelude.{slice_get}
use Rattle.std.proofs.lemmas.Option.{slice_get_read}
use Rattle.rapid_model.proofs.Orders.{same_bytes_decides}
use Rattle.rapid_alerts.proofs.list.is_at.Goals as goal

pub returns-in-Some : goal.returns-in-Some
returns-in-Some c h =
    let ss = c.args.subjects.now in
    let n = c.from.result in
    let s = c.args.subject.now in
    let within : n < length ss = grind (arith, c.in-Some.ensures.lookup.0) in
    let at : slice_get ss n ≡ Some s =
    slice_get_read ss (length ss) n c.in-Some.found.now refl within c.in-Some.ensures.lookup.1
    ∙ ap Some (sym ((same_bytes_decides s c.in-Some.found.now).0 (sym c.is.ensures ∙ h))) in
    subst (λ (k : ℕ). slice_get ss k ≡ Some s) c.from.ensures at
