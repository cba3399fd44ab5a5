use Rattle.std.proofs.Common.{◌≡◌, ◌∙◌, sym, ap, refl, Some, slice_get}
use Rattle.std.proofs.lemmas.Option.{same_Some, slice_get_read, slice_get_past}
use Rattle.rapid_model.proofs.Orders.{same_bytes_decides}
use Rattle.rapid_roster.proofs.roster.is_at.Goals as goal

pub returns-in-Some-clause-there : goal.returns-in-Some-clause-there
returns-in-Some-clause-there c e =
    let kept = c.in-Some.kept.now in
    let at : slice_get c.args.processes.now c.args.place ≡ Some kept = slice_get_read _ _ _ kept refl c.in-Some.ensures.lookup.3.0 c.in-Some.ensures.lookup.1 in
    at ∙ ap Some (sym ((same_bytes_decides c.args.process.now kept).0 (sym c.is.ensures ∙ e)))

pub returns-in-Some-clause-told : goal.returns-in-Some-clause-told
returns-in-Some-clause-told c e =
    let kept = c.in-Some.kept.now in
    let at : slice_get c.args.processes.now c.args.place ≡ Some kept = slice_get_read _ _ _ kept refl c.in-Some.ensures.lookup.3.0 c.in-Some.ensures.lookup.1 in
    c.is.ensures ∙ (same_bytes_decides c.args.process.now kept).1 (sym (same_Some _ _ (sym at ∙ e)))

pub returns-in-None-clause-told : goal.returns-in-None-clause-told
returns-in-None-clause-told c e = let wrong = sym (slice_get_past c.args.processes.now c.args.place c.in-None.ensures.lookup.3) ∙ e in cc
