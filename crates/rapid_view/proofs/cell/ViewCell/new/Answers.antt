use Rattle.std.proofs.Common.{◌∙◌, ap, sym, [], ◌∷◌}
use Rattle.rapid_model.specs.Configuration as model
use Rattle.rapid_view.specs.Seen.{Written}
use Rattle.rapid_view.proofs.cell.ViewCell.new.Goals as goal

pub seats_of-requires-clause-seen : goal.seats_of-requires-clause-seen
seats_of-requires-clause-seen g c =
    ([], ([], c.in_ok-stamps.ensures.0 ∙ ap (λ s. s ∷ []) (c.stamp-stamp.ensures ∙ ap model.stamp (sym c.in_ok-kept.ensures))))

pub returns-clause-of_cell : goal.returns-clause-of_cell
returns-clause-of_cell g c =
    let made = c.in_ok-all.ensures in
    λ k d within. (made.seats.1 k d within).0 ∙ sym (ap (λ (w : Written). w.cell) made.same)

pub returns-clause-seen : goal.returns-clause-seen
returns-clause-seen g c =
    let first = c.in_ok-stamps.ensures.0 ∙ ap (λ s. s ∷ []) c.stamp-stamp.ensures in
    λ k d within. (c.in_ok-all.ensures.seats.1 k d within).1 ∙ first

pub returns-clause-kept : goal.returns-clause-kept
returns-clause-kept g c = λ k d within. (c.in_ok-all.ensures.seats.1 k d within).2 ∙ c.in_ok-kept.ensures
