use Rattle.std.proofs.Common.{sym, subst, ◌∙◌}
use Rattle.rapid_alerts.specs.Alerts.{ArePlaced}
use Rattle.rapid_alerts.proofs.Listing.{listed_is, still}
use Rattle.rapid_alerts.proofs.list.AlertList.forget_unused.Goals as goal

pub returns : goal.returns
returns c =
    listed_is c.self.inside.observer c.self.inside.config
    (sym (still c.trim.new.subjects.items c.self.inside.subjects.items c.self.inside.items.items c.trim.ensures.grows (subst (ArePlaced c.trim.new.subjects.items) c.as_slice.ensures.value c.trim.ensures.placed)))
    ∙ c.self.view_is
