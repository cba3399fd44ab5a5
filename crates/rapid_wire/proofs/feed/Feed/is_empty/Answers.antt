use Rattle.std.proofs.Common.{◌≡◌, ◌∙◌, false, sym}
use Rattle.std.specs.Prelude.{is_some}
use Rattle.rapid_wire.proofs.Feeds.{left_none}
use Rattle.rapid_wire.proofs.feed.Feed.is_empty.Goals as goal

pub returns : goal.returns
returns c =
    let asked = c.is_some.ensures in
    let test = c.if-is_some.false in
    let none : is_some c.self.inside.fault ≡ false = cc in
    let both = left_none c.self.inside.held.items c.self.inside.fault none in
    (λ e. sym c.self.view_is ∙ both.0 (sym c.is_empty.ensures ∙ e), λ e. c.is_empty.ensures ∙ both.1 (c.self.view_is ∙ e))
