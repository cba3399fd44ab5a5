use Rattle.std.proofs.Common.{ap, ◌∙◌, is_some}
use Rattle.rapid_model.specs.Process.{same_bytes}
use Rattle.rapid_model.specs.Configuration.{position_of}
use Rattle.rapid_model.specs.Ring.{observers_of}
use Rattle.rapid_config.proofs.Places.{in_by_place}
use Rattle.rapid_rings.proofs.rings.RingsObserverTable.member_and_observer_near.Goals as goal

pub returns-clause-member : goal.returns-clause-member
unfolding observers_of
returns-clause-member c =
    c.is_some.ensures ∙ ap is_some (c.position_near-found.ensures.place ∙ ap (λ k. position_of k c.as_ref.result) c.self.view_is ∙ ap (position_of c.args.self.now) c.as_ref.ensures)
    ∙ in_by_place (same_bytes c.args.subject.now) c.args.self.now.members
