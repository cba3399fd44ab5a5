use Rattle.std.proofs.Common.{[], ap, ◌∙◌}
use Rattle.std.proofs.lemmas.List.{get_or_default}
use Rattle.rapid_model.specs.Configuration.{position_of}
use Rattle.rapid_rings.proofs.Following.{stays_there}
use Rattle.rapid_rings.proofs.places.place_before.Goals as goal

pub returns-then-stands_at : goal.returns-then-stands_at
returns-then-stands_at c =
    stays_there c.args.configuration.now.members c.args.processes.now c.args.places.now c.args.guess c.args.place c.tell.ensures.members.identifiers c.requires.places (c.stands_at.ensures c.if-stands_at.true)

pub returns : goal.returns
returns c =
    let process = c.index-processes-place.result in
    c.place_of.ensures
    ∙ ap (position_of c.args.configuration.now) (c.index-processes-place.is ∙ get_or_default c.args.processes.now c.args.place process [] c.requires.within)
