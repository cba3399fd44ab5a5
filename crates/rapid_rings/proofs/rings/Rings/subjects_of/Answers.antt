use Rattle.std.proofs.Common.{ap, sym, ◌∙◌}
use Rattle.rapid_model.specs.Configuration.{position_of}
use Rattle.rapid_rings.proofs.Lookups.{stranger_observes_nobody}
use Rattle.rapid_rings.proofs.rings.Rings.subjects_of.Goals as goal

pub returns-in-None : goal.returns-in-None
returns-in-None c =
    c.new.ensures.items
    ∙ stranger_observes_nobody c.args.self.now c.args.process.now (sym (c.in-None.ensures.place ∙ ap (λ k. position_of k c.args.process.now) c.self.view_is))
