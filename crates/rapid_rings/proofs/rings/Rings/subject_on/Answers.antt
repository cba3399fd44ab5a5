use Rattle.std.proofs.Common.{ap, sym, ◌∙◌}
use Rattle.rapid_model.specs.Configuration.{position_of}
use Rattle.rapid_rings.proofs.Lookups.{stranger_has_no_subject}
use Rattle.rapid_rings.proofs.rings.Rings.subject_on.Goals as goal

pub returns-in-None : goal.returns-in-None
returns-in-None c =
    stranger_has_no_subject c.args.self.now c.args.process.now c.args.ring (sym (c.in-None.ensures.place ∙ ap (λ k. position_of k c.args.process.now) c.self.view_is))
