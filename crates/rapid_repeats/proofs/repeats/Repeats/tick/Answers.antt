use Rattle.std.proofs.Common.{sym, subst}
use Rattle.rapid_repeats.specs.Remembering.{Remembers}
use Rattle.rapid_repeats.specs.Parts.{filter_of}
use Rattle.rapid_repeats.proofs.Judging.{remembers_tick}
use Rattle.rapid_repeats.proofs.repeats.Repeats.tick.Goals as goal

pub invariant_of-self : goal.invariant_of-self
invariant_of-self c =
    let s = c.self.inside in
    let i = c.self.invariant.0 in
    ((i.0, _, i.2, remembers_tick (filter_of s.configuration s.ticks s.batches.entries s.votes.entries s.questions) i.0 i.1 i.2 _ c.saturating_add-self-inside.ensures i.3), c.self.invariant.1)

pub returns : goal.returns
returns c config now passed remembers =
    let s = c.self.inside in
    remembers_tick (filter_of s.configuration s.ticks s.batches.entries s.votes.entries s.questions) config now passed _ c.saturating_add-self-inside.ensures (subst (λ r. Remembers r config now passed) (sym c.self.view_is) remembers)
