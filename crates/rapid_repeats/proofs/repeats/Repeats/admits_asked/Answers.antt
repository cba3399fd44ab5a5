use Rattle.std.proofs.Common.{subst}
use Rattle.rapid_model.specs.Configuration.{configuration_id}
use Rattle.rapid_repeats.specs.Parts.{Judges, asked_in, filter_of}
use Rattle.rapid_repeats.proofs.Judging.{filter_after}
use Rattle.rapid_repeats.proofs.Judged.{asked_judged}
use Rattle.rapid_repeats.proofs.repeats.Repeats.admits_asked.Goals as goal

pub invariant_of-self : goal.invariant_of-self
invariant_of-self c =
    let s = c.self.inside in
    let here = configuration_id s.configuration in
    let e = c.passes.ensures in
    let j = asked_judged s.configuration s.ticks s.batches.entries s.votes.entries s.questions c.passes.new.self c.args.sender.now c.args.asked c.passes.result c.self.invariant.0 (e.dropped here) e.same (e.repeats here) e.kept e.few in
    (filter_after _ _ _ _ c.self.invariant.0 j, c.self.invariant.1)

pub returns : goal.returns
returns c =
    let s = c.self.inside in
    let here = configuration_id s.configuration in
    let e = c.passes.ensures in
    let j = asked_judged s.configuration s.ticks s.batches.entries s.votes.entries s.questions c.passes.new.self c.args.sender.now c.args.asked c.passes.result c.self.invariant.0 (e.dropped here) e.same (e.repeats here) e.kept e.few in
    subst (λ r. Judges r (record { sender = c.args.sender.now; body = asked_in (configuration_id r.configuration) c.args.asked }) c.passes.result (filter_of s.configuration s.ticks s.batches.entries s.votes.entries c.passes.new.self)) c.self.view_is j
