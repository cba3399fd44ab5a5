use Rattle.std.proofs.Common.{map, true, sym, subst, ◌∙◌}
use Rattle.rapid_model.specs.Message as model
use Rattle.rapid_repeats.specs.Parts.{filter_of, Judges}
use Rattle.rapid_repeats.proofs.Parts.{placed, no_batch}
use Rattle.rapid_repeats.proofs.Judging.{not_sought, filter_after}
use Rattle.rapid_repeats.proofs.Judged.{batch_judged}
use Rattle.rapid_repeats.proofs.repeats.Repeats.admits_batch.Goals as goal

pub invariant_of-self : goal.invariant_of-self
invariant_of-self c =
    let s = c.self.inside in
    let at = placed s.configuration c.args.id c.args.sender.now c.in-Some.place (sym c.place_in.ensures ∙ c.in-Some.is) in
    let few = c.passes_batch.ensures.few c.self.invariant.1.few_batches in
    let j = batch_judged s.configuration s.ticks s.batches.entries c.passes_batch.new.batches.entries s.votes.entries s.questions c.args.sender.now c.args.id c.in-Some.place c.args.batch.now c.passes_batch.result c.self.invariant.0 c.self.invariant.1 at c.requires c.passes_batch.ensures.dropped c.passes_batch.ensures.same c.passes_batch.ensures.repeats c.passes_batch.ensures.kept few in
    (filter_after _ _ _ _ c.self.invariant.0 j.0, j.1)

pub returns-in-Some : goal.returns-in-Some
returns-in-Some c =
    let s = c.self.inside in
    let at = placed s.configuration c.args.id c.args.sender.now c.in-Some.place (sym c.place_in.ensures ∙ c.in-Some.is) in
    let few = c.passes_batch.ensures.few c.self.invariant.1.few_batches in
    let j = batch_judged s.configuration s.ticks s.batches.entries c.passes_batch.new.batches.entries s.votes.entries s.questions c.args.sender.now c.args.id c.in-Some.place c.args.batch.now c.passes_batch.result c.self.invariant.0 c.self.invariant.1 at c.requires c.passes_batch.ensures.dropped c.passes_batch.ensures.same c.passes_batch.ensures.repeats c.passes_batch.ensures.kept few in
    let m : model.Message = record { sender = c.args.sender.now; body = model.Batch c.args.id (map model.item_of c.args.batch.now) } in
    subst (λ r. Judges r m c.passes_batch.result (filter_of s.configuration s.ticks c.passes_batch.new.batches.entries s.votes.entries s.questions)) c.self.view_is j.0

pub returns-in-None : goal.returns-in-None
returns-in-None c =
    let s = c.self.inside in
    let none = sym c.place_in.ensures ∙ c.in-None.is in
    let m : model.Message = record { sender = c.args.sender.now; body = model.Batch c.args.id (map model.item_of c.args.batch.now) } in
    subst (λ r. Judges r m true r) c.self.view_is (not_sought _ _ c.self.invariant.0 (λ b. no_batch s.configuration c.args.id c.args.sender.now (map model.item_of c.args.batch.now) b none))
