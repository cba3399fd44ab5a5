use Rattle.std.proofs.Common.{true, sym, subst, ◌∙◌}
use Rattle.rapid_model.specs.Message as model
use Rattle.rapid_repeats.specs.Parts.{filter_of, Judges}
use Rattle.rapid_repeats.proofs.Parts.{placed, no_vote}
use Rattle.rapid_repeats.proofs.Judging.{not_sought, filter_after}
use Rattle.rapid_repeats.proofs.Judged.{vote_judged}
use Rattle.rapid_repeats.proofs.repeats.Repeats.admits_vote.Goals as goal

pub invariant_of-self : goal.invariant_of-self
invariant_of-self c =
    let s = c.self.inside in
    let at = placed s.configuration c.args.id c.args.sender.now c.in-Some.place (sym c.place_in.ensures ∙ c.in-Some.is) in
    let few = c.passes_vote.ensures.few c.self.invariant.1.few_votes in
    let j = vote_judged s.configuration s.ticks s.batches.entries s.votes.entries c.passes_vote.new.votes.entries s.questions c.args.sender.now c.args.id c.in-Some.place c.args.vote.now c.passes_vote.result c.self.invariant.0 c.self.invariant.1 at c.passes_vote.ensures.dropped c.passes_vote.ensures.same c.passes_vote.ensures.repeats c.passes_vote.ensures.kept few in
    (filter_after _ _ _ _ c.self.invariant.0 j.0, j.1)

pub returns-in-Some : goal.returns-in-Some
returns-in-Some c =
    let s = c.self.inside in
    let at = placed s.configuration c.args.id c.args.sender.now c.in-Some.place (sym c.place_in.ensures ∙ c.in-Some.is) in
    let few = c.passes_vote.ensures.few c.self.invariant.1.few_votes in
    let j = vote_judged s.configuration s.ticks s.batches.entries s.votes.entries c.passes_vote.new.votes.entries s.questions c.args.sender.now c.args.id c.in-Some.place c.args.vote.now c.passes_vote.result c.self.invariant.0 c.self.invariant.1 at c.passes_vote.ensures.dropped c.passes_vote.ensures.same c.passes_vote.ensures.repeats c.passes_vote.ensures.kept few in
    let m : model.Message = record { sender = c.args.sender.now; body = model.FastVote c.args.id c.args.vote.now } in
    subst (λ r. Judges r m c.passes_vote.result (filter_of s.configuration s.ticks s.batches.entries c.passes_vote.new.votes.entries s.questions)) c.self.view_is j.0

pub returns-in-None : goal.returns-in-None
returns-in-None c =
    let s = c.self.inside in
    let none = sym c.place_in.ensures ∙ c.in-None.is in
    let m : model.Message = record { sender = c.args.sender.now; body = model.FastVote c.args.id c.args.vote.now } in
    subst (λ r. Judges r m true r) c.self.view_is (not_sought _ _ c.self.invariant.0 (λ b. no_vote s.configuration c.args.id c.args.sender.now c.args.vote.now b none))
