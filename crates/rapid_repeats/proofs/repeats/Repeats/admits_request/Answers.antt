use Rattle.std.proofs.Common.{true, sym, ap, subst, ◌∙◌}
use Rattle.rapid_model.specs.Configuration.{configuration_id}
use Rattle.rapid_model.specs.Message as model
use Rattle.rapid_repeats.specs.Remembering.{Filter}
use Rattle.rapid_repeats.specs.Parts.{Judges}
use Rattle.rapid_repeats.proofs.Parts.{compared, no_request}
use Rattle.rapid_repeats.proofs.Judging.{not_sought}
use Rattle.rapid_repeats.proofs.repeats.Repeats.admits_request.Goals as goal

pub returns-then-ne : goal.returns-then-ne
returns-then-ne c =
    let s = c.self.inside in
    let m : model.Message = record { sender = c.args.sender.now; body = model.JoinRequest c.args.id c.args.ring } in
    subst (λ r. Judges r m true r) c.self.view_is (not_sought _ _ c.self.invariant.0 (λ b. no_request s.configuration c.args.id c.id.result c.args.sender.now c.args.ring c.ne.result b c.id.ensures c.ne.ensures c.if-ne.true))

pub returns : goal.returns
returns c =
    let here = compared c.args.id c.id.result c.ne.result c.ne.ensures c.if-ne.false ∙ c.id.ensures ∙ ap (λ (r : Filter). configuration_id r.configuration) c.self.view_is in
    subst (λ i. Judges c.args.self.now (record { sender = c.args.sender.now; body = model.JoinRequest i c.args.ring }) c.admits_asked.result c.admits_asked.new.self) (sym here) c.admits_asked.ensures
