use Rattle.std.proofs.Common.{Some, OnOk, OnErr, IfErr, inl, sym, ap, subst, ◌∙◌}
use Rattle.rapid_model.specs.Node.{EdgeDown}
use Rattle.rapid_service.specs.HandingOn.{down_on}
use Rattle.rapid_service.specs.Posting.{stands, SaysAt, SaysSome}
use Rattle.rapid_service.specs.Stepping.{Steps, StepsAll, Fails, FailsAmong, AllInTurn, OneFails}
use Rattle.rapid_service.proofs.Handing.{one_step, one_fails, one_unsaid}
use Rattle.rapid_service.proofs.Noting.{adds_removal, adds_same, asked_or_none}
use Rattle.rapid_service.proofs.service.Service.hand_edge.Goals as goal

pub returns-in-Ok-clause-steps : goal.returns-in-Ok-clause-steps
returns-in-Ok-clause-steps g c =
    subst (λ down. OnOk c.step.result (StepsAll c.args.self.now.desk (down_on c.args.id c.args.ring down) c.step.new.self.desk)) (sym (c.in-Some.is ∙ ap Some (sym c.in-Ok.ensures)))
    (one_step Steps c.step.result _ _ _ c.step.ensures.step)

pub returns-in-Ok-clause-fault : goal.returns-in-Ok-clause-fault
returns-in-Ok-clause-fault g c =
    subst (λ down. IfErr c.step.result (FailsAmong c.args.self.now.desk (down_on c.args.id c.args.ring down) c.step.new.self.desk)) (sym (c.in-Some.is ∙ ap Some (sym c.in-Ok.ensures)))
    (one_fails Steps (λ fault old event new. Fails old event new fault) c.step.result c.args.self.now.desk c.step.new.self.desk (EdgeDown c.args.id c.args.ring c.in-Ok.subject) c.step.ensures.fault)

pub returns-in-Ok-clause-says : goal.returns-in-Ok-clause-says
returns-in-Ok-clause-says g c =
    let says = SaysAt g.P.Post.has_posted c.args.self.now.me in
    let start = stands c.args.self.now.desk c.args.self.now.lines.items c.args.self.now.present c.args.self.now.post in
    let end = stands c.step.new.self.desk c.step.new.self.lines.items c.step.new.self.present c.step.new.self.post in
    subst (λ down. OnOk c.step.result (AllInTurn says start (down_on c.args.id c.args.ring down) end)) (sym (c.in-Some.is ∙ ap Some (sym c.in-Ok.ensures)))
    (one_step says c.step.result start end (EdgeDown c.args.id c.args.ring c.in-Ok.subject) c.step.ensures.says)

pub returns-in-Ok-clause-unsaid : goal.returns-in-Ok-clause-unsaid
returns-in-Ok-clause-unsaid g c =
    let says = SaysAt g.P.Post.has_posted c.args.self.now.me in
    let some = SaysSome g.P.Post.has_posted c.args.self.now.me in
    let start = stands c.args.self.now.desk c.args.self.now.lines.items c.args.self.now.present c.args.self.now.post in
    let end = stands c.step.new.self.desk c.step.new.self.lines.items c.step.new.self.present c.step.new.self.post in
    subst (λ down. OnErr c.step.result (OneFails says some start (down_on c.args.id c.args.ring down) end)) (sym (c.in-Some.is ∙ ap Some (sym c.in-Ok.ensures)))
    (one_unsaid says some c.step.result start end (EdgeDown c.args.id c.args.ring c.in-Ok.subject) c.step.ensures.unsaid)

pub returns-in-Ok-clause-notes : goal.returns-in-Ok-clause-notes
returns-in-Ok-clause-notes g c = adds_removal _ _ _ _ c.step.ensures.notes

pub returns-in-Ok-clause-asked : goal.returns-in-Ok-clause-asked
returns-in-Ok-clause-asked g c = asked_or_none c.step.result _ _ _ _ _ c.step.ensures.views c.step.ensures.asked

-- There was no memory for the event: the desk refused it, and nothing was posted.
pub returns-in-Err-clause-fault : goal.returns-in-Err-clause-fault
returns-in-Err-clause-fault g c =
    subst (λ down. FailsAmong c.args.self.now.desk (down_on c.args.id c.args.ring down) c.refuse_edge.new.self.desk c.refuse_edge.result) (sym c.in-Some.is)
    (inl (inl (c.refuse_edge.ensures.refused c.args.id c.args.ring c.in-Some.subject, c.refuse_edge.ensures.closed)))

pub returns-in-Err-clause-unsaid : goal.returns-in-Err-clause-unsaid
returns-in-Err-clause-unsaid g c =
    let says = SaysAt g.P.Post.has_posted c.args.self.now.me in
    let some = SaysSome g.P.Post.has_posted c.args.self.now.me in
    let start = stands c.args.self.now.desk c.args.self.now.lines.items c.args.self.now.present c.args.self.now.post in
    let end = stands c.refuse_edge.new.self.desk c.refuse_edge.new.self.lines.items c.refuse_edge.new.self.present c.refuse_edge.new.self.post in
    subst (λ down. OneFails says some start (down_on c.args.id c.args.ring down) end) (sym c.in-Some.is) (inl (inl c.refuse_edge.ensures.post))

pub returns-in-Err-clause-notes : goal.returns-in-Err-clause-notes
returns-in-Err-clause-notes g c = adds_same _ _ c.refuse_edge.ensures.notes
