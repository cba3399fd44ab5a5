use Rattle.std.proofs.Common.{refl, inl, sym, subst, take, ap, vec_len, ◌∙◌, arith}
use Rattle.std.proofs.lemmas.List.{take_all}
use Rattle.rapid_service.specs.HandingOn.{down_on, downs_from}
use Rattle.rapid_service.specs.Posting.{stands, SaysAt, SaysSome}
use Rattle.rapid_service.specs.Stepping.{Steps, StepsAll, Fails, FailsAmong, AllInTurn, OneFails}
use Rattle.rapid_text.proofs.Streams.{handed_on}
use Rattle.rapid_service.proofs.Filtering.{stays_more}
use Rattle.rapid_service.proofs.Handing.{steps_more, downs_more, downs_fail}
use Rattle.rapid_service.proofs.Noting.{adds_same, adds_more, asks_more}
use Rattle.rapid_service.proofs.Posting.{on_err}
use Rattle.rapid_service.proofs.Seating.{seats_more, all_more, none_at_first}
use Rattle.rapid_service.proofs.service.Service.hand_down.Goals as goal

pub loop-ring-init : goal.loop-ring-init
loop-ring-init g c = record { steps = refl; says = refl; filter = inl (refl, refl); seats = inl refl; all = λ had none. absurd (none_at_first c.args.self.now.desk had none); asked = inl (refl, refl); notes = adds_same _ _ refl; rounds = refl; me = refl; count = refl }

-- The edge of a ring is a step, if it went down.
pub loop-ring-preserved : goal.loop-ring-preserved
loop-ring-preserved g c =
    let downs = c.args.downs.now in
    let ring = c.loop-ring.ring in
    let before = c.loop-ring.invariant in
    let after = c.hand_edge.ensures.rest in
    let posted = g.P.Post.has_posted in
    let me = c.args.self.now.me in
    let start = stands c.args.self.now.desk c.args.self.now.lines.items c.args.self.now.present c.args.self.now.post in
    let between = stands c.loop-ring.self.desk c.loop-ring.self.lines.items c.loop-ring.self.present c.loop-ring.self.post in
    let end = stands c.hand_edge.new.self.desk c.hand_edge.new.self.lines.items c.hand_edge.new.self.present c.hand_edge.new.self.post in
    record {
      steps =
          subst (λ events. StepsAll c.args.self.now.desk events c.hand_edge.new.self.desk) (sym (downs_more c.args.id 0 ring ring downs c.index-downs-ring.result (omega arith) (omega arith) c.index-downs-ring.is))
          (steps_more Steps _ _ _ (downs_from c.args.id 0 (take ring downs)) (down_on c.args.id ring c.index-downs-ring.result) c.loop-ring.invariant.steps
          (subst (λ down. StepsAll c.loop-ring.self.desk (down_on c.args.id ring down) c.hand_edge.new.self.desk) (sym c.index-downs-ring.is) c.in_ok-hand_edge.ensures.steps));
      says =
          subst (λ events. AllInTurn (SaysAt posted me) start events end) (sym (downs_more c.args.id 0 ring ring downs c.index-downs-ring.result (omega arith) (omega arith) c.index-downs-ring.is))
          (steps_more (SaysAt posted me) start between end (downs_from c.args.id 0 (take ring downs)) (down_on c.args.id ring c.index-downs-ring.result) before.says
          (subst (λ m. AllInTurn (SaysAt posted m) between (down_on c.args.id ring c.index-downs-ring.result) end) before.me
          (subst (λ down. AllInTurn (SaysAt posted c.loop-ring.self.me) between (down_on c.args.id ring down) end) (sym c.index-downs-ring.is) c.in_ok-hand_edge.ensures.says)));
      filter = stays_more _ _ _ _ _ _ before.filter c.in_ok-hand_edge.ensures.filter;
      seats = seats_more vec_len c.args.self.now.desk.count c.loop-ring.self.desk.count _ _ _ before.count before.seats c.in_ok-hand_edge.ensures.seats;
      all = all_more vec_len c.args.self.now.desk.count c.loop-ring.self.desk.count c.args.self.now.desk c.loop-ring.self.desk c.hand_edge.new.self.desk _ _ before.count before.all c.in_ok-hand_edge.ensures.all c.in_ok-hand_edge.ensures.seats;
      asked = asks_more _ _ _ _ _ _ before.asked c.in_ok-hand_edge.ensures.asked;
      notes = adds_more _ _ _ before.notes c.hand_edge.ensures.notes;
      rounds = after.0 ∙ before.rounds;
      me = after.1 ∙ before.me;
      count = after.2 ∙ before.count;
    }

-- The edge of a ring failed.
pub returns-in_err-hand_edge-clause-fault : goal.returns-in_err-hand_edge-clause-fault
returns-in_err-hand_edge-clause-fault g c =
    let downs = c.args.downs.now in
    let ring = c.loop-ring.ring in
    let fault = c.in_err-hand_edge.field-0.0 in
    handed_on (FailsAmong c.args.self.now.desk (downs_from c.args.id 0 downs) c.hand_edge.new.self.desk) fault c.from_residual.result c.from_residual.ensures.1
    (downs_fail Steps (λ old event new. Fails old event new fault) c.args.self.now.desk c.loop-ring.self.desk c.hand_edge.new.self.desk c.args.id ring downs c.index-downs-ring.result (omega arith) c.index-downs-ring.is c.loop-ring.invariant.steps
    (subst (λ down. FailsAmong c.loop-ring.self.desk (down_on c.args.id ring down) c.hand_edge.new.self.desk fault) (sym c.index-downs-ring.is) c.in_err-hand_edge.ensures.fault))

pub returns-clause-steps : goal.returns-clause-steps
returns-clause-steps g c = subst (λ events. StepsAll c.args.self.now.desk events c.loop-ring.self.desk) (ap (downs_from c.args.id 0) (take_all c.loop-ring.ring c.args.downs.now (omega arith))) c.loop-ring.invariant.steps

pub returns-clause-says : goal.returns-clause-says
returns-clause-says g c =
    let start = stands c.args.self.now.desk c.args.self.now.lines.items c.args.self.now.present c.args.self.now.post in
    let end = stands c.loop-ring.self.desk c.loop-ring.self.lines.items c.loop-ring.self.present c.loop-ring.self.post in
    subst (λ events. AllInTurn (SaysAt g.P.Post.has_posted c.args.self.now.me) start events end) (ap (downs_from c.args.id 0) (take_all c.loop-ring.ring c.args.downs.now (omega arith))) c.loop-ring.invariant.says

pub returns-in_err-hand_edge-clause-unsaid : goal.returns-in_err-hand_edge-clause-unsaid
returns-in_err-hand_edge-clause-unsaid g c =
    let downs = c.args.downs.now in
    let ring = c.loop-ring.ring in
    let posted = g.P.Post.has_posted in
    let me = c.args.self.now.me in
    let start = stands c.args.self.now.desk c.args.self.now.lines.items c.args.self.now.present c.args.self.now.post in
    let between = stands c.loop-ring.self.desk c.loop-ring.self.lines.items c.loop-ring.self.present c.loop-ring.self.post in
    let end = stands c.hand_edge.new.self.desk c.hand_edge.new.self.lines.items c.hand_edge.new.self.present c.hand_edge.new.self.post in
    on_err c.from_residual.result
    (downs_fail (SaysAt posted me) (SaysSome posted me) start between end c.args.id ring downs c.index-downs-ring.result (omega arith) c.index-downs-ring.is c.loop-ring.invariant.says
    (subst (λ m. OneFails (SaysAt posted m) (SaysSome posted m) between (down_on c.args.id ring c.index-downs-ring.result) end) c.loop-ring.invariant.me
    (subst (λ down. OneFails (SaysAt posted c.loop-ring.self.me) (SaysSome posted c.loop-ring.self.me) between (down_on c.args.id ring down) end) (sym c.index-downs-ring.is) c.in_err-hand_edge.ensures.unsaid)))

pub returns-in_err-hand_edge-clause-notes : goal.returns-in_err-hand_edge-clause-notes
returns-in_err-hand_edge-clause-notes g c = adds_more _ _ _ c.loop-ring.invariant.notes c.hand_edge.ensures.notes
