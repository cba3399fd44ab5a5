use Rattle.std.proofs.Common.{◌==◌, None, Option, ap, arith, sym, ◌∙◌}
use Rattle.std.specs.Prelude.{◌%◌, if◌then◌else◌, option_to_list}
use Rattle.rapid_monitor.specs.Boards.{Owned}
use Rattle.rapid_rounds.specs.Edges.{dealt_seat, dealt_seats}
use Rattle.rapid_rounds.proofs.Dealing.{taken_next, taken_all, left_for_others}
use Rattle.rapid_rounds.proofs.observed_edges.seats_in.Goals as goal

pub loop-i-preserved : goal.loop-i-preserved
loop-i-preserved c =
    let i = c.loop-i.i in
    let parts = c.args.parts in
    let part = c.args.part in
    let edges = c.args.edges.now in
    let seats = c.loop-i.seats in
    let edge = c.index-edges-i.result in
    let seat = c.index-seats-i.result in
    let after = c.seat_in.new.seat in
    record {
      own =
          taken_next (dealt_seat parts part) i edges seats edge seat after c.loop-i.own.items c.push_any.new.seats.items (option_to_list c.seat_in.result) (dealt_seats edges c.args.seats.now parts part)
          (omega (arith, c.loop-i-test.true)) (omega (arith, c.loop-i-test.true, c.loop-i.auto.seats)) c.index-edges-i.is c.index-seats-i.is c.loop-i.invariant.own c.in_ok-push_any.ensures
          (ap (λ (o : Option Owned). option_to_list o) (c.seat_in.ensures.taken ∙ ap (λ (o : Option Owned). if edge.0 % parts == part then o else None) (sym c.index-seats-i.is)));
      others = λ q apart.
          left_for_others parts part q i edges seats edge seat after (omega (arith, c.loop-i-test.true)) (omega (arith, c.loop-i-test.true, c.loop-i.auto.seats)) c.index-edges-i.is c.index-seats-i.is
          apart (c.seat_in.ensures.left ∙ ap (λ (o : Option Owned). if edge.0 % parts == part then None else o) (sym c.index-seats-i.is))
          ∙ c.loop-i.invariant.others q apart;
    }

pub returns-in_err-push_any-clause-others : goal.returns-in_err-push_any-clause-others
returns-in_err-push_any-clause-others c =
    let parts = c.args.parts in
    let part = c.args.part in
    let edge = c.index-edges-i.result in
    λ q apart.
    left_for_others parts part q c.loop-i.i c.args.edges.now c.loop-i.seats edge c.index-seats-i.result c.seat_in.new.seat (omega (arith, c.loop-i-test.true))
    (omega (arith, c.loop-i-test.true, c.loop-i.auto.seats)) c.index-edges-i.is c.index-seats-i.is apart
    (c.seat_in.ensures.left ∙ ap (λ (o : Option Owned). if edge.0 % parts == part then None else o) (sym c.index-seats-i.is))
    ∙ c.loop-i.invariant.others q apart

pub returns-clause-own : goal.returns-clause-own
returns-clause-own c =
    taken_all (dealt_seat c.args.parts c.args.part) c.loop-i.i c.args.edges.now c.loop-i.seats c.loop-i.own.items _ (omega (arith, c.loop-i-test.false, c.loop-i.auto.i-end, c.loop-i.auto.seats)) c.loop-i.invariant.own
