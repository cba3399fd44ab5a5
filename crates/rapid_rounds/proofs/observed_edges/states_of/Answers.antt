use Rattle.std.proofs.Common.{◌+◌, ◌∙◌, [], ◌∷◌, length, ap, arith}
use Rattle.std.proofs.lemmas.List.{length-append}
use Rattle.rapid_rounds.specs.Edges.{place_of}
use Rattle.rapid_rounds.proofs.Observing.{said_next, said_all, still_same, answered_next}
use Rattle.rapid_rounds.proofs.observed_edges.states_of.Goals as goal

pub loop-i-preserved : goal.loop-i-preserved
loop-i-preserved c =
    record {
      said =
          said_next place_of c.loop-i.i c.args.edges.now c.index-edges-i.result c.loop-i.states.items c.push.new.self.items c.state_of.result c.loop-i-test.true c.index-edges-i.is
          c.loop-i.invariant.said c.in_ok-push.ensures.items c.state_of.ensures.edge;
      board = still_same c.args.board.now c.loop-i.board c.is_down.new.board c.loop-i.invariant.board c.is_down.ensures.board;
      count = let long = length-append c.loop-i.states.items (c.state_of.result ∷ []) in ap length c.in_ok-push.ensures.items ∙ long ∙ ap (λ n. n + 1) c.loop-i.invariant.count;
      down =
          answered_next c.loop-i.i c.args.board.now c.loop-i.board c.is_down.new.board c.loop-i.states.items c.push.new.self.items c.state_of.result c.is_down.result
          c.loop-i.invariant.count c.loop-i.invariant.down c.is_down.ensures.answer c.state_of.ensures.down c.in_ok-push.ensures.items;
    }

pub returns-clause-edges : goal.returns-clause-edges
returns-clause-edges c = said_all place_of c.loop-i.i c.args.edges.now c.loop-i.states.items (omega (arith, c.loop-i-test.false, c.loop-i.auto.i-end)) c.loop-i.invariant.said
