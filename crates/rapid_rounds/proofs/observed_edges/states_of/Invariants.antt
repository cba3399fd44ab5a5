use Rattle.std.proofs.Common.{◌≡◌, length, map, take}
use Rattle.rapid_rounds.specs.Edges.{SameBoard, AllAnswered, place_of, down_of}
use Rattle.rapid_rounds.proofs.observed_edges.states_of.Given as goal

abbrev pub invariant-loop-i : goal.invariant-loop-i
invariant-loop-i l =
    record {
      said : map place_of l.states.items ≡ take l.i l.edges;
      board : SameBoard l.initial.board l.board;
      count : length l.states.items ≡ l.i;
      down : AllAnswered l.initial.board l.board (map down_of l.states.items);
    }
