use Rattle.std.proofs.Common.{◌≡◌, ◌≢◌, ℕ, ◌++◌, drop}
use Rattle.std.specs.Prelude.{zip, flat_map}
use Rattle.rapid_rounds.specs.Edges.{dealt_seat, dealt_seats}
use Rattle.rapid_rounds.proofs.observed_edges.seats_in.Given as goal

abbrev pub invariant-loop-i : goal.invariant-loop-i
invariant-loop-i l =
    record {
      own : l.own.items ++ flat_map (dealt_seat l.parts l.part) (drop l.i (zip l.edges l.seats)) ≡ dealt_seats l.edges l.initial.seats l.parts l.part;
      others : (q : ℕ) → q ≢ l.part → dealt_seats l.edges l.seats l.parts q ≡ dealt_seats l.edges l.initial.seats l.parts q;
    }
