use Rattle.std.proofs.Common.{◌≡◌, ◌≤◌, ℕ, map}
use Rattle.rapid_rounds.specs.Edges.{all_blank, told_of, all_dealt, dealt_seats, seats_of}
use Rattle.rapid_rounds.proofs.observed_edges.ObservedEdges.all_parts.Given as goal

abbrev pub invariant-loop-part : goal.invariant-loop-part
invariant-loop-part l =
    record {
      rings : l.self.rings ≡ l.fn.self.rings;
      me : l.self.me ≡ l.fn.self.me;
      edges : l.self.edges.items ≡ l.fn.self.edges.items;
      parted : l.self.parted ≡ l.fn.self.parted;
      board : l.self.board ≡ l.fn.self.board;
      made : map told_of l.all.items ≡ all_blank l.fn.self.rings l.fn.self.edges.items l.fn.parts l.part;
      dealt : map seats_of l.all.items ≡ all_dealt l.fn.self.edges.items l.fn.self.seats.items l.fn.parts l.part;
      left : (q : ℕ) → l.part ≤ q → dealt_seats l.fn.self.edges.items l.self.seats.items l.fn.parts q ≡ dealt_seats l.fn.self.edges.items l.fn.self.seats.items l.fn.parts q;
    }
