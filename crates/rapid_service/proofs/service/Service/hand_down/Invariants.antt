use Rattle.std.proofs.Common.{◌≡◌, ◌⊎◌, take, vec_len, true, false}
use Rattle.rapid_service.specs.Filters.{StaysOrFresh}
use Rattle.rapid_service.specs.HandingOn.{downs_from}
use Rattle.rapid_service.specs.Noting.{AddsRemovals, AsksOrNone}
use Rattle.rapid_service.specs.Posting.{stands, SaysAt}
use Rattle.rapid_service.specs.Seats.{had_seats}
use Rattle.rapid_service.specs.Stepping.{StepsAll, AllInTurn}
use Rattle.rapid_service.proofs.service.Service.hand_down.Given as goal

abbrev pub invariant-loop-ring : goal.invariant-loop-ring
invariant-loop-ring g l =
    record {
      steps : StepsAll l.fn.self.desk (downs_from l.id 0 (take l.ring l.downs)) l.self.desk;
      says : AllInTurn (SaysAt g.P.Post.has_posted l.fn.self.me) (stands l.fn.self.desk l.fn.self.lines.items l.fn.self.present l.fn.self.post) (downs_from l.id 0 (take l.ring l.downs)) (stands l.self.desk l.self.lines.items l.self.present l.self.post);
      filter : StaysOrFresh l.fn.self.lines.items l.fn.self.present l.self.lines.items l.self.present;
      seats : (l.self.seats ≡ l.fn.self.seats) ⊎ (vec_len l.self.seats ≡ l.fn.self.desk.count);
      all : had_seats l.fn.self.desk l.self.desk ≡ true → l.self.desk.seats ≡ false → vec_len l.self.seats ≡ l.fn.self.desk.count;
      asked : AsksOrNone l.fn.self.lines.items l.fn.self.asking l.self.lines.items l.self.asking;
      notes : AddsRemovals l.fn.self.notes.waiting.items l.self.notes.waiting.items;
      rounds : l.self.rounds ≡ l.fn.self.rounds;
      me : l.self.me ≡ l.fn.self.me;
      count : l.self.desk.count ≡ l.fn.self.desk.count;
    }
