use Rattle.std.proofs.Common.{◌≡◌, take}
use Rattle.rapid_service.specs.Entering.{view_in, views_of}
use Rattle.rapid_service.specs.Posting.{postings}
use Rattle.rapid_service.proofs.service.Service.send_all.Given as goal

abbrev pub invariant-loop-output : goal.invariant-loop-output
invariant-loop-output g l =
    record {
      desk : l.self.desk ≡ l.fn.self.desk;
      rounds : l.self.rounds ≡ l.fn.self.rounds;
      me : l.self.me ≡ l.fn.self.me;
      asking : l.self.asking ≡ l.fn.self.asking;
      seats : l.self.seats ≡ l.fn.self.seats;
      notes : l.self.notes.waiting.items ≡ l.fn.self.notes.waiting.items;
      present : l.self.present ≡ l.fn.self.present;
      views : views_of l.self.lines.items l.self.present ≡ views_of l.fn.self.lines.items l.fn.self.present;
      posted : g.P.Post.has_posted l.fn.self.post (postings (view_in l.fn.self.present) l.fn.self.me (take l.output-index l.sent)) l.self.post;
    }
