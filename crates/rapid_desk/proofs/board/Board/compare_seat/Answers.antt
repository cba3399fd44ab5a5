use Rattle.std.proofs.Common.{◌≡◌, ◌<◌, length, vec_len, sym, ap, ◌∙◌, subst}
use Rattle.rapid_view.specs.Seen.{Publishing}
use Rattle.rapid_desk.specs.Desks.{seen_by, shown_height}
use Rattle.rapid_desk.proofs.Seats.{AreOf, HasBegun, seats_stay}
use Rattle.rapid_desk.proofs.board.Board.compare_seat.Goals as goal

pub invariant_of-self : goal.invariant_of-self
invariant_of-self g c =
    let i = c.self.invariant in
    let w = c.in-Some.writer in
    let same = c.compare.ensures.same.0 in
    let some = subst (HasBegun 65536) c.in-Some.is i.2 in
    let seats = subst (λ x. AreOf (λ v. v.items) (λ v. vec_len v ≡ c.self.inside.count) x c.self.inside.seats) c.in-Some.is i.3 in
    let height : c.self.inside.height ≡ shown_height w.seen = subst (λ x. c.self.inside.height ≡ shown_height (seen_by x)) c.in-Some.is i.4 in
    (i.0, i.1, subst (λ (x : Publishing). (0 < length x.seen) × (x.room ≡ 65536)) (sym same) some, seats_stay (λ v. v.items) (λ v. vec_len v ≡ c.self.inside.count) w c.compare.new.self c.self.inside.seats (ap (λ (x : Publishing). x.cell) same) seats, height ∙ ap (λ (x : Publishing). shown_height x.seen) (sym same))
