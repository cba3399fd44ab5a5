use Rattle.std.proofs.Common.{Some, ◌≡◌, ◌<◌, length, vec_len, sym, ap, ◌∙◌, subst}
use Rattle.std.specs.Prelude.{IfSome}
use Rattle.rapid_model.specs.Configuration as model
use Rattle.rapid_view.specs.Seen.{Publishing}
use Rattle.rapid_desk.specs.Desks.{seen_by, shown_height}
use Rattle.rapid_desk.proofs.Seats.{AreOf, seats_stay, some_seen}
use Rattle.rapid_desk.proofs.Following.{shown_after}
use Rattle.rapid_desk.proofs.board.Board.go_on.Goals as goal

pub invariant_of-self : goal.invariant_of-self
invariant_of-self g c =
    let i = c.self.invariant in
    let w = c.in-Some.writer in
    let e = c.publish.ensures in
    let some : (0 < length w.seen) × (w.room ≡ 65536) = subst (λ x. IfSome x (λ (v : Publishing). (0 < length v.seen) × (v.room ≡ 65536))) c.in-Some.is i.2 in
    let seats = subst (λ x. AreOf (λ v. v.items) (λ v. vec_len v ≡ c.self.inside.count) x c.self.inside.seats) c.in-Some.is i.3 in
    let height : c.self.inside.height ≡ shown_height w.seen = subst (λ x. c.self.inside.height ≡ shown_height (seen_by x)) c.in-Some.is i.4 in
    (i.0, i.1, (some_seen c.publish.result w c.publish.new.self (model.stamp c.args.view) e.longer e.unchanged some.0, e.same.1 ∙ some.1), seats_stay (λ v. v.items) (λ v. vec_len v ≡ c.self.inside.count) w c.publish.new.self c.self.inside.seats e.same.0 seats, height ∙ ap (λ (v : Publishing). shown_height v.seen) (sym c.in_err-publish.ensures.unchanged))

pub invariant_of-self-2 : goal.invariant_of-self-2
invariant_of-self-2 g c =
    let i = c.self.invariant in
    let w = c.in-Some.writer in
    let e = c.publish.ensures in
    let some : (0 < length w.seen) × (w.room ≡ 65536) = subst (λ x. IfSome x (λ (v : Publishing). (0 < length v.seen) × (v.room ≡ 65536))) c.in-Some.is i.2 in
    let seats = subst (λ x. AreOf (λ v. v.items) (λ v. vec_len v ≡ c.self.inside.count) x c.self.inside.seats) c.in-Some.is i.3 in
    let height : c.height-height.result ≡ c.args.view.height = c.height-height.ensures ∙ ap (λ (x : model.Configuration). x.height) c.configuration.ensures in
    (i.0, i.1, (some_seen c.publish.result w c.publish.new.self (model.stamp c.args.view) e.longer e.unchanged some.0, e.same.1 ∙ some.1), seats_stay (λ v. v.items) (λ v. vec_len v ≡ c.self.inside.count) w c.publish.new.self c.self.inside.seats e.same.0 seats, ap Some height ∙ sym (shown_after w.seen c.publish.new.self.seen (model.stamp c.args.view) c.in_ok-publish.ensures.longer))
