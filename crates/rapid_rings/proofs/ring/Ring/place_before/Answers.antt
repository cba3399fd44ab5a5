use Rattle.std.proofs.Common.{◌≡◌, length, slice_get, Some, ap, sym, ◌∙◌, refl}
use Rattle.std.proofs.lemmas.Option.{slice_get_read, slice_get_past}
use Rattle.rapid_rings.specs.Seats.{other_at, rank_before}
use Rattle.rapid_rings.proofs.Orders.{ranked_at, never_unranked}
use Rattle.rapid_rings.proofs.ring.Ring.place_before.Goals as goal

pub returns-in-Some : goal.returns-in-Some
returns-in-Some c i there =
    let h = c.in-Some.ensures.lookup in
    let ranks = c.deref.result.now in
    let rank = c.in-Some.rank.now in
    let xs = c.args.self.now in
    let read : slice_get c.self.inside.ranks.items c.args.place ≡ Some rank = ap (λ ns. slice_get ns c.args.place) (sym c.deref.ensures.value) ∙ slice_get_read ranks (length ranks) c.args.place rank refl h.3.0 h.1 in (
      rank,
      ranked_at xs c.self.inside.seats.items c.self.inside.ranks.items c.args.place rank i c.self.invariant c.self.view_is read there,
      c.other.ensures ∙ ap (λ r. other_at xs r c.args.place) (c.previous.ensures ∙ ap (rank_before rank) c.count.ensures),
    )

pub returns-in-None : goal.returns-in-None
returns-in-None c i there =
    let h = c.in-None.ensures.lookup in
    absurd (never_unranked c.args.self.now c.self.inside.seats.items c.self.inside.ranks.items c.args.place i c.self.invariant c.self.view_is (ap (λ ns. slice_get ns c.args.place) (sym c.deref.ensures.value) ∙ slice_get_past c.deref.result.now c.args.place h.3) there)
