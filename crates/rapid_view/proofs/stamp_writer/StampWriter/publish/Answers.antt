use Rattle.std.proofs.Common.{◌∙◌, ap, sym, subst, arith, ◌∷◌, [], List, length, length-append}
use Rattle.rapid_model.specs.Configuration.{Stamp}
use Rattle.rapid_model.specs.PublishedList.{HeightsRise}
use Rattle.rapid_view.specs.Seen.{Written, last_height, MayFollow}
use Rattle.rapid_view.specs.CellRule.{writing}
use Rattle.rapid_view.proofs.Moves.{rises_snoc, last_height_snoc}
use Rattle.rapid_view.proofs.stamp_writer.StampWriter.publish.Goals as goal

pub add-requires-clause-rises : goal.add-requires-clause-rises
add-requires-clause-rises c =
    let may : MayFollow c.self.inside.room c.self.inside.seat.me.0.seen c.args.stamp.height = subst (λ (v : Written). MayFollow v.room v.seen c.args.stamp.height) (sym c.self.view_is) c.requires in
    rises_snoc c.self.inside.seat.me.0.seen c.args.stamp c.self.invariant.8 may.0

pub invariant_of-self : goal.invariant_of-self
invariant_of-self c =
    let i = c.self.invariant in
    let l = c.add.ensures in
    let seen : List Stamp = c.self.inside.seat.me.0.seen in
    let may : MayFollow c.self.inside.room seen c.args.stamp.height = subst (λ (v : Written). MayFollow v.room v.seen c.args.stamp.height) (sym c.self.view_is) c.requires in
    let grown = ap (λ m. m.0.seen) l.longer in (
      l.same.0 ∙ i.0,
      i.1,
      i.2,
      i.3,
      l.longer ∙ (λ k. (writing (ap (λ m. m.0.room) i.4 k) (sym (ap (λ m. m.0.seen) l.longer) k) [], [])),
      omega (arith, i.5, ap length grown, length-append seen (c.args.stamp ∷ [])),
      omega (arith, i.5, may.1),
      c.height.ensures ∙ sym (ap last_height grown ∙ last_height_snoc seen c.args.stamp),
      subst HeightsRise (sym grown) (rises_snoc seen c.args.stamp i.8 may.0),
    )
