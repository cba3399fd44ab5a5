use Rattle.std.proofs.Common.{cond, count_by, nat_le, refl, [], ◌∷◌, ◌++◌, ◌∙◌, ap, ◌||◌, sym, subst}
use Rattle.rapid_model.specs.Ring.{rings}
use Rattle.rapid_cut.specs.Growing.{HaveGrown}
use Rattle.rapid_alerts.specs.RingMasks.{has_ring}
use Rattle.rapid_cut.proofs.Fresh.{adds_one, grown_more}
use Rattle.rapid_cut.proofs.taken.put.Goals as goal

pub returns-clause-direct : goal.returns-clause-direct
returns-clause-direct g c = adds_one c.args.known.now.reports.direct c.add.new.self.reports.direct c.args.subject.now.process.now c.args.ring c.bit-one.result c.bit-one.ensures c.in_ok-add.ensures.direct

pub returns-clause-all : goal.returns-clause-all
returns-clause-all g c = adds_one c.args.known.now.reports.all c.add.new.self.reports.all c.args.subject.now.process.now c.args.ring c.bit-one.result c.bit-one.ensures c.in_ok-add.ensures.all

pub returns-clause-grown : goal.returns-clause-grown
returns-clause-grown g c start grown =
    let t = g.T.ObserverTable.observers c.args.table.now in
    subst (λ r. HaveGrown t start r c.list.new.grown.items)
    (sym (adds_one c.args.known.now.reports.direct c.add.new.self.reports.direct c.args.subject.now.process.now c.args.ring c.bit-one.result c.bit-one.ensures c.in_ok-add.ensures.direct))
    (grown_more t start c.args.known.now.reports.direct c.args.subject.now.process.now c.args.ring c.args.so_far.direct c.with.result c.args.grown.now.items c.list.new.grown.items
    (nat_le t.params.l (count_by (has_ring c.args.so_far.direct) (rings t))) (nat_le t.params.l (count_by (has_ring c.with.result) (rings t)))
    c.requires.direct (λ j. c.with.ensures j ∙ ap (λ b. has_ring c.args.so_far.direct j || b) (c.bit-one.ensures j)) refl refl
    (c.in_ok-list.ensures
    ∙ (λ i. cond (c.comes_to_low-comes_to_low.ensures i) (c.args.grown.now.items ++ c.args.subject.now.process.now ∷ []) c.args.grown.now.items)) grown)
