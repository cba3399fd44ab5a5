use Rattle.std.proofs.Common.{◌∙◌, ap}
use Rattle.rapid_cut.specs.declared.growing.Added.{Added}
use Rattle.rapid_cut.specs.Growing.{all_added, without_all}
use Rattle.rapid_cut.proofs.Fresh.{puts_adds, new_for, without_noted, without_more, noted_for, puts_for}
use Rattle.rapid_cut.proofs.growing.GrowingReports.add.Goals as goal

pub returns-clause-direct : goal.returns-clause-direct
returns-clause-direct c =
    puts_adds c.args.subject.now.process.now c.args.self.now.reports.direct c.put.new.self.direct c.args.so_far.direct c.args.rings.direct c.with.result.direct c.requires.direct c.with.ensures.direct
    (puts_for c.get.result.now c.args.subject.now.process.now c.with.result.direct c.args.self.now.reports.direct c.put.new.self.direct c.get.ensures c.in_ok-put.ensures.direct)

pub returns-clause-all : goal.returns-clause-all
returns-clause-all c =
    puts_adds c.args.subject.now.process.now c.args.self.now.reports.all c.put.new.self.all c.args.so_far.all c.args.rings.all c.with.result.all c.requires.all c.with.ensures.all
    (puts_for c.get.result.now c.args.subject.now.process.now c.with.result.all c.args.self.now.reports.all c.put.new.self.all c.get.ensures c.in_ok-put.ensures.all)

pub returns-clause-before : goal.returns-clause-before
returns-clause-before c =
    let r = c.args.self.now.reports in
    let s = c.args.subject.now.process.now in
    let a : Added = record { subject = s; rings = c.without-added.result } in
    let xs = all_added c.args.self.now.last c.args.self.now.others.items in
    let ys = all_added c.note_joined.new.last c.note_joined.new.others.items in
    λ i. record {
      direct =
          without_more (λ m. m.direct) r.direct c.put.new.self.direct xs ys a c.args.rings.direct
          (noted_for (λ m. m.direct) xs ys c.in_ok-kept.kept s c.without-added.result.direct c.in_ok-kept.ensures c.in_ok-note_joined.ensures.direct)
          (new_for s r.direct c.args.so_far.direct c.args.rings.direct c.without-added.result.direct c.requires.direct c.without-added.ensures.direct)
          (puts_adds s r.direct c.put.new.self.direct c.args.so_far.direct c.args.rings.direct c.with.result.direct c.requires.direct c.with.ensures.direct
          (puts_for c.get.result.now c.args.subject.now.process.now c.with.result.direct c.args.self.now.reports.direct c.put.new.self.direct c.get.ensures c.in_ok-put.ensures.direct)) i;
      all =
          without_more (λ m. m.all) r.all c.put.new.self.all xs ys a c.args.rings.all
          (noted_for (λ m. m.all) xs ys c.in_ok-kept.kept s c.without-added.result.all c.in_ok-kept.ensures c.in_ok-note_joined.ensures.all)
          (new_for s r.all c.args.so_far.all c.args.rings.all c.without-added.result.all c.requires.all c.without-added.ensures.all)
          (puts_adds s r.all c.put.new.self.all c.args.so_far.all c.args.rings.all c.with.result.all c.requires.all c.with.ensures.all
          (puts_for c.get.result.now c.args.subject.now.process.now c.with.result.all c.args.self.now.reports.all c.put.new.self.all c.get.ensures c.in_ok-put.ensures.all)) i;
    }

pub returns-in_err-put-clause-before : goal.returns-in_err-put-clause-before
returns-in_err-put-clause-before c =
    let r = c.args.self.now.reports in
    let s = c.args.subject.now.process.now in
    let a : Added = record { subject = s; rings = c.without-added.result } in
    let xs = all_added c.args.self.now.last c.args.self.now.others.items in
    let ys = all_added c.note_joined.new.last c.note_joined.new.others.items in
    ap (λ k. without_all k ys) c.in_err-put.ensures.unchanged
    ∙ (λ i. record {
      direct =
          without_noted (λ m. m.direct) r.direct xs ys a c.args.rings.direct
          (noted_for (λ m. m.direct) xs ys c.in_ok-kept.kept s c.without-added.result.direct c.in_ok-kept.ensures c.in_ok-note_joined.ensures.direct)
          (new_for s r.direct c.args.so_far.direct c.args.rings.direct c.without-added.result.direct c.requires.direct c.without-added.ensures.direct) i;
      all =
          without_noted (λ m. m.all) r.all xs ys a c.args.rings.all
          (noted_for (λ m. m.all) xs ys c.in_ok-kept.kept s c.without-added.result.all c.in_ok-kept.ensures c.in_ok-note_joined.ensures.all)
          (new_for s r.all c.args.so_far.all c.args.rings.all c.without-added.result.all c.requires.all c.without-added.ensures.all) i;
    })
