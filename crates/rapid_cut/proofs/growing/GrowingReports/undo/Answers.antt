use Rattle.std.proofs.Common.{◌≡◌, ◌∙◌, ap, sym, Option}
use Rattle.rapid_cut.specs.declared.growing.Added.{Added}
use Rattle.rapid_cut.specs.declared.growing.GrowingReports.{GrowingReports}
use Rattle.rapid_cut.specs.Growing.{all_added, without_all, before}
use Rattle.rapid_cut.proofs.Fresh.{all_none, all_next, takes_for}
use Rattle.rapid_cut.proofs.growing.GrowingReports.undo.Goals.{in-Some, in_default}
use Rattle.rapid_cut.proofs.growing.GrowingReports.undo.Goals as goal

pub returns-clause-reports : goal.returns-clause-reports
returns-clause-reports c =
    let r = c.args.self.now.reports in
    let xs = c.args.self.now.others.items in
    let first : without_all c.match-self.self.reports c.match-self.self.others.items ≡ before c.args.self.now =
    elim c.match-self.branch [
      | in-Some w ↦
          ap (λ (g : GrowingReports). without_all g.reports g.others.items) w.self-is ∙ all_next r w.take_out.new.self xs w.in-Some.added
          (takes_for w.as_ref.result w.in-Some.added.subject w.in-Some.added.rings.direct r.direct w.take_out.new.self.direct w.as_ref.ensures w.take_out.ensures.direct)
          (takes_for w.as_ref.result w.in-Some.added.subject w.in-Some.added.rings.all r.all w.take_out.new.self.all w.as_ref.ensures w.take_out.ensures.all)
          ∙ ap (λ (f : Option Added). without_all r (all_added f xs)) (sym w.in-Some.is)
      | in_default w ↦ ap (λ (g : GrowingReports). without_all g.reports g.others.items) w.self-is ∙ ap (λ (f : Option Added). without_all r (all_added f xs)) (sym w.in_default.is)
    ] in
    c.take_out-2.ensures ∙ ap (without_all c.match-self.self.reports) c.as_slice.ensures.value ∙ first

pub returns-clause-kept : goal.returns-clause-kept
returns-clause-kept c = all_none c.take_out-2.new.reports c.clear.new.self.items c.clear.ensures.items
