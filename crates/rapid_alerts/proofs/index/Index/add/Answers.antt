use Rattle.std.proofs.Common.{◌≡◌, List, T, ap, sym, subst, ◌∙◌}
use Rattle.std.specs.FinMap.Entries.{put, is_sorted, is_sorted-put}
use Rattle.std.specs.FinSet as set
use Rattle.rapid_model.specs.Process.{Process, process_cmp}
use Rattle.rapid_model.proofs.Orders.{processes_total}
use Rattle.rapid_alerts.specs.declared.mark.Marks.{Marks}
use Rattle.rapid_alerts.specs.Alerts.{alert_of}
use Rattle.rapid_alerts.specs.Outboxes.{Index}
use Rattle.rapid_alerts.proofs.Marks.{added_is, added_counted, room_by}
use Rattle.rapid_alerts.proofs.Entries.{puts}
use Rattle.rapid_alerts.proofs.index.Index.add.Goals as goal

pub counted-joiners-requires : goal.counted-joiners-requires
counted-joiners-requires c =
    room_by c.args.self.now (alert_of c.args.alert.now) c.args.marks c.self.inside.joiners c.requires.marks (c.self.invariant.counted ∙ ap (λ (i : Index). set.len i.joiners) c.self.view_is)
    ∙ c.requires.room

pub put_marks-requires : goal.put_marks-requires
put_marks-requires c = c.self.invariant.ascend

pub invariant_of-self-2 : goal.invariant_of-self-2
invariant_of-self-2 c =
    let es = c.self.inside.marks.items in
    let ns = c.put_marks.new.entries.items in
    let a = alert_of c.args.alert.now in
    let is : ns ≡ put process_cmp a.subject c.with-now.result es = c.in_ok-put_marks.ensures.ok ∙ ap (λ (s : Process). put process_cmp s c.with-now.result es) c.requires.subject in
    record {
      ascend = subst (λ (xs : List (Process × Marks)). T (is_sorted process_cmp xs)) (sym is) (is_sorted-put process_cmp processes_total a.subject c.with-now.result es c.self.invariant.ascend);
      counted =
          c.counted-joiners.ensures
          ∙ added_counted es ns a c.args.marks c.with-now.result c.self.inside.joiners (puts a.subject c.with-now.result es ns is)
          (record { rings = c.with-now.ensures.rings; joins = c.with-now.ensures.joins }) c.requires.marks c.self.view_is c.self.invariant.counted;
    }

pub returns-clause-added : goal.returns-clause-added
returns-clause-added c =
    let es = c.self.inside.marks.items in
    let ns = c.put_marks.new.entries.items in
    let a = alert_of c.args.alert.now in
    let is : ns ≡ put process_cmp a.subject c.with-now.result es = c.in_ok-put_marks.ensures.ok ∙ ap (λ (s : Process). put process_cmp s c.with-now.result es) c.requires.subject in
    added_is es ns a c.args.marks c.with-now.result (puts a.subject c.with-now.result es ns is)
    (record { rings = c.with-now.ensures.rings; joins = c.with-now.ensures.joins }) c.requires.marks c.self.view_is
