use Rattle.std.proofs.Common.{◌≡◌, List, ap, subst, ◌∙◌}
use Rattle.std.specs.Prelude.{OnOk}
use Rattle.std.specs.List.{insert}
use Rattle.std.specs.FinMap.Entries.{put}
use Rattle.rapid_model.specs.Process.{Process, process_cmp}
use Rattle.rapid_alerts.specs.declared.mark.Marks.{Marks}
use Rattle.rapid_alerts.proofs.Entries.{put_there, put_new}
use Rattle.rapid_alerts.proofs.index.put_marks.Goals as goal

pub returns-in-Ok-clause-ok : goal.returns-in-Ok-clause-ok
returns-in-Ok-clause-ok c =
    let es = c.args.entries.now.items in
    put_there es c.as_slice.result.now c.as_ref.result c.requires c.as_slice.ensures.value
    c.in-Ok.at c.index_mut.result.now c.in-Ok.ensures.bound c.in-Ok.ensures.position c.index_mut.ensures.value c.args.marks
    ∙ ap (λ (s : Process). put process_cmp s c.args.marks es) c.as_ref.ensures

pub returns-in-Err-clause-ok : goal.returns-in-Err-clause-ok
returns-in-Err-clause-ok c =
    let es = c.args.entries.now.items in
    let new =
    subst (λ (s : Process). insert es c.in-Err.at (s, c.args.marks) ≡ put process_cmp s c.args.marks es) c.as_ref.ensures
    (put_new es c.as_slice.result.now c.as_ref.result c.requires c.as_slice.ensures.value c.in-Err.at c.in-Err.ensures.bound c.in-Err.ensures.position c.args.marks) in
    subst (λ (xs : List (Process × Marks)). OnOk c.add_entry.result (c.add_entry.new.entries.items ≡ xs)) new c.add_entry.ensures.added
