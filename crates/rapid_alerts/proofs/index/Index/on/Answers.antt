use Rattle.std.proofs.Common.{subst}
use Rattle.rapid_model.specs.Process.{Process}
use Rattle.rapid_alerts.specs.Marks.{IsOn, no_marks}
use Rattle.rapid_alerts.proofs.Marks.{on_is}
use Rattle.rapid_alerts.proofs.Entries.{marks_there, none_there}
use Rattle.rapid_alerts.proofs.index.Index.on.Goals as goal

pub returns-in-Ok : goal.returns-in-Ok
returns-in-Ok c =
    let es = c.self.inside.marks.items in
    let s = c.as_ref.result in
    subst (λ (p : Process). IsOn c.args.self.now p c.index.result.now.1) c.as_ref.ensures
    (on_is es s c.index.result.now.1 c.self.view_is
    (marks_there es c.deref.result.now s c.self.invariant.ascend c.deref.ensures.value
    c.in-Ok.at c.index.result.now c.in-Ok.ensures.bound c.in-Ok.ensures.position c.index.ensures))

pub returns-in-Err : goal.returns-in-Err
returns-in-Err c =
    let es = c.self.inside.marks.items in
    let s = c.as_ref.result in
    subst (λ (p : Process). IsOn c.args.self.now p no_marks) c.as_ref.ensures
    (on_is es s no_marks c.self.view_is
    (none_there es c.deref.result.now s c.self.invariant.ascend c.deref.ensures.value
    c.in-Err.field-0 c.in-Err.ensures.bound c.in-Err.ensures.position))
