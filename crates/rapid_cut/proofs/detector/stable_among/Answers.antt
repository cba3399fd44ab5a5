use Rattle.std.proofs.Common.{◌≡◌, ◌∙◌, [], ◌∷◌, ◌++◌, ap, sym, cond, Vec, Global}
use Rattle.rapid_model.specs.Process.{Process}
use Rattle.rapid_model.specs.Reports.{is_stable}
use Rattle.rapid_cut.proofs.Cuts.{passes_more}
use Rattle.rapid_cut.proofs.detector.stable_among.Goals.{then-is_stable+in_ok-push, else-is_stable}
use Rattle.rapid_cut.proofs.detector.stable_among.Goals as goal

pub loop-subject-preserved : goal.loop-subject-preserved
loop-subject-preserved g c =
    let ys = c.loop-subject.found.items in
    let s = c.subject-item.result in
    let pushed : c.if-is_stable.found.items ≡ cond c.is_stable.result (ys ++ s ∷ []) ys =
    elim c.if-is_stable.branch [
      | then-is_stable+in_ok-push w ↦ ap (λ (v : Vec Process Global). v.items) w.found-is ∙ w.in_ok-push.ensures.items ∙ ap (λ p. ys ++ p ∷ []) w.to_process.ensures ∙ sym (ap (λ b. cond b (ys ++ s ∷ []) ys) w.if-is_stable.true)
      | else-is_stable w ↦ ap (λ (v : Vec Process Global). v.items) w.found-is ∙ sym (ap (λ b. cond b (ys ++ s ∷ []) ys) w.if-is_stable.false)
    ] in
    passes_more (is_stable (g.T.ObserverTable.observers c.args.table.now) c.args.reports.now.all) c.args.subjects.now c.loop-subject.subject-index s c.is_stable.result ys c.if-is_stable.found.items
    c.loop-subject-test.true c.subject-item.is c.is_stable.ensures pushed c.loop-subject.invariant
