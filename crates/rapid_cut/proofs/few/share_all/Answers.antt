use Rattle.std.proofs.Common.{◌++◌, ◌∷◌, [], ◌∙◌, ap, sym, take}
use Rattle.std.proofs.lemmas.List.{take_more, take_all, append_assoc, append-nil}
use Rattle.rapid_model.specs.Process.{Process}
use Rattle.rapid_cut.proofs.few.share_all.Goals as goal

pub loop-subject-init : goal.loop-subject-init
loop-subject-init c = sym (append-nil c.args.copy.now.items)

pub loop-subject-preserved : goal.loop-subject-preserved
loop-subject-preserved c =
    let es = c.args.entries.now in
    let i = c.loop-subject.subject-index in
    let x = c.loop-subject-item.result in
    let start = c.args.copy.now.items in
    c.in_ok-push.ensures.items
    ∙ ap (λ (p : Process). c.loop-subject.copy.items ++ (p, x.1) ∷ []) c.in_ok-try_copy.ensures
    ∙ ap (λ ys. ys ++ x ∷ []) c.loop-subject.invariant
    ∙ append_assoc start (take i es) (x ∷ [])
    ∙ ap (λ ys. start ++ ys) (sym (take_more es i x c.loop-subject-test.true ∙ ap (λ y. take i es ++ y ∷ []) (sym c.loop-subject-item.is)))

pub returns : goal.returns
returns c =
    c.loop-subject.invariant ∙ ap (λ ys. c.args.copy.now.items ++ ys) (take_all c.loop-subject.subject-index c.args.entries.now c.loop-subject-test.false)
