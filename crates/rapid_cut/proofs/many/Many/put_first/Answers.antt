use Rattle.std.proofs.Common.{◌∙◌, ◌++◌, ◌∷◌, [], is_some, true≢false, ap, sym}
use Rattle.rapid_model.specs.Process.{Process}
use Rattle.rapid_cut.specs.Listed.{masks_at}
use Rattle.rapid_cut.proofs.Listed.{pushed_last, is_none}
use Rattle.rapid_cut.proofs.many.Many.put_first.Goals as goal

pub push-requires : goal.push-requires
push-requires c =
    let ms = c.args.self.now in
    ap (masks_at ms) (c.in_ok-try_copy-in-None.ensures ∙ sym c.as_ref.ensures) ∙ sym c.masks_of.ensures ∙ c.in-None.is

pub returns-in-Some-clause-added : goal.returns-in-Some-clause-added
returns-in-Some-clause-added c lacks =
    absurd (true≢false (ap is_some (sym c.in-Some.is ∙ c.masks_of.ensures ∙ ap (masks_at c.args.self.now) c.as_ref.ensures) ∙ lacks))

pub returns-in_ok-push-in-None-clause-added : goal.returns-in_ok-push-in-None-clause-added
returns-in_ok-push-in-None-clause-added c lacks q =
    let s = c.args.subject.now in
    let old = c.args.self.now in
    ap (λ es. masks_at es q) (c.in_ok-push-in-None.ensures.pushed ∙ ap (λ (p : Process). old ++ (p, c.args.masks) ∷ []) c.in_ok-try_copy-in-None.ensures)
    ∙ pushed_last old s c.args.masks (is_none (masks_at old s) lacks) q
