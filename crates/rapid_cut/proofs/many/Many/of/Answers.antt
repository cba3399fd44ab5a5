use Rattle.std.proofs.Common.{◌≡◌, ◌∙◌, ◌+◌, true, false, is_some, take, ap, refl}
use Rattle.rapid_cut.specs.Listed.{masks_at}
use Rattle.rapid_cut.proofs.Listed.{map_more, map_same}
use Rattle.rapid_cut.proofs.many.Many.of.Goals as goal

pub loop-subject-preserved : goal.loop-subject-preserved
loop-subject-preserved c q =
    let es = c.args.entries.now in
    let i = c.loop-subject.subject-index in
    let x = c.loop-subject-item.result in
    let ms = c.loop-subject.many in
    elim (is_some (masks_at ms x.0)) as (λ b. is_some (masks_at ms x.0) ≡ b → masks_at c.put_first.new.self q ≡ masks_at (take (i + 1) es) q) [
      | true ↦ λ h. ap (λ ns. masks_at ns q) (c.in_ok-put_first.ensures.there h) ∙ map_same es i x c.loop-subject-test.true c.loop-subject-item.is ms c.loop-subject.invariant h q
      | false ↦ λ h. map_more es i x c.loop-subject-test.true c.loop-subject-item.is ms c.loop-subject.invariant c.put_first.new.self h (c.in_ok-put_first.ensures.added h) q
    ] refl
