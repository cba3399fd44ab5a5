use Rattle.std.proofs.Common.{◌∙◌, ◌-◌, ap, bit_and, count_ones}
use Rattle.std.proofs.lemmas.Nat.{one_shl}
use Rattle.rapid_cut.proofs.Counts.{first_counted, all_counted}
use Rattle.rapid_cut.proofs.mask.count.Goals.{then-rings-lt16, else-rings-lt16}
use Rattle.rapid_cut.proofs.mask.count.Goals as goal

pub returns : goal.returns
returns c =
    elim c.if-rings-lt16.branch [
      | then-rings-lt16 w ↦ ap count_ones (w.first-is ∙ ap (λ m. bit_and c.args.mask (m - 1)) (one_shl c.args.rings 16 w.if-rings-lt16.true)) ∙ first_counted c.args.mask c.args.rings c.ranges.mask.fits
      | else-rings-lt16 w ↦ ap count_ones w.first-is ∙ all_counted c.args.mask c.args.rings c.ranges.mask.fits w.if-rings-lt16.false
    ]
