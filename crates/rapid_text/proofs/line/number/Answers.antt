use Rattle.std.proofs.Common.{◌≡◌, true, false, nat_le, if◌then◌else◌, Some, None, sym, ◌∙◌, ap, arith, rules}
use Rattle.std.proofs.lemmas.Grind.{common_steps}
use Rattle.std.proofs.lemmas.Bool.Decides.{nat_tests}
use Rattle.rapid_text.specs.Spelled.{spelled_from}
use Rattle.rapid_text.proofs.Spelling.{number_is, up_to}
use Rattle.rapid_text.proofs.line.number.Goals as goal

pub returns-in_err-value-clause-value : goal.returns-in_err-value-clause-value
returns-in_err-value-clause-value c =
    let n = number_is c.args.limit c.args.word.now c.ranges.limit.fits (grind (arith, common_steps)) (omega arith) (grind (arith, common_steps)) in
    let d : spelled_from 0 c.args.word.now ≡ None = cc in
    let r : c.from_residual.result ≡ None = search rules in
    r ∙ sym (n ∙ ap (up_to c.args.limit) d)

pub returns-then-value-limit-clause-value : goal.returns-then-value-limit-clause-value
returns-then-value-limit-clause-value c =
    let n = number_is c.args.limit c.args.word.now c.ranges.limit.fits (grind (arith, common_steps)) (omega arith) (grind (arith, common_steps)) in
    let d : spelled_from 0 c.args.word.now ≡ Some c.in_ok-value.value = cc in
    let e : nat_le c.in_ok-value.value c.args.limit ≡ true = grind (arith, nat_tests) in
    sym (n ∙ ap (up_to c.args.limit) d ∙ ap (λ b. if b then Some c.in_ok-value.value else None) e)

pub returns-else-value-limit-clause-value : goal.returns-else-value-limit-clause-value
returns-else-value-limit-clause-value c =
    let n = number_is c.args.limit c.args.word.now c.ranges.limit.fits (grind (arith, common_steps)) (omega arith) (grind (arith, common_steps)) in
    let d : spelled_from 0 c.args.word.now ≡ Some c.in_ok-value.value = cc in
    let e : nat_le c.in_ok-value.value c.args.limit ≡ false = grind (arith, nat_tests) in
    sym (n ∙ ap (up_to c.args.limit) d ∙ ap (λ b. if b then Some c.in_ok-value.value else None) e)
