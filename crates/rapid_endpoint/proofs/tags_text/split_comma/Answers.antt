use Rattle.std.proofs.Common.{◌≡◌, ◌+◌, ◌≤◌, ℕ, List, ◌∷◌, length, take, get_or, sym, ap, ◌∙◌, arith}
use Rattle.rapid_endpoint.specs.Texts.{between_commas}
use Rattle.rapid_endpoint.proofs.Commas.{one_word, first_word}
use Rattle.rapid_endpoint.proofs.Keys.{all_behind}
use Rattle.rapid_endpoint.proofs.tags_text.split_comma.Goals as goal

pub returns-then-text-i-eq44 : goal.returns-then-text-i-eq44
returns-then-text-i-eq44 c =
    let text = c.args.text.now in
    let i = c.loop-i.i in
    let is : get_or text i 0 ≡ 44 = omega (arith, c.if-text-i-eq44.true) in
    first_word text i c.loop-i-test.true c.loop-i.invariant is
    ∙ ap (λ (l : List ℕ). take i text ∷ between_commas l) (sym (all_behind (i + 1) text))

pub returns : goal.returns
returns c =
    let end : length c.args.text.now ≤ c.loop-i.i = omega (arith, c.loop-i-test.false) in
    one_word c.args.text.now c.loop-i.i end c.loop-i.invariant
