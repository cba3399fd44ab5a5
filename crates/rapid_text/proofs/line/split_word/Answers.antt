use Rattle.std.proofs.Common.{◌≡◌, sym, ◌∙◌, ap, length, arith}
use Rattle.std.proofs.lemmas.Bool.Decides.{nat_tests}
use Rattle.std.proofs.lemmas.List.{take_rest}
use Rattle.rapid_text.proofs.Splitting.{no_words, first_word}
use Rattle.rapid_text.proofs.line.split_word.Goals as goal

pub returns-then-is_empty : goal.returns-then-is_empty
returns-then-is_empty c =
    let none : length c.without_spaces-rest.result.now ≡ 0 = grind (arith, nat_tests) in
    no_words c.args.line.now (ap length (sym c.without_spaces-rest.ensures) ∙ none)

pub returns : goal.returns
returns c =
    let w = first_word c.args.line.now (λ e. let none : length c.without_spaces-rest.result.now ≡ 0 = ap length c.without_spaces-rest.ensures ∙ e in absurd (grind (arith, nat_tests))) in
    rw (take_rest, c.word_len-end.ensures.word, c.word_len-end.ensures.rest, c.without_spaces-rest.ensures) w
