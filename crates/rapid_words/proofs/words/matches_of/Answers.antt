use Rattle.std.proofs.Common.{map, ap, ◌∙◌}
use Rattle.std.proofs.lemmas.Result.{IfOk-weaker}
use Rattle.clap.specs.Words.{App, subcommand_of, is_simple, is_simple_and_free}
use Rattle.rapid_words.proofs.Grammars.{grammar_simple, grammar_free, fails_so, takes_so}
use Rattle.rapid_words.proofs.words.matches_of.Goals as goal

pub returns-clause-found : goal.returns-clause-found
returns-clause-found g c =
    let is = c.in_ok-grammar.ensures.app in
    IfOk-weaker c.try_get_matches_from.result _ _ (λ m h. (h (ap is_simple is ∙ grammar_simple)).1 ∙ ap (λ (a : App). subcommand_of a (map g.S.AsStr.text c.args.words.now)) is) c.try_get_matches_from.ensures.matches

pub returns-clause-fails : goal.returns-clause-fails
returns-clause-fails g c =
    let is = c.in_ok-grammar.ensures.app in
    fails_so c.try_get_matches_from.result _ _ _ is (c.try_get_matches_from.ensures.kinds (ap is_simple_and_free is ∙ grammar_free))

pub returns-clause-taken : goal.returns-clause-taken
returns-clause-taken g c =
    let is = c.in_ok-grammar.ensures.app in
    takes_so c.try_get_matches_from.result _ _ _ is (c.try_get_matches_from.ensures.kinds (ap is_simple_and_free is ∙ grammar_free))
