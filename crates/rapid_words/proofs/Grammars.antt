-- The grammar is one whose parse clap defines.
use Rattle.std.proofs.Common.{◌≡◌, true, refl, ap, subst, List, [], Result, Ok, Err, IfErr, OnOk}
use Rattle.clap.specs.Words.{App, Text, is_simple, is_simple_and_free, fault_of, FailsBy, HasKind}
use Rattle.clap.specs.declared.error.Error.{Error}
use Rattle.clap.proofs.OnLiterals.{clap_on_literals}
use Rattle.rapid_words.specs.Grammar.{grammar, with_params}

pub grammar_simple : is_simple grammar ≡ true
unfolding clap_on_literals
grammar_simple = refl

pub grammar_free : is_simple_and_free grammar ≡ true
unfolding clap_on_literals
grammar_free = refl

-- K, H and L are added to equal commands.
pub after_params : {a b : App} → a ≡ b → with_params a ≡ with_params b
after_params e = ap with_params e

-- An error has one of the kinds of equal commands.
pub fails_so : {T : Type 0} (r : Result T Error) (a b : App) (words : List Text) → a ≡ b → FailsBy (fault_of a words) r → IfErr r (HasKind (fault_of b words))
fails_so (Ok x) a b words is h = tt
fails_so (Err e) a b words is h = subst (λ (x : App). HasKind (fault_of x words) e) is h

-- Words that are taken have no fault of equal commands.
pub takes_so : {T : Type 0} (r : Result T Error) (a b : App) (words : List Text) → a ≡ b → FailsBy (fault_of a words) r → OnOk r (fault_of b words ≡ [])
takes_so (Ok x) a b words is h = subst (λ (x : App). fault_of x words ≡ []) is h
takes_so (Err e) a b words is h = tt
