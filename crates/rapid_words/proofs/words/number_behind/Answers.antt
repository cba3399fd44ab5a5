use Rattle.std.specs.Str.Parse.{ParsesUnsigned, ExplainsUnsignedError, HasUnsignedDigitsIfOk}
use Rattle.clap.specs.Words.{found_of}
use Rattle.rapid_words.proofs.Reading.{read_number}
use Rattle.rapid_words.proofs.Refusing.{no_number}
use Rattle.rapid_words.proofs.words.number_behind.Goals as goal

pub returns-clause-read : goal.returns-clause-read
returns-clause-read c =
    read_number _ (λ bs r. ParsesUnsigned 16 10 bs r × ExplainsUnsignedError 10 bs r × HasUnsignedDigitsIfOk bs r) 16 (found_of c.args.words.now) c.args.option.now c.get_one.result
    c.get_one.ensures.none c.get_one.ensures.value (λ u x g. g.0)

pub returns-clause-none : goal.returns-clause-none
returns-clause-none c =
    no_number _ (λ bs r. ParsesUnsigned 16 10 bs r × ExplainsUnsignedError 10 bs r × HasUnsignedDigitsIfOk bs r) 16 (found_of c.args.words.now) c.args.option.now c.get_one.result
    c.get_one.ensures.value (λ u x g. g.0)
