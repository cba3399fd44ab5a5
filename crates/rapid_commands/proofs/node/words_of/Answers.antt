use Rattle.std.proofs.Common.{codes, sym, ◌∙◌, None, Some}
use Rattle.std.specs.Str.Parse.{ParsesUnsigned, ExplainsUnsignedError, HasUnsignedDigitsIfOk}
use Rattle.clap.specs.Words.{found_of, rows_of}
use Rattle.clap.proofs.WalkLemmas.{first_value-rows}
use Rattle.rapid_words.proofs.Reading.{read_number}
use Rattle.rapid_words.proofs.Refusing.{no_number}
use Rattle.rapid_commands.proofs.NodeWords.{so_none, no_listen, no_k, no_h, no_l, no_tick_ms, no_probers}
use Rattle.rapid_commands.proofs.node.words_of.Goals as goal

pub returns-in_err-get_str-clause-none : goal.returns-in_err-get_str-clause-none
returns-in_err-get_str-clause-none c =
    so_none c.from_residual.result (no_listen (rows_of (found_of c.args.words.now)) (sym (first_value-rows (found_of c.args.words.now) (codes "listen")) ∙ sym c.in_err-get_str.ensures))

pub returns-in_err-get_one-clause-none : goal.returns-in_err-get_one-clause-none
returns-in_err-get_one-clause-none c =
    so_none c.from_residual-in_err-get_one.result (no_k (rows_of (found_of c.args.words.now))
    (no_number _ (λ bs r. ParsesUnsigned 8 10 bs r × ExplainsUnsignedError 10 bs r × HasUnsignedDigitsIfOk bs r) 8 (found_of c.args.words.now) (codes "k") None c.in_err-get_one.ensures.value (λ u x g. g.0)))

pub returns-in_err-get_one-2-clause-none : goal.returns-in_err-get_one-2-clause-none
returns-in_err-get_one-2-clause-none c =
    so_none c.from_residual-in_err-get_one-2.result (no_h (rows_of (found_of c.args.words.now))
    (no_number _ (λ bs r. ParsesUnsigned 8 10 bs r × ExplainsUnsignedError 10 bs r × HasUnsignedDigitsIfOk bs r) 8 (found_of c.args.words.now) (codes "h") None c.in_err-get_one-2.ensures.value (λ u x g. g.0)))

pub returns-in_err-get_one-3-clause-none : goal.returns-in_err-get_one-3-clause-none
returns-in_err-get_one-3-clause-none c =
    so_none c.from_residual-in_err-get_one-3.result (no_l (rows_of (found_of c.args.words.now))
    (no_number _ (λ bs r. ParsesUnsigned 8 10 bs r × ExplainsUnsignedError 10 bs r × HasUnsignedDigitsIfOk bs r) 8 (found_of c.args.words.now) (codes "l") None c.in_err-get_one-3.ensures.value (λ u x g. g.0)))

pub returns-in_err-get_one-4-clause-none : goal.returns-in_err-get_one-4-clause-none
returns-in_err-get_one-4-clause-none c =
    so_none c.from_residual-in_err-get_one-4.result (no_tick_ms (rows_of (found_of c.args.words.now))
    (no_number _ (λ bs r. ParsesUnsigned 16 10 bs r × ExplainsUnsignedError 10 bs r × HasUnsignedDigitsIfOk bs r) 16 (found_of c.args.words.now) (codes "tick-ms") None c.in_err-get_one-4.ensures.value (λ u x g. g.0)))

pub returns-in_err-get_one-5-clause-none : goal.returns-in_err-get_one-5-clause-none
returns-in_err-get_one-5-clause-none c =
    so_none c.from_residual-in_err-get_one-5.result (no_probers (rows_of (found_of c.args.words.now))
    (no_number _ (λ bs r. ParsesUnsigned 8 10 bs r × ExplainsUnsignedError 10 bs r × HasUnsignedDigitsIfOk bs r) 8 (found_of c.args.words.now) (codes "probers") None c.in_err-get_one-5.ensures.value (λ u x g. g.0)))

pub returns-clause-listen : goal.returns-clause-listen
returns-clause-listen c = sym (first_value-rows (found_of c.args.words.now) (codes "listen")) ∙ sym c.in_ok-get_str.ensures

pub returns-clause-id : goal.returns-clause-id
returns-clause-id c = sym (first_value-rows (found_of c.args.words.now) (codes "id")) ∙ sym c.get_str-2.ensures

pub returns-clause-tags : goal.returns-clause-tags
returns-clause-tags c = sym (first_value-rows (found_of c.args.words.now) (codes "tags")) ∙ sym c.get_str-3.ensures

pub returns-clause-join : goal.returns-clause-join
returns-clause-join c = sym (first_value-rows (found_of c.args.words.now) (codes "join")) ∙ sym c.get_str-4.ensures

pub returns-clause-k : goal.returns-clause-k
returns-clause-k c =
    read_number _ (λ bs r. ParsesUnsigned 8 10 bs r × ExplainsUnsignedError 10 bs r × HasUnsignedDigitsIfOk bs r) 8 (found_of c.args.words.now) (codes "k") (Some c.in_ok-get_one.field-0)
    c.in_ok-get_one.ensures.none c.in_ok-get_one.ensures.value (λ u x g. g.0)

pub returns-clause-h : goal.returns-clause-h
returns-clause-h c =
    read_number _ (λ bs r. ParsesUnsigned 8 10 bs r × ExplainsUnsignedError 10 bs r × HasUnsignedDigitsIfOk bs r) 8 (found_of c.args.words.now) (codes "h") (Some c.in_ok-get_one-2.field-0)
    c.in_ok-get_one-2.ensures.none c.in_ok-get_one-2.ensures.value (λ u x g. g.0)

pub returns-clause-l : goal.returns-clause-l
returns-clause-l c =
    read_number _ (λ bs r. ParsesUnsigned 8 10 bs r × ExplainsUnsignedError 10 bs r × HasUnsignedDigitsIfOk bs r) 8 (found_of c.args.words.now) (codes "l") (Some c.in_ok-get_one-3.field-0)
    c.in_ok-get_one-3.ensures.none c.in_ok-get_one-3.ensures.value (λ u x g. g.0)

pub returns-clause-tick_ms : goal.returns-clause-tick_ms
returns-clause-tick_ms c =
    read_number _ (λ bs r. ParsesUnsigned 16 10 bs r × ExplainsUnsignedError 10 bs r × HasUnsignedDigitsIfOk bs r) 16 (found_of c.args.words.now) (codes "tick-ms") (Some c.in_ok-get_one-4.field-0)
    c.in_ok-get_one-4.ensures.none c.in_ok-get_one-4.ensures.value (λ u x g. g.0)

pub returns-clause-probers : goal.returns-clause-probers
returns-clause-probers c =
    read_number _ (λ bs r. ParsesUnsigned 8 10 bs r × ExplainsUnsignedError 10 bs r × HasUnsignedDigitsIfOk bs r) 8 (found_of c.args.words.now) (codes "probers") (Some c.in_ok-get_one-5.field-0)
    c.in_ok-get_one-5.ensures.none c.in_ok-get_one-5.ensures.value (λ u x g. g.0)
