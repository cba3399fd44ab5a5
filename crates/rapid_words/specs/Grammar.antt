-- Clauses of public calls cite this file.
-- The grammar of the command line: the commands, and the options of each.
use Rattle.std.specs.Prelude.{ℤ, true, [], ◌∷◌, codes, Some, pos}
use Rattle.clap.specs.Simple.{App, new_app, new_rule, with_rule, with_subcommand}
use Rattle.clap.specs.Walk.{Rule, Text}
use Rattle.clap.specs.declared.builder.action.ArgAction.TheVariants.{Set}
use Rattle.clap.specs.declared.builder.value_parser.ValueParser.TheVariants as vp
use Rattle.rapid_model.specs.Limits.{most_clerks, most_probers}

-- An option whose value is a text.
abbrev pub text_option : Text → Rule
text_option name = record (new_rule name) { long = Some name; value_names = 1; action = Some Set }

-- An option whose value is a number from the least to the most; without it this one.
abbrev pub number_option : Text → Text → ℤ → ℤ → Rule
number_option name default least most =
    record (text_option name) { defaults = default ∷ []; parser = Some (vp.Signed least most) }

-- The options K, H and L, each a byte.
abbrev pub with_params : App → App
with_params a =
    with_rule (with_rule (with_rule a (number_option (codes "k") (codes "10") (pos 0) (pos 255))) (number_option (codes "h") (codes "9") (pos 0) (pos 255)))
    (number_option (codes "l") (codes "3") (pos 0) (pos 255))

-- `cluster`.
abbrev pub cluster_words : App
cluster_words =
    with_params
    (with_rule (with_rule (with_rule (new_app (codes "cluster"))
    (number_option (codes "nodes") (codes "3") (pos 1) (pos 64)))
    (number_option (codes "workers") (codes "4") (pos 1) (pos most_clerks)))
    (number_option (codes "turns") (codes "10") (pos 1) (pos 10000)))

-- `node`.
abbrev pub node_words : App
node_words =
    with_rule (with_rule (with_params (with_rule (with_rule (with_rule (with_rule (new_app (codes "node"))
    (record (text_option (codes "listen")) { required = true }))
    (text_option (codes "id")))
    (text_option (codes "tags")))
    (text_option (codes "join"))))
    (number_option (codes "tick-ms") (codes "0") (pos 0) (pos 60000)))
    (number_option (codes "probers") (codes "1") (pos 1) (pos most_probers))

-- The program, which has a version and wants a command.
abbrev pub program_words : App
program_words =
    let a = new_app (codes "rapidd") in
    record a { top = record a.top { has_version = true; subcommand_required = true } }

-- All words that the program takes.
abbrev pub grammar : App
grammar =
    with_subcommand (with_subcommand (with_subcommand (with_subcommand program_words (new_app (codes "detect")).top) (new_app (codes "sim")).top) cluster_words.top) node_words.top
