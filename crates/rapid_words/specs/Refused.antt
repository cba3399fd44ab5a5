-- Clauses of public calls cite this file.
-- When the words of the program are refused.
use Rattle.std.specs.Prelude.{◌≡◌, ◌⊎◌, ℕ, ◌<◌, ◌≤◌, ◌^◌, List, codes, Option, Some, None, IfSome}
use Rattle.std.specs.Str.Parse.{IsNumeral, digits_value, without_leading_plus}
use Rattle.clap.specs.Words.{Row, Text, one_of, subcommand_of, fault_of, IsAmong}
use Rattle.clap.specs.declared.error.kind.ErrorKind.{ErrorKind}
use Rattle.clap.specs.declared.error.kind.ErrorKind.TheVariants.{DisplayHelp, DisplayVersion, OutOfMemory}
use Rattle.rapid_model.specs.Configuration.{AreParams}
use Rattle.rapid_model.specs.Limits.{most_clerks}
use Rattle.rapid_words.specs.Asked.{setting_in}
use Rattle.rapid_words.specs.Grammar.{grammar}

-- A fault of the words: it is no wish for help or the version, and not that memory ran out.
abbrev pub IsFault : ErrorKind → Type 0
IsFault DisplayHelp = ⊥
IsFault DisplayVersion = ⊥
IsFault OutOfMemory = ⊥
IsFault _ = Unit {0}

-- The value of an option is a number of at most this many bits.
abbrev pub IsNumber : ℕ → Option Text → Type 0
IsNumber bits None = ⊥
IsNumber bits (Some t) = IsNumeral 10 (without_leading_plus t) × (digits_value 10 (without_leading_plus t) < 2 ^ bits)

-- The options of `cluster` are numbers, K, H and L are in order, and there are at most 32 clerks.
pub record IsSetting (rows : List Row) : Type 0 where
  pub k : IsNumber 8 (one_of (codes "k") rows)
  pub h : IsNumber 8 (one_of (codes "h") rows)
  pub l : IsNumber 8 (one_of (codes "l") rows)
  pub nodes : IsNumber 16 (one_of (codes "nodes") rows)
  pub workers : IsNumber 16 (one_of (codes "workers") rows)
  pub turns : IsNumber 16 (one_of (codes "turns") rows)
  pub fits : IfSome (setting_in rows) (λ s. AreParams s.params × (s.workers ≤ most_clerks))

-- A command other than `node` is named, and has the options that it needs.
abbrev pub CanDo : Option (Text × List Row) → Type 0
CanDo None = ⊥
CanDo (Some p) = (p.0 ≡ codes "detect") ⊎ (p.0 ≡ codes "sim") ⊎ ((p.0 ≡ codes "cluster") × IsSetting p.1)

-- The grammar refuses the words. Or what it takes of them is no command with the options that it needs.
abbrev pub AreRefused : List Text → Type 0
AreRefused words = ((k : ErrorKind) × IsFault k × IsAmong k (fault_of grammar words)) ⊎ ¬ CanDo (subcommand_of grammar words)
