-- Clauses of public calls cite this file.
-- What the words of the program ask for, as its grammar has them.
use Rattle.std.specs.Prelude.{◌≡◌, ◌≤◌, ℕ, List, [], codes, if◌then◌else◌, Option, Some, None, option_map, option_and_then}
use Rattle.std.specs.Str.{bytes_eq}
use Rattle.std.specs.Str.Parse.{digits_value, without_leading_plus}
use Rattle.clap.specs.Words.{Row, Text, one_of, subcommand_of, fault_of, IsAmong}
use Rattle.clap.specs.declared.error.kind.ErrorKind.{ErrorKind}
use Rattle.clap.specs.declared.error.kind.ErrorKind.TheVariants.{DisplayHelp, DisplayVersion}
use Rattle.rapid_model.specs.Configuration.{AreParams}
use Rattle.rapid_model.specs.Limits.{most_clerks}
use Rattle.rapid_words.specs.Grammar.{grammar}
use Rattle.rapid_words.specs.declared.words.Invocation.{Invocation}
use Rattle.rapid_words.specs.declared.words.Invocation.TheVariants.{Detect, Sim, Cluster}
use Rattle.rapid_words.specs.declared.words.Setting.{Setting}

-- The number that the value of an option spells, if it has one.
abbrev pub number_in : List Row → Text → Option ℕ
number_in rows id = option_map (λ t. digits_value 10 (without_leading_plus t)) (one_of id rows)

-- The setting of these numbers, if all are there.
abbrev pub setting_by : (k h l nodes workers turns : Option ℕ) → Option Setting
setting_by (Some k) (Some h) (Some l) (Some nodes) (Some workers) (Some turns) =
    Some (record { params = record { k = k; h = h; l = l }; nodes = nodes; workers = workers; turns = turns })
setting_by _ _ _ _ _ _ = None

-- The setting that the options of `cluster` give.
abbrev pub setting_in : List Row → Option Setting
setting_in rows =
    setting_by (number_in rows (codes "k")) (number_in rows (codes "h")) (number_in rows (codes "l"))
    (number_in rows (codes "nodes")) (number_in rows (codes "workers")) (number_in rows (codes "turns"))

-- The command of a name, with its options.
abbrev pub invocation_named : Text → List Row → Option Invocation
invocation_named name rows =
    if bytes_eq name (codes "detect") then Some Detect
    else if bytes_eq name (codes "sim") then Some Sim
    else if bytes_eq name (codes "cluster") then option_map Cluster (setting_in rows)
    else None

-- The command that was found, if one was.
abbrev pub invocation_found : Option (Text × List Row) → Option Invocation
invocation_found found = option_and_then (λ p. invocation_named p.0 p.1) found

-- The command that the words name, with its options. `node` is none of these.
abbrev pub invocation_words : List Text → Option Invocation
invocation_words words = invocation_found (subcommand_of grammar words)

-- K, H and L of a cluster are in order.
abbrev pub IsInOrder : Invocation → Type 0
IsInOrder Detect = Unit {0}
IsInOrder Sim = Unit {0}
IsInOrder (Cluster s) = AreParams s.params

-- A cluster has at most 32 clerks.
abbrev pub CanRun : Invocation → Type 0
CanRun Detect = Unit {0}
CanRun Sim = Unit {0}
CanRun (Cluster s) = s.workers ≤ most_clerks

-- The grammar refuses nothing in the words, and this is the command that they name. K, H and L are in order.
pub record IsAsked (words : List Text) (invocation : Invocation) : Type 0 where
  pub taken : fault_of grammar words ≡ []
  pub named : invocation_words words ≡ Some invocation
  pub in_order : IsInOrder invocation

-- The answer is help or the version.
abbrev pub IsHelp : ErrorKind → Type 0
IsHelp DisplayHelp = Unit {0}
IsHelp DisplayVersion = Unit {0}
IsHelp _ = ⊥

-- The words ask for help or the version.
abbrev pub AsksForHelp : List Text → Type 0
AsksForHelp words = (k : ErrorKind) × IsHelp k × IsAmong k (fault_of grammar words)
