-- Clauses of public calls cite this file.
-- Words that name the command `node`, and when these are refused.
use Rattle.std.specs.Prelude.{◌≡◌, ◌⊎◌, ℕ, List, codes, slice_get, Option, Some, None, IsSome}
use Rattle.std.specs.Option.{option_map}
use Rattle.clap.specs.Words.{Row, Text, first_of, one_of, subcommand_of, fault_of, IsAmong}
use Rattle.clap.specs.declared.error.kind.ErrorKind.{ErrorKind}
use Rattle.rapid_model.specs.Configuration.{Params}
use Rattle.rapid_options.specs.Options.{IsRefusal}
use Rattle.rapid_options.specs.declared.options.OptionsError.{OptionsError}
use Rattle.rapid_words.specs.Asked.{number_in}
use Rattle.rapid_words.specs.Grammar.{grammar}
use Rattle.rapid_words.specs.Refused.{IsFault, IsNumber}

-- The first word is the program's name, and the second one is `node`; each word has a text.
abbrev pub NamesNode : {S : Type 0} → (S → List ℕ) → List S → Type 0
NamesNode text words = option_map text (slice_get words 1) ≡ Some (codes "node")

-- A node's endpoint is there, and its numbers are numbers of their sizes. The grammar takes no other words.
pub record HasOptions (rows : List Row) : Type 0 where
  pub listen : IsSome (first_of (codes "listen") rows)
  pub k : IsNumber 8 (one_of (codes "k") rows)
  pub h : IsNumber 8 (one_of (codes "h") rows)
  pub l : IsNumber 8 (one_of (codes "l") rows)
  pub tick_ms : IsNumber 16 (one_of (codes "tick-ms") rows)
  pub probers : IsNumber 8 (one_of (codes "probers") rows)

-- K, H and L are not in order, or one of the texts cannot be read or names no place for a node.
pub record AreUnfit (rows : List Row) : Type 0 where
  pub params : Params
  pub listen : Text
  pub error : OptionsError
  pub k : number_in rows (codes "k") ≡ Some params.k
  pub h : number_in rows (codes "h") ≡ Some params.h
  pub l : number_in rows (codes "l") ≡ Some params.l
  pub listens : first_of (codes "listen") rows ≡ Some listen
  pub refused : IsRefusal params listen (first_of (codes "join") rows) (first_of (codes "id") rows) (first_of (codes "tags") rows) error

-- No node can be as its options say.
abbrev pub CannotBe : List Row → Type 0
CannotBe rows = ¬ HasOptions rows ⊎ AreUnfit rows

-- What was found is no node that can be.
abbrev pub IsNoNode : Option (Text × List Row) → Type 0
IsNoNode None = Unit {0}
IsNoNode (Some p) = ¬ (p.0 ≡ codes "node") ⊎ CannotBe p.1

-- The grammar refuses the words. Or what it takes of them is no node that can be.
abbrev pub AreRefusedForNode : List Text → Type 0
AreRefusedForNode words = ((k : ErrorKind) × IsFault k × IsAmong k (fault_of grammar words)) ⊎ IsNoNode (subcommand_of grammar words)
