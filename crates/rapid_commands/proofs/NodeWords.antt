-- Words of `node` that are refused.
use Rattle.std.proofs.Common.{◌≡◌, true, false, List, codes, sym, ap, subst, ◌∙◌, Option, Some, None, IsSome, IfNone, inl, inr}
use Rattle.std.specs.Prelude.{option_map}
use Rattle.clap.specs.Words.{Row, Text, HasKind, first_of, one_of, fault_of, kind_of, subcommand_of}
use Rattle.clap.specs.declared.error.Error.{Error}
use Rattle.rapid_words.specs.Grammar.{grammar}
use Rattle.rapid_words.specs.Refused.{IsFault, IsNumber}
use Rattle.rapid_commands.specs.NodeWords.{HasOptions, CannotBe, IsNoNode, AreRefusedForNode}

-- ---- options that are missing

-- What holds anyway holds if there is none.
pub so_none : {T : Type 0} {P : Type 0} (o : Option T) → P → IfNone o P
so_none None p = p
so_none (Some x) p = tt

pub no_listen : (rows : List Row) → first_of (codes "listen") rows ≡ None → ¬ HasOptions rows
no_listen rows none has = let no : false ≡ true = subst IsSome none has.listen in cc

pub no_k : (rows : List Row) → ¬ IsNumber 8 (one_of (codes "k") rows) → ¬ HasOptions rows
no_k rows lacks has = lacks has.k

pub no_h : (rows : List Row) → ¬ IsNumber 8 (one_of (codes "h") rows) → ¬ HasOptions rows
no_h rows lacks has = lacks has.h

pub no_l : (rows : List Row) → ¬ IsNumber 8 (one_of (codes "l") rows) → ¬ HasOptions rows
no_l rows lacks has = lacks has.l

pub no_tick_ms : (rows : List Row) → ¬ IsNumber 16 (one_of (codes "tick-ms") rows) → ¬ HasOptions rows
no_tick_ms rows lacks has = lacks has.tick_ms

pub no_probers : (rows : List Row) → ¬ IsNumber 8 (one_of (codes "probers") rows) → ¬ HasOptions rows
no_probers rows lacks has = lacks has.probers

-- ---- the command

-- The command `node` was found, with these options.
pub node_found : {X : Type 0} (o : Option X) (f : X → Text) (g : X → List Row) (rows : List Row) → option_map f o ≡ Some (codes "node")
    → option_map {T = Text × List Row} {U = List Row} (λ p. p.1) (option_map {T = X} {U = Text × List Row} (λ b. (f b, g b)) o) ≡ Some rows
    → option_map {T = X} {U = Text × List Row} (λ b. (f b, g b)) o ≡ Some (codes "node", rows)
node_found None f g rows named with_rows = cc
node_found (Some b) f g rows named with_rows = let same : f b ≡ codes "node" = cc in let these : g b ≡ rows = cc in ap (λ n. Some (n, g b)) same ∙ ap (λ x. Some (codes "node", x)) these

-- Another command was found, or none.
pub node_missed : {X : Type 0} (o : Option X) (f : X → Text) (g : X → List Row) → ¬ (option_map f o ≡ Some (codes "node")) → IsNoNode (option_map {T = X} {U = Text × List Row} (λ b. (f b, g b)) o)
node_missed None f g other = tt
node_missed (Some b) f g other = inl (λ is. other (ap Some is))

-- ---- the words

-- Words whose fault was answered are refused.
pub refused_by : (e : Error) (words : List Text) → HasKind (fault_of grammar words) e → IsFault (kind_of e) → AreRefusedForNode words
refused_by e words (inl memory) fault = absurd (subst IsFault memory fault)
refused_by e words (inr among) fault = inl (kind_of e, fault, among)

-- Words by which no node was found are refused.
pub refused_as_none : {found : Option (Text × List Row)} (words : List Text) → found ≡ subcommand_of grammar words → IsNoNode found → AreRefusedForNode words
refused_as_none words is none = inr (subst IsNoNode is none)

-- So are those of a node that cannot be.
pub refused_as_unfit : {found : Option (Text × List Row)} (words : List Text) (rows : List Row) → found ≡ subcommand_of grammar words → found ≡ Some (codes "node", rows) → CannotBe rows → AreRefusedForNode words
refused_as_unfit words rows is node unfit = inr (subst IsNoNode (sym node ∙ is) (inr unfit))
