-- What the words ask for, as it was found.
use Rattle.std.proofs.Common.{◌≡◌, ℕ, List, [], codes, sym, ap, subst, ◌∙◌, Option, Some, None, inl, inr}
use Rattle.std.specs.Prelude.{option_map}
use Rattle.clap.specs.Words.{Row, Text, HasKind, fault_of, kind_of, subcommand_of}
use Rattle.clap.specs.declared.error.Error.{Error}
use Rattle.rapid_words.specs.declared.words.Invocation.{Invocation}
use Rattle.rapid_words.specs.declared.words.Invocation.TheVariants.{Detect, Sim, Cluster}
use Rattle.rapid_words.specs.declared.words.Setting.{Setting}
use Rattle.rapid_words.specs.Grammar.{grammar}
use Rattle.rapid_words.specs.Asked.{invocation_named, invocation_found, number_in, setting_by, setting_in, IsHelp, AsksForHelp, IsInOrder, IsAsked}

-- A command that was found by its name has options.
pub found_named : {X : Type 0} (o : Option X) (f : X → Text) (g : X → List Row) (name : Text) → option_map f o ≡ Some name → (rows : List Row) × (option_map {T = X} {U = Text × List Row} (λ b. (f b, g b)) o ≡ Some (name, rows))
found_named None f g name h = cc
found_named (Some b) f g name h = let same : f b ≡ name = cc in (g b, ap (λ n. Some (n, g b)) same)

-- If the options are these, it is the command of its name and them.
pub found_invocation : {X : Type 0} (o : Option X) (f : X → Text) (g : X → List Row) (name : Text) (rows : List Row) → option_map f o ≡ Some name → option_map {T = Text × List Row} {U = List Row} (λ p. p.1) (option_map {T = X} {U = Text × List Row} (λ b. (f b, g b)) o) ≡ Some rows →
    invocation_found (option_map {T = X} {U = Text × List Row} (λ b. (f b, g b)) o) ≡ invocation_named name rows
found_invocation None f g name rows h k = cc
found_invocation (Some b) f g name rows h k = let same : f b ≡ name = cc in let these : g b ≡ rows = cc in ap (λ n. invocation_named n (g b)) same ∙ ap (invocation_named name) these

pub detect_found : {X : Type 0} (o : Option X) (f : X → Text) (g : X → List Row) → option_map f o ≡ Some (codes "detect") → invocation_found (option_map {T = X} {U = Text × List Row} (λ b. (f b, g b)) o) ≡ Some Detect
detect_found o f g h = let r = found_named o f g (codes "detect") h in ap invocation_found r.1

pub sim_found : {X : Type 0} (o : Option X) (f : X → Text) (g : X → List Row) → option_map f o ≡ Some (codes "sim") → invocation_found (option_map {T = X} {U = Text × List Row} (λ b. (f b, g b)) o) ≡ Some Sim
sim_found o f g h = let r = found_named o f g (codes "sim") h in ap invocation_found r.1

pub cluster_found : {X : Type 0} (o : Option X) (f : X → Text) (g : X → List Row) (rows : List Row) (s : Setting) → option_map f o ≡ Some (codes "cluster") →
    option_map {T = Text × List Row} {U = List Row} (λ p. p.1) (option_map {T = X} {U = Text × List Row} (λ b. (f b, g b)) o) ≡ Some rows → setting_in rows ≡ Some s → invocation_found (option_map {T = X} {U = Text × List Row} (λ b. (f b, g b)) o) ≡ Some (Cluster s)
cluster_found o f g rows s h k is = found_invocation o f g (codes "cluster") rows h k ∙ ap (option_map Cluster) is

-- Numbers that are all there are a setting.
pub setting_found : (rows : List Row) (k h l nodes workers turns : ℕ) → number_in rows (codes "k") ≡ Some k → number_in rows (codes "h") ≡ Some h → number_in rows (codes "l") ≡ Some l →
    number_in rows (codes "nodes") ≡ Some nodes → number_in rows (codes "workers") ≡ Some workers → number_in rows (codes "turns") ≡ Some turns →
    setting_in rows ≡ Some (record { params = record { k = k; h = h; l = l }; nodes = nodes; workers = workers; turns = turns })
setting_found rows k h l nodes workers turns a b c d e f =
    ap (λ x. setting_by x (number_in rows (codes "h")) (number_in rows (codes "l")) (number_in rows (codes "nodes")) (number_in rows (codes "workers")) (number_in rows (codes "turns"))) a
    ∙ ap (λ x. setting_by (Some k) x (number_in rows (codes "l")) (number_in rows (codes "nodes")) (number_in rows (codes "workers")) (number_in rows (codes "turns"))) b
    ∙ ap (λ x. setting_by (Some k) (Some h) x (number_in rows (codes "nodes")) (number_in rows (codes "workers")) (number_in rows (codes "turns"))) c
    ∙ ap (λ x. setting_by (Some k) (Some h) (Some l) x (number_in rows (codes "workers")) (number_in rows (codes "turns"))) d
    ∙ ap (λ x. setting_by (Some k) (Some h) (Some l) (Some nodes) x (number_in rows (codes "turns"))) e
    ∙ ap (λ x. setting_by (Some k) (Some h) (Some l) (Some nodes) (Some workers) x) f

-- An answer that is help was asked for.
pub asks : (e : Error) (words : List Text) → HasKind (fault_of grammar words) e → IsHelp (kind_of e) → AsksForHelp words
asks e words (inl memory) help = absurd (subst IsHelp memory help)
asks e words (inr among) help = (kind_of e, help, among)

-- What was found in words that are taken was asked for.
pub asked : {found : Option (Text × List Row)} {words : List Text} {invocation : Invocation} → fault_of grammar words ≡ [] → found ≡ subcommand_of grammar words → invocation_found found ≡ Some invocation → IsInOrder invocation → IsAsked words invocation
asked taken is named ordered = record { taken = taken; named = sym (ap invocation_found is) ∙ named; in_order = ordered }
