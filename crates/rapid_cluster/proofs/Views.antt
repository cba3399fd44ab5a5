-- The lines of nodes, by their phases.
use Rattle.std.proofs.Common.{◌≡◌, ℕ, List, [], ◌∷◌, ◌++◌, codes, decimal, refl, sym, ap, ◌∙◌, Option, Some, None}
use Rattle.rapid_model.specs.Configuration.{Configuration}
use Rattle.rapid_model.specs.Lines.{line_feed}
use Rattle.rapid_model.specs.Node.{Phase, Joining, Member, Removed, Halted, shown_in}
use Rattle.rapid_model.specs.SimText.{node_text, numbers_text}
use Rattle.rapid_node.specs.Phases.{name_of}
use Rattle.rapid_node.specs.declared.phase.Phase as phase
use Rattle.rapid_cluster.specs.ClusterText.{phase_line}

-- The line of a member is its view.
pub member_line : (id : List ℕ) (p : Phase) (c : Configuration) → name_of p ≡ phase.TheVariants.Member → shown_in p ≡ Some c →
    node_text id ++ codes " height " ++ decimal c.height ++ codes " members" ++ numbers_text c.members ++ line_feed ∷ [] ≡ phase_line id p
member_line id (Joining j) c is shown = cc
member_line id (Member s) c is shown = let same : s.config ≡ c = cc in rw same refl
member_line id (Removed r) c is shown = cc
member_line id (Halted h) c is shown = cc

-- The line of a member is some view.
pub member_shows : (p : Phase) → name_of p ≡ phase.TheVariants.Member → shown_in p ≡ None → ⊥
member_shows (Joining j) is shown = cc
member_shows (Member s) is shown = cc
member_shows (Removed r) is shown = cc
member_shows (Halted h) is shown = cc

pub joining_line : (id : List ℕ) (p : Phase) → name_of p ≡ phase.TheVariants.Joining → node_text id ++ codes " joining" ++ line_feed ∷ [] ≡ phase_line id p
joining_line id (Joining j) is = refl
joining_line id (Member s) is = cc
joining_line id (Removed r) is = cc
joining_line id (Halted h) is = cc

pub removed_line : (id : List ℕ) (p : Phase) → name_of p ≡ phase.TheVariants.Removed → phase_line id p ≡ []
removed_line id (Joining j) is = cc
removed_line id (Member s) is = cc
removed_line id (Removed r) is = refl
removed_line id (Halted h) is = cc

pub halted_line : (id : List ℕ) (p : Phase) → name_of p ≡ phase.TheVariants.Halted → phase_line id p ≡ []
halted_line id (Joining j) is = cc
halted_line id (Member s) is = cc
halted_line id (Removed r) is = cc
halted_line id (Halted h) is = refl
