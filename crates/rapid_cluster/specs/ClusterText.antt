-- Clauses of public calls cite this file.
-- What `cluster` prints: the state of its world at the end.
use Rattle.std.specs.Prelude.{◌≡◌, ℕ, Bool, not, ◌&&◌, ◌==◌, List, [], ◌∷◌, ◌++◌, flat_map, codes, decimal, if◌then◌else◌, Option, Some, None}
use Rattle.std.specs.List.{list_any, range_with_len}
use Rattle.rapid_model.specs.Bytes.{Identifier, Text}
use Rattle.rapid_model.specs.Process.{identifier, same_bytes}
use Rattle.rapid_model.specs.Configuration.{Params, Stamp}
use Rattle.rapid_model.specs.Node.{Node, Phase, Joining, Member, Removed, Halted}
use Rattle.rapid_model.specs.World.{World, node_of}
use Rattle.rapid_model.specs.StoredWorld.{StoredWorld, world_of, accepted}
use Rattle.rapid_model.specs.Agreement.{NoCollision}
use Rattle.rapid_model.specs.RunHolds.{RunHolds}
use Rattle.rapid_model.specs.Lines.{line_feed}
use Rattle.rapid_model.specs.Numbered.{numbered_identifier}
use Rattle.rapid_model.specs.SimText.{node_text, numbers_text}
use Rattle.rapid_clerks.specs.Clusters.{ClusterState}
use Rattle.rapid_cluster.specs.Driven.{IsDriven}

-- ---- views

-- The line of a node in this phase: of a member its view, of a joiner that it has none; the others have no line.
abbrev pub phase_line : Identifier → Phase → Text
phase_line id (Joining j) = node_text id ++ codes " joining" ++ line_feed ∷ []
phase_line id (Member s) =
    node_text id ++ codes " height " ++ decimal s.config.height ++ codes " members" ++ numbers_text s.config.members ++ line_feed ∷ []
phase_line id (Removed c) = []
phase_line id (Halted shown) = []

-- The line of a node, if there is one.
abbrev pub node_line : Option Node → Text
node_line None = []
node_line (Some n) = phase_line (identifier n.me) n.phase

-- The node of a number.
abbrev pub node_numbered : World → ℕ → Option Node
node_numbered w k = node_of w (numbered_identifier k)

-- The lines of the nodes 1 to n.
abbrev pub nodes_text : World → ℕ → Text
nodes_text w n = flat_map (λ k. node_line (node_numbered w k)) (range_with_len 1 n)

-- ---- agreement

-- What a node installed, if there is one.
abbrev pub installed_by : Option Node → List Stamp
installed_by None = []
installed_by (Some n) = n.installed

-- All that the nodes 1 to n installed.
abbrev pub all_installed : World → ℕ → List Stamp
all_installed w n = flat_map (λ k. installed_by (node_numbered w k)) (range_with_len 1 n)

-- Two stamps have one height and different identifiers.
abbrev pub differ : Stamp → Stamp → Bool
differ a b = (a.height == b.height) && not (same_bytes a.id b.id)

-- Some two of these stamps have one height and different identifiers.
abbrev pub is_split : List Stamp → Bool
is_split stamps = list_any (λ a. list_any (differ a) stamps) stamps

-- Whether nodes agree.
abbrev pub agree_line : Bool → Text
agree_line split = (if split then codes "agree no" else codes "agree yes") ++ line_feed ∷ []

-- ---- the whole

-- What is printed of a world with the nodes 1 to n.
unfoldable pub cluster_text : ℕ → StoredWorld → Text
cluster_text n s =
    codes "events " ++ decimal (accepted s) ++ line_feed ∷ []
    ++ nodes_text (world_of s) n
    ++ agree_line (is_split (all_installed (world_of s) n))

-- The text is what is printed of a cluster of the nodes 1 to n, at its end. Process 1 founded it with these parameters,
-- and the others were started in order and asked process 1 to let them in. Then turns alone were taken, at most this
-- many. Its world is the run of the events of these. If no two different configurations that nodes installed share an
-- identifier, all that holds of runs holds of it.
pub record IsReport (params : Params) (n most : ℕ) (text : Text) : Type 0 where
  pub end : ClusterState
  pub driven : IsDriven params n most end
  pub printed : text ≡ cluster_text n end.world
  pub holds : NoCollision (world_of end.world) → RunHolds (world_of end.world)
