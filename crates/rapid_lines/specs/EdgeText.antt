-- Clauses of public calls cite this file.
-- What `node` prints of edges.
use Rattle.std.specs.Prelude.{Bool, List, [], ◌∷◌, ◌++◌, flat_map, codes, decimal, if◌then◌else◌}
use Rattle.rapid_model.specs.Bytes.{Text}
use Rattle.rapid_model.specs.Lines.{line_feed, space}
use Rattle.rapid_rounds.specs.declared.edge_state.EdgeState.{EdgeState}
use Rattle.rapid_lines.specs.ViewText.{member_text}

-- Whether an edge is down, with the end of its line.
abbrev pub state_text : Bool → Text
state_text is_down = if is_down then codes " down" ++ line_feed ∷ [] else codes " up" ++ line_feed ∷ []

-- The line of an edge: its ring, the member that is observed on it, and whether it is down.
abbrev pub edge_text : EdgeState → Text
edge_text e = codes "edge " ++ decimal e.ring ++ space ∷ member_text e.member ++ state_text e.is_down

-- The lines of edges.
abbrev pub all_edges_text : List EdgeState → Text
all_edges_text edges = flat_map edge_text edges

-- What is printed of edges.
abbrev pub edges_text : List EdgeState → Text
edges_text [] = codes "edges none" ++ line_feed ∷ []
edges_text (e ∷ edges) = all_edges_text (e ∷ edges)
