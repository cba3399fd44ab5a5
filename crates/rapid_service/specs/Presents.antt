-- Clauses of public calls cite this file.
-- The present view of a service.
use Rattle.std.specs.Prelude.{◌≡◌, ℕ, Bool, List, [], Option, Some, None}
use Rattle.rapid_model.specs.Process.{Process}
use Rattle.rapid_model.specs.Ring.{subjects_of}
use Rattle.rapid_rounds.specs.Edges.{AllAnswered}
use Rattle.rapid_service.specs.declared.present.Present.{Present}

-- Whom a process observes in its present view, each with the ring; nobody before the first.
abbrev pub edges_in : Process → Option Present → List (ℕ × Process)
edges_in me None = []
edges_in me (Some present) = subjects_of present.view me

-- Whether each of these edges is down is what the watcher of the present view answers: yes exactly if it knows so
-- afterwards. Before the first view there is none.
abbrev pub ShowsDown : Option Present → Option Present → List Bool → Type 0
ShowsDown None new downs = downs ≡ []
ShowsDown (Some old) None downs = ⊥
ShowsDown (Some old) (Some new) downs = AllAnswered old.watch.board new.watch.board downs

-- The watcher of the present view knows what it knew.
abbrev pub SameBoards : Option Present → Option Present → Type 0
SameBoards None new = new ≡ None
SameBoards (Some old) None = ⊥
SameBoards (Some old) (Some new) = new.watch.board ≡ old.watch.board
