-- Clauses of public calls cite this file.
-- The probes of a member: whom it observes, and who has acknowledged since the last round.
use Rattle.std.specs.Prelude.{ℕ, ◌%◌, ◌==◌, Bool, false, not, ◌||◌, ◌&&◌, List, [], ◌∷◌, ◌++◌, map, filter, if◌then◌else◌, Option, Some, None}
use Rattle.rapid_model.specs.Process.{Process, same_bytes, is_in}
use Rattle.rapid_monitor.specs.BoardRule.{is_down_after}
use Rattle.rapid_monitor.specs.Boards.{Owned}
use Rattle.rapid_monitor.specs.declared.probe_book.Watched.{Watched}
use Rattle.rapid_monitor.specs.declared.probe_book.Probing.{Probing}

-- The edges of a book, and whether a round was made.
pub record BookValue : Type 0 where
  pub edges : List Watched
  pub begun : Bool

-- An observed edge, if these processes have acknowledged since the last round.
abbrev pub watched_when : List Process → ℕ × Process → Watched
watched_when acks x = record { ring = x.0; subject = x.1; answered = is_in acks x.1 }

-- The book of a process that observes these members by ring. The others say whether a round was made, and who has
-- acknowledged since the last one.
abbrev pub book_when : List (ℕ × Process) → Bool → List Process → BookValue
book_when subjects begun acks = record { edges = map (watched_when acks) subjects; begun = begun }

-- Those of these members by ring whose ring, divided by the number of parts, leaves this one.
abbrev pub part_of : ℕ → ℕ → List (ℕ × Process) → List (ℕ × Process)
part_of part parts subjects = filter (λ x. x.0 % parts == part) subjects

-- What a round says of an observed edge: whether its subject is among those who have acknowledged since the last round,
-- if there was one.
abbrev pub probing_when : Bool → List Process → ℕ × Process → Probing
probing_when begun acks x = record { ring = x.0; subject = x.1; answered = if begun then Some (is_in acks x.1) else None }

-- What a round answers: each observed edge, by ring.
abbrev pub round_when : List (ℕ × Process) → Bool → List Process → List Probing
round_when subjects begun acks = map (probing_when begun acks) subjects

-- An edge after a process acknowledged.
abbrev pub heard : Process → Watched → Watched
heard p e = record { ring = e.ring; subject = e.subject; answered = same_bytes e.subject p || e.answered }

-- An edge of which nothing was heard since.
abbrev pub unheard : Watched → Watched
unheard e = record { ring = e.ring; subject = e.subject; answered = false }

-- What a round says of an edge.
abbrev pub asked : Bool → Watched → Probing
asked begun e = record { ring = e.ring; subject = e.subject; answered = if begun then Some e.answered else None }

-- The seat of an edge after a round: it has taken whether the last probe was acknowledged, if there was one.
abbrev pub judged : Owned → Option Bool → Owned
judged s None = s
judged s (Some ok) = record { board = s.board; edge = s.edge; results = s.results ++ ok ∷ [] }

-- The seats of the edges of a book after a round that answered this.
abbrev pub all_judged : List Owned → List Probing → List Owned
all_judged [] probings = []
all_judged (s ∷ seats) [] = s ∷ seats
all_judged (s ∷ seats) (p ∷ probings) = judged s p.answered ∷ all_judged seats probings

-- The edge of a seat goes down by an answer: with it the edge is down, and without it was not.
abbrev pub goes_down : Owned → Option Bool → Bool
goes_down s None = false
goes_down s (Some ok) = is_down_after (s.results ++ ok ∷ []) && not (is_down_after s.results)

-- A sink, by what it is and what a probe and an edge that goes down make of it, after it was told of one edge of a
-- round: that it goes down, if it does, and then to probe its subject.
abbrev pub told_of : {X : Type 0} → (X → ℕ → Process → X) → (X → ℕ → Process → X) → X → Owned → Probing → X
told_of probed went_down x s p = probed (if goes_down s p.answered then went_down x p.ring p.subject else x) p.ring p.subject

-- The same after it was told of all edges of a round, in order.
abbrev pub all_told : {X : Type 0} → (X → ℕ → Process → X) → (X → ℕ → Process → X) → X → List Owned → List Probing → X
all_told probed went_down x [] probings = x
all_told probed went_down x (s ∷ seats) [] = x
all_told probed went_down x (s ∷ seats) (p ∷ probings) = all_told probed went_down (told_of probed went_down x s p) seats probings
