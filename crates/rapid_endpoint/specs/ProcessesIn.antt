-- Clauses of public calls cite this file.
-- Processes that stand one after another in bytes.
use Rattle.std.specs.Prelude.{ℕ, zero, suc, Bool, List, [], ◌∷◌, Result, Ok, Err}
use Rattle.std.specs.Ordering.{eq_by_cmp}
use Rattle.std.specs.Cmp.Lexicographic.{slice_cmp}
use Rattle.rapid_model.specs.Tags.{TagsFault}
use Rattle.rapid_model.specs.Process.{Process, process_cmp, process_at}

-- The list of a process that was read, and what follows it; none if none was.
abbrev pub from_first : Result (Process × List ℕ) TagsFault → (Process → List ℕ → List Process) → List Process
from_first (Ok x) f = f x.0 x.1
from_first (Err e) f = []

-- The processes in front of the bytes, up to n of them, and up to the first that cannot be read.
abbrev pub processes_in : ℕ → List ℕ → List Process
processes_in zero bytes = []
processes_in (suc n) bytes = from_first (process_at bytes) (λ p rest. p ∷ processes_in n rest)

-- Two lists of processes are the same.
abbrev pub same_processes : List Process → List Process → Bool
same_processes = eq_by_cmp (slice_cmp process_cmp)
