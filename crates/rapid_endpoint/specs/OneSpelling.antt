-- Clauses of public calls cite this file.
-- A process has one spelling.
use Rattle.std.specs.Prelude.{◌≡◌, ℕ, List, ◌++◌, Ok}
use Rattle.rapid_model.specs.Process.{Process, IsProcess, process_at}

-- What is spelt of a process is read, whatever follows.
abbrev pub SpeltProcessesAreRead : Type 0
SpeltProcessesAreRead = (p : Process) (rest : List ℕ) → IsProcess p → process_at (p ++ rest) ≡ Ok (p, rest)

-- No process begins another.
abbrev pub ProcessesTell : Type 0
ProcessesTell = (p q : Process) (x y : List ℕ) → IsProcess p → IsProcess q → p ++ x ≡ q ++ y → (p ≡ q) × (x ≡ y)
