-- Clauses of public calls cite this file.
-- A process without tags that is spelt twice.
use Rattle.std.specs.Prelude.{◌≡◌, ◌≤◌, ℕ, List, length, drop, Ok}
use Rattle.rapid_model.specs.Process.{Process, process_at}

-- The same process is in front of both, and takes 23 bytes of each.
pub record IsInBoth (bytes other : List ℕ) : Type 0 where
  pub process : Process
  pub first : process_at bytes ≡ Ok (process, drop 23 bytes)
  pub second : process_at other ≡ Ok (process, drop 23 other)
  pub within : 23 ≤ length bytes
