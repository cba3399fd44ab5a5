-- Clauses of public calls cite this file.
-- Where processes that stand one after another end.
use Rattle.std.specs.Prelude.{◌≡◌, ℕ, ◌≤◌, List, [], length, drop, Result, Ok, Err}
use Rattle.rapid_model.specs.Process.{Process}
use Rattle.rapid_model.specs.Reading.{ProcessesRead}
use Rattle.rapid_endpoint.specs.declared.read_error.ReadError.{ReadError}
use Rattle.rapid_endpoint.specs.ReadErrors.{fault_of}

-- They were read, and end at this place of the bytes; or what was met first.
abbrev pub EndsAt : List ℕ → Result ℕ ReadError → ProcessesRead → Type 0
EndsAt bytes (Ok end) read = (end ≤ length bytes) × (ps : List Process) × (read ≡ Ok (ps, drop end bytes))
EndsAt bytes (Err e) read = read ≡ Err (fault_of e)

-- They were read, and nothing follows.
abbrev pub AreAll : ProcessesRead → Type 0
AreAll read = (ps : List Process) × (read ≡ Ok (ps, []))
