-- Clauses of public calls cite this file.
-- The processes that are gone over.
use Rattle.std.specs.Prelude.{List}
use Rattle.rapid_model.specs.Process.{Process}
use Rattle.rapid_endpoint.specs.ProcessesIn.{processes_in}
use Rattle.rapid_endpoint.specs.declared.process_list.Processes.{Processes}

-- The processes that are left.
abbrev pub processes_left : Processes → List Process
processes_left s = processes_in s.left s.bytes.now
