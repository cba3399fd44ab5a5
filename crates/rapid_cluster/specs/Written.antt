-- Clauses of public calls cite this file.
-- What was written of a report after a fault.
use Rattle.std.specs.Prelude.{◌≡◌, ℕ, List, [], Option}
use Rattle.std.specs.Io.KnownBytes.{Appends}
use Rattle.rapid_model.specs.Configuration.{Params}
use Rattle.rapid_text.specs.Underway.{AppendsFront}
use Rattle.rapid_text.specs.declared.fault.RunFault.{RunFault}
use Rattle.rapid_text.specs.declared.fault.RunFault.TheVariants.{Read, Write, OutOfMemory}
use Rattle.rapid_cluster.specs.ClusterText.{IsReport}

-- If the output could not be written, a beginning of a report was written; if out of memory, nothing. There is no
-- input.
abbrev pub Ended : Params → ℕ → ℕ → Option (List ℕ) → Option (List ℕ) → RunFault → Type 0
Ended params n most old new Read = ⊥
Ended params n most old new Write = (text : List ℕ) × IsReport params n most text × AppendsFront old new text
Ended params n most old new OutOfMemory = Appends old new []
