-- Clauses of public calls cite this file.
-- The errors of tables, and the faults that they report.
use Rattle.std.specs.Prelude.{◌≡◌, ℕ, Option, Some, None}
use Rattle.rapid_model.specs.Table as model
use Rattle.rapid_rings.specs.declared.table_error.TableError.{TableError}
use Rattle.rapid_rings.specs.declared.table_error.TableError.TheVariants.{EdgeTwice, RingRange, TooMany, OutOfMemory}

-- The number of an error.
abbrev pub code_of : TableError → ℕ
code_of EdgeTwice = 1
code_of RingRange = 2
code_of TooMany = 3
code_of OutOfMemory = 99

-- The error reports exactly this fault; out of memory is reported only if there is none.
abbrev pub Reports : Option model.TableFault → TableError → Type 0
Reports f EdgeTwice = f ≡ Some model.EdgeTwice
Reports f RingRange = f ≡ Some model.RingRange
Reports f TooMany = f ≡ Some model.TooMany
Reports f OutOfMemory = f ≡ None

-- The error, if there is one, reports exactly this fault.
abbrev pub ReportsIfAny : Option model.TableFault → Option TableError → Type 0
ReportsIfAny f None = f ≡ None
ReportsIfAny f (Some e) = Reports f e
