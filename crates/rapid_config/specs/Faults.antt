-- Clauses of public calls cite this file.
-- The errors of configurations and cuts, and the faults that they report.
use Rattle.std.specs.Prelude.{◌≡◌, ℕ, Option, Some, None, ◌⊎◌}
use Rattle.rapid_model.specs.Reading as fault
use Rattle.rapid_endpoint.specs.declared.read_error.ReadError.{ReadError}
use Rattle.rapid_endpoint.specs.declared.read_error.ReadError.TheVariants as read
use Rattle.rapid_config.specs.declared.error.ConfigError.{ConfigError}
use Rattle.rapid_config.specs.declared.error.ConfigError.TheVariants.{BadParams, Truncated, Trailing, BadMagic, NotSorted, EndpointTwice, TooMany, EmptyCut, HeightFull, BadTags, OutOfMemory}

-- The number of an error.
abbrev pub code_of : ConfigError → ℕ
code_of BadParams = 1
code_of Truncated = 2
code_of Trailing = 3
code_of BadMagic = 4
code_of NotSorted = 5
code_of EndpointTwice = 6
code_of TooMany = 7
code_of EmptyCut = 8
code_of HeightFull = 9
code_of BadTags = 10
code_of OutOfMemory = 99

-- The error of a configuration for one of a process that is read.
abbrev pub error_of_read : ReadError → ConfigError
error_of_read read.Truncated = Truncated
error_of_read read.BadTags = BadTags

-- The error reports exactly this fault. Out of memory may stand for what holds of `Unseen`: no fault, or one that is
-- looked for only once memory was asked for.
abbrev pub ReportsUnless : (Option fault.ConfigurationFault → Type 0) → Option fault.ConfigurationFault → ConfigError → Type 0
ReportsUnless Unseen f BadParams = f ≡ Some fault.BadParams
ReportsUnless Unseen f Truncated = f ≡ Some fault.Truncated
ReportsUnless Unseen f Trailing = f ≡ Some fault.Trailing
ReportsUnless Unseen f BadMagic = f ≡ Some fault.BadMagic
ReportsUnless Unseen f NotSorted = f ≡ Some fault.NotSorted
ReportsUnless Unseen f EndpointTwice = f ≡ Some fault.EndpointTwice
ReportsUnless Unseen f TooMany = f ≡ Some fault.TooMany
ReportsUnless Unseen f EmptyCut = f ≡ Some fault.EmptyCut
ReportsUnless Unseen f HeightFull = ⊥
ReportsUnless Unseen f BadTags = f ≡ Some fault.BadTags
ReportsUnless Unseen f OutOfMemory = Unseen f

-- Of a cut: all is looked at before memory is asked for.
abbrev pub Reports : Option fault.ConfigurationFault → ConfigError → Type 0
Reports f e = ReportsUnless (λ g. g ≡ None) f e

-- Of founders: their number and their order are looked at first, and their endpoints with memory.
abbrev pub ReportsOfFounders : Option fault.ConfigurationFault → ConfigError → Type 0
ReportsOfFounders f e = ReportsUnless (λ g. (g ≡ None) ⊎ (g ≡ Some fault.EndpointTwice)) f e

-- Of bytes: the head, and whether members can be read from all that follows, are looked at first. Then the members are
-- read into memory, and compared.
abbrev pub ReportsOfBytes : Option fault.ConfigurationFault → ConfigError → Type 0
ReportsOfBytes f e = ReportsUnless (λ g. (g ≡ None) ⊎ ((g ≡ Some fault.NotSorted) ⊎ (g ≡ Some fault.EndpointTwice))) f e
