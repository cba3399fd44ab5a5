-- Clauses of public calls cite this file.
-- The faults of the code as the definitions see them.
use Rattle.std.specs.Prelude.{◌≡◌, ℕ, List, ◌∷◌, Option, Some, None, Result, Ok, Err}
use Rattle.rapid_model.specs.Frame.{version}
use Rattle.rapid_model.specs.Feed as model
use Rattle.rapid_wire.specs.declared.fault.WireFault.{WireFault}
use Rattle.rapid_wire.specs.declared.fault.WireFault.TheVariants.{TooLong, BadVersion, BadKind, BadBody, OutOfMemory}

-- The number of a fault.
abbrev pub code_of : WireFault → ℕ
code_of TooLong = 1
code_of BadVersion = 2
code_of BadKind = 3
code_of BadBody = 4
code_of OutOfMemory = 99

-- A part that cannot be read makes the body a bad one; out of memory says nothing of it.
abbrev pub Fails : {Y : Type 0} → WireFault → Option Y → Type 0
Fails TooLong read = ⊥
Fails BadVersion read = ⊥
Fails BadKind read = ⊥
Fails BadBody read = read ≡ None
Fails OutOfMemory read = Unit {0}

-- What a function returned, seen by view, is what reading gives, unless memory ran out.
abbrev pub Gives : {X Y : Type 0} → (X → Y) → Result X WireFault → Option Y → Type 0
Gives view (Ok x) read = read ≡ Some (view x)
Gives view (Err e) read = Fails e read

-- The frame, after its length, begins with the version and the number of a kind.
abbrev pub HasKind : List ℕ → Type 0
HasKind whole = (kind : ℕ) × (body : List ℕ) × model.IsKind kind × (whole ≡ version ∷ kind ∷ body)

-- The fault of a whole frame after its length. Memory can run out only if it has a kind.
abbrev pub IsFaultOf : List ℕ → WireFault → Type 0
IsFaultOf whole TooLong = ⊥
IsFaultOf whole BadVersion = model.HasFault whole model.BadVersion
IsFaultOf whole BadKind = model.HasFault whole model.BadKind
IsFaultOf whole BadBody = model.HasFault whole model.BadBody
IsFaultOf whole OutOfMemory = HasKind whole
