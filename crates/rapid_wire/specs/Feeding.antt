-- Clauses of public calls cite this file.
-- What a feed does with a stream.
use Rattle.std.specs.Prelude.{◌≡◌, ℕ, List, ◌++◌, Option, Some, None, Result, Ok, Err}
use Rattle.rapid_model.specs.Message.{Message}
use Rattle.rapid_model.specs.Feed as model
use Rattle.rapid_model.specs.Feed.{StreamEnd, Left, Fault, IsFront, Whole, Faulty, BeginsWith, IsIncomplete}
use Rattle.rapid_wire.specs.Faults.{HasKind}
use Rattle.rapid_wire.specs.declared.fault.WireFault.{WireFault}
use Rattle.rapid_wire.specs.declared.fault.WireFault.TheVariants.{TooLong, BadVersion, BadKind, BadBody, OutOfMemory}

-- The fault is one of the stream, which lasts.
abbrev pub IsLasting : Option WireFault → Type 0
IsLasting None = Unit {0}
IsLasting (Some TooLong) = Unit {0}
IsLasting (Some BadVersion) = Unit {0}
IsLasting (Some BadKind) = Unit {0}
IsLasting (Some BadBody) = Unit {0}
IsLasting (Some OutOfMemory) = ⊥

-- The fault, if it is one of the stream.
abbrev pub lasting_of : WireFault → Option WireFault
lasting_of TooLong = Some TooLong
lasting_of BadVersion = Some BadVersion
lasting_of BadKind = Some BadKind
lasting_of BadBody = Some BadBody
lasting_of OutOfMemory = None

-- What stands at the end: the bytes that are held, unless there was a fault.
abbrev pub end_of : List ℕ → Option WireFault → StreamEnd
end_of bytes None = Left bytes
end_of bytes (Some TooLong) = Fault model.TooLong
end_of bytes (Some BadVersion) = Fault model.BadVersion
end_of bytes (Some BadKind) = Fault model.BadKind
end_of bytes (Some BadBody) = Fault model.BadBody
end_of bytes (Some OutOfMemory) = Left bytes

-- The end after further bytes.
abbrev pub fed : StreamEnd → List ℕ → StreamEnd
fed (Left bytes) piece = Left (bytes ++ piece)
fed (Fault f) piece = Fault f

-- A whole frame that has a kind stands in front of the bytes.
abbrev pub BeginsWithKind : List ℕ → Type 0
BeginsWithKind bytes = (whole : List ℕ) × (rest : List ℕ) × BeginsWith bytes whole rest × HasKind whole

-- The fault stands in front of the bytes. Memory can run out only if a whole frame that has a kind does.
abbrev pub IsFrontFault : List ℕ → WireFault → Type 0
IsFrontFault bytes TooLong = IsFront bytes (Faulty model.TooLong)
IsFrontFault bytes BadVersion = IsFront bytes (Faulty model.BadVersion)
IsFrontFault bytes BadKind = IsFront bytes (Faulty model.BadKind)
IsFrontFault bytes BadBody = IsFront bytes (Faulty model.BadBody)
IsFrontFault bytes OutOfMemory = BeginsWithKind bytes

-- The fault that is answered is that of the stream.
abbrev pub Reports : model.WireFault → WireFault → Type 0
Reports f TooLong = f ≡ model.TooLong
Reports f BadVersion = f ≡ model.BadVersion
Reports f BadKind = f ≡ model.BadKind
Reports f BadBody = f ≡ model.BadBody
Reports f OutOfMemory = ⊥

-- What is answered of the bytes that are held, and what is held then.
abbrev pub IsNextOf : List ℕ → StreamEnd → Result (Option Message) WireFault → Type 0
IsNextOf bytes new (Ok (Some m)) = (rest : List ℕ) × IsFront bytes (Whole m rest) × (new ≡ Left rest)
IsNextOf bytes new (Ok None) = IsIncomplete bytes × (new ≡ Left bytes)
IsNextOf bytes new (Err TooLong) = IsFront bytes (Faulty model.TooLong) × (new ≡ Fault model.TooLong)
IsNextOf bytes new (Err BadVersion) = IsFront bytes (Faulty model.BadVersion) × (new ≡ Fault model.BadVersion)
IsNextOf bytes new (Err BadKind) = IsFront bytes (Faulty model.BadKind) × (new ≡ Fault model.BadKind)
IsNextOf bytes new (Err BadBody) = IsFront bytes (Faulty model.BadBody) × (new ≡ Fault model.BadBody)
IsNextOf bytes new (Err OutOfMemory) = BeginsWithKind bytes × (new ≡ Left bytes)

-- What is answered after a fault: that fault, for good.
abbrev pub IsSame : model.WireFault → StreamEnd → Result (Option Message) WireFault → Type 0
IsSame f new (Ok o) = ⊥
IsSame f new (Err e) = Reports f e × (new ≡ Fault f)

-- What a feed answers, and what it holds then.
abbrev pub IsNext : StreamEnd → StreamEnd → Result (Option Message) WireFault → Type 0
IsNext (Left bytes) new answer = IsNextOf bytes new answer
IsNext (Fault f) new answer = IsSame f new answer
