-- A frame alone is read as its message, and as nothing else.
use Rattle.std.proofs.Common.{◌≡◌, ℕ, List, [], refl, sym, ◌∙◌, append-nil}
use Rattle.rapid_model.specs.Message.{Message}
use Rattle.rapid_model.specs.Frame.{IsFrame, frame, payload}
use Rattle.rapid_model.specs.Feed as model
use Rattle.rapid_model.specs.Feed.{IsFront, Whole, IsIncomplete}
use Rattle.rapid_wire.specs.declared.fault.WireFault.{WireFault}
use Rattle.rapid_wire.specs.declared.fault.WireFault.TheVariants.{TooLong, BadVersion, BadKind, BadBody, OutOfMemory}
use Rattle.rapid_wire.specs.Feeding.{IsFrontFault}
use Rattle.rapid_wire.proofs.Frames.{message_fits, same_payload}
use Rattle.rapid_wire.proofs.Unique.{one_frame, no_fault_and_message}

-- it stands whole in front of itself, and nothing is behind it
alone : (bytes : List ℕ) (m : Message) → IsFrame bytes m → IsFront bytes (Whole m [])
alone bytes m h = (h.0, record { fits = message_fits m h.0; is = h.1 ∙ sym (append-nil (frame m)) })

-- what stands in front of it is its message
pub its_message : (bytes : List ℕ) (m n : Message) (rest : List ℕ) → IsFrame bytes m → IsFront bytes (Whole n rest) → n ≡ m
its_message bytes m n rest h k =
    let whole = one_frame bytes (payload n) (payload m) rest [] k.1 (alone bytes m h).1 in
    same_payload n m k.0 h.0 whole.0

-- it is not incomplete
pub never_none : (bytes : List ℕ) (m : Message) → IsFrame bytes m → IsIncomplete bytes → ⊥
never_none bytes m h k = k.no_frame (payload m) [] (alone bytes m h).1

-- and it has no fault
pub never_faulty : (bytes : List ℕ) (m : Message) (e : WireFault) → IsFrame bytes m → IsFrontFault bytes e → e ≡ OutOfMemory
never_faulty bytes m TooLong h k = absurd (no_fault_and_message bytes model.TooLong m [] k (alone bytes m h))
never_faulty bytes m BadVersion h k = absurd (no_fault_and_message bytes model.BadVersion m [] k (alone bytes m h))
never_faulty bytes m BadKind h k = absurd (no_fault_and_message bytes model.BadKind m [] k (alone bytes m h))
never_faulty bytes m BadBody h k = absurd (no_fault_and_message bytes model.BadBody m [] k (alone bytes m h))
never_faulty bytes m OutOfMemory h k = refl
