use Rattle.std.proofs.Common.{◌≡◌, ℕ, Option, Some, drop, subst}
use Rattle.std.specs.Prelude.{IfSome}
use Rattle.rapid_model.specs.Message.{Message}
use Rattle.rapid_model.specs.Feed.{IsFront, Whole}
use Rattle.rapid_wire.proofs.Alone.{its_message}
use Rattle.rapid_wire.proofs.single.read_frame.Goals as goal

pub returns-in-Ok-Some : goal.returns-in-Ok-Some
returns-in-Ok-Some c = λ m h.
    let bytes = c.args.frame.now in
    let some : c.in-Ok-Some.field-0 ≡ Some (c.in-Ok-Some.message, c.in-Ok-Some._length) = cc in
    its_message bytes m c.in-Ok-Some.message (drop c.in-Ok-Some._length bytes) h
    (subst (λ (o : Option (Message × ℕ)). IfSome o (λ x. IsFront bytes (Whole x.0 (drop x.1 bytes)))) some c.in-Ok-Some.ensures.whole)
