-- Who leads, by whether he is the first.
use Rattle.std.proofs.Common.{◌≡◌, Bool, true, sym, ap, ◌∙◌, Option, Some}
use Rattle.rapid_model.specs.Process.{Process, same_bytes}
use Rattle.rapid_model.proofs.Orders.{same_bytes_decides}

pub leads_is : (o : Option Process) (p q : Process) (b : Bool) → o ≡ Some p → b ≡ same_bytes p q → (b ≡ true → o ≡ Some q) × (o ≡ Some q → b ≡ true)
leads_is o p q b is e = (
  (λ t. is ∙ ap Some ((same_bytes_decides p q).0 (sym e ∙ t))),
  (λ h. let k : p ≡ q = cc in e ∙ (same_bytes_decides p q).1 k),
)
