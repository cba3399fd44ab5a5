-- When two stamps are one.
use Rattle.std.proofs.Common.{◌≡◌, ◌≢◌, ◌∙◌, Bool, true, false, refl, sym, ap, subst}
use Rattle.std.specs.Prelude.{MatchBool}
use Rattle.std.proofs.lemmas.Bool.{false≢true}
use Rattle.rapid_model.specs.Process.{same_bytes}
use Rattle.rapid_model.specs.Configuration.{Stamp}
use Rattle.rapid_model.proofs.Orders.{same_bytes_decides}

by : (s t : Stamp) → s.height ≡ t.height → s.members ≡ t.members → (b : Bool) → same_bytes s.id t.id ≡ b → MatchBool b (s ≡ t) (s ≢ t)
by s t height members true e =
    let id = (same_bytes_decides s.id t.id).0 e in
    λ i. record { height = height i; id = id i; members = members i }
by s t height members false e = λ same. false≢true (sym e ∙ (same_bytes_decides s.id t.id).1 (ap (λ (x : Stamp). x.id) same))

pub same_stamps : (s t : Stamp) → s.height ≡ t.height → s.members ≡ t.members → MatchBool (same_bytes s.id t.id) (s ≡ t) (s ≢ t)
same_stamps s t height members = by s t height members (same_bytes s.id t.id) refl

-- What a test that failed says.
pub not_same : (b : Bool) (s t : Stamp) → b ≡ false → MatchBool b (s ≡ t) (s ≢ t) → s ≢ t
not_same b s t is tested = subst (λ (x : Bool). MatchBool x (s ≡ t) (s ≢ t)) is tested
