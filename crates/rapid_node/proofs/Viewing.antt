-- Configurations whose parts are the same.
use Rattle.std.proofs.Common.{◌≡◌}
use Rattle.rapid_model.specs.Configuration.{Params, Configuration}

pub same_params : (a b : Params) → a.k ≡ b.k → a.h ≡ b.h → a.l ≡ b.l → a ≡ b
same_params a b k h l = λ i. record { k = k i; h = h i; l = l i }

pub same_configuration : (a b : Configuration) → a.params ≡ b.params → a.height ≡ b.height → a.previous ≡ b.previous → a.members ≡ b.members → a ≡ b
same_configuration a b p h q m = λ i. record { params = p i; height = h i; previous = q i; members = m i }
