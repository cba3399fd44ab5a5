use Rattle.std.proofs.Common.{refl}
use Rattle.rapid_model.specs.Feed.{Left, Fault}
use Rattle.rapid_wire.proofs.Streams.{goes_on, fails_on}
use Rattle.rapid_wire.proofs.cutting_changes_nothing.Goals as goal

pub returns : goal.returns
returns c = λ bytes more ms. (λ rest ns end s t. goes_on bytes ms (Left rest) s more rest ns end refl t, λ f s. fails_on bytes ms (Fault f) s more f refl)
