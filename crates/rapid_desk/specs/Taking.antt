-- Clauses of public calls cite this file.
-- What an answer says of what was taken before and is taken now.
use Rattle.std.specs.Prelude.{◌≡◌, ◌⊎◌, List, [], ◌∷◌, ◌++◌}
use Rattle.rapid_desk.specs.declared.notice.Loss.{Loss}
use Rattle.rapid_desk.specs.declared.notice.Notice.{Notice}
use Rattle.rapid_desk.specs.declared.notice.Notice.TheVariants as put
use Rattle.rapid_desk.specs.declared.notice.State.TheVariants as is
use Rattle.rapid_desk.specs.declared.subscription.Taken.{Taken}
use Rattle.rapid_desk.specs.declared.subscription.Taken.TheVariants.{Change, Lagged, Empty, Closed}
use Rattle.rapid_desk.specs.Notices.{state_of, IsNext}

abbrev pub Told : Taken → List Notice → List Notice → Type 0
Told (Change v) old new = (new ≡ old ++ put.Change v ∷ []) × IsNext old v.height × (state_of new ≡ is.Open)
Told Lagged old new = ((new ≡ old) ⊎ ((loss : Loss) × (new ≡ old ++ put.Lag loss ∷ []))) × (state_of new ≡ is.Lagged)
Told Empty old new = (new ≡ old) × (state_of new ≡ is.Open)
Told Closed old new = ((new ≡ old) ⊎ (new ≡ old ++ put.End ∷ [])) × (state_of new ≡ is.Closed)
