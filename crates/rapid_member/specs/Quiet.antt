-- Clauses of public calls cite this file.
-- Work that sends nothing.
use Rattle.std.specs.Prelude.{◌≡◌, [], None}
use Rattle.rapid_model.specs.Member.{Work}

-- The work sends nothing and decides nothing.
pub record SaysNothing (w : Work) : Type 0 where
  pub effects : w.effects ≡ []
  pub decided : w.decided ≡ None
