-- The views that nodes share.
use Rattle.std.specs.Prelude.{◌≡◌, Option, Some, None}
use Rattle.rapid_model.specs.Cut.{Cut}
use Rattle.rapid_model.specs.Configuration.{Configuration}
use Rattle.rapid_model.specs.Apply.{apply}

-- The cut, if there is one, makes this configuration of the one before.
abbrev pub LeadsTo : Option (Configuration × Cut) → Configuration → Type 0
LeadsTo None next = Unit {0}
LeadsTo (Some x) next = next ≡ apply x.0 x.1
