-- Clauses of public calls cite this file.
-- Who joined and who left from one view to another.
use Rattle.std.specs.Prelude.{not, List, filter}
use Rattle.rapid_model.specs.Process.{Process}
use Rattle.rapid_model.specs.Configuration.{Configuration, is_member}

-- The members of a configuration that are not members of another, in their order.
abbrev pub members_outside : Configuration → Configuration → List Process
members_outside c d = filter (λ p. not (is_member d p)) c.members
