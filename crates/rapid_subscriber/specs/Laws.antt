-- Clauses of public calls cite this file.
-- What the lists of changes are.
use Rattle.std.specs.Prelude.{◌≡◌, ◌&&◌, not}
use Rattle.rapid_model.specs.Process.{Process, is_in}
use Rattle.rapid_model.specs.Configuration.{Configuration, is_member}
use Rattle.rapid_subscriber.specs.Changing.{members_outside}

-- The lists are the two differences of sets: a process is in one exactly if it is a member of the one configuration and
-- not of the other.
abbrev pub ChangesAreDifferences : Type 0
ChangesAreDifferences = (c d : Configuration) (p : Process) → is_in (members_outside c d) p ≡ (is_member c p && not (is_member d p))
