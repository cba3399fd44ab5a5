-- Notices by ballot and cut, each with the positions that gave it.
use Rattle.std.specs.Prelude.{◌≡◌, List, [], ◌∷◌, ◌++◌, map, T, unwrap_or}
use Rattle.std.specs.declared.cmp.Ordering.{Ordering}
use Rattle.std.specs.Ordering.{ordering_then, nat_cmp}
use Rattle.std.specs.FinSet as set
use Rattle.std.specs.FinMap.Entries.{find, is_sorted}
use Rattle.rapid_model.specs.Cut.{Cut, cut_cmp}
use Rattle.rapid_model.specs.Ballot.{Ballot, ballot_cmp}
use Rattle.rapid_model.specs.Learner.{Notice, notice_cmp, notice_count}

-- The positions that gave notice of a cut at a ballot.
abbrev pub Entries : Type 0
Entries = List ((Ballot × Cut) × set.FinSet nat_cmp)

-- Entries are ordered by ballot, then by cut.
abbrev pub key_cmp : Ballot × Cut → Ballot × Cut → Ordering
key_cmp a b = ordering_then (ballot_cmp a.0 b.0) (cut_cmp a.1 b.1)

-- All notices of the entries.
abbrev pub all_notices : Entries → List Notice
all_notices [] = []
all_notices (e ∷ es) = map (λ p. (e.0, p)) (set.items e.1) ++ all_notices es

-- The set of these notices.
unfoldable pub notices_of : Entries → set.FinSet notice_cmp
notices_of es = set.from_list (all_notices es)

-- Who gave notice of a cut at a ballot.
abbrev pub positions_at : Entries → Ballot × Cut → set.FinSet nat_cmp
positions_at es k = unwrap_or (find key_cmp k es) set.empty

-- The entries ascend, and each has as many positions as there are notices.
pub record AreEntries (es : Entries) : Type 0 where
  pub sorted : T (is_sorted key_cmp es)
  pub counted : (b : Ballot) (v : Cut) → notice_count (notices_of es) b v ≡ set.len (positions_at es (b, v))
