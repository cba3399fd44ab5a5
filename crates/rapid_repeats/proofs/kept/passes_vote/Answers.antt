use Rattle.std.proofs.Common.{refl, subst}
use Rattle.std.specs.Ordering.{nat_cmp}
use Rattle.std.proofs.lemmas.Map.Lookups.{exact_unsigned}
use Rattle.rapid_repeats.specs.Parts.{Adds}
use Rattle.rapid_repeats.proofs.Tables.{adds_entry, adds_none}
use Rattle.rapid_repeats.proofs.kept.passes_vote.Goals as goal

pub returns-then-is_last_vote-clause-kept : goal.returns-then-is_last_vote-clause-kept
returns-then-is_last_vote-clause-kept c = adds_none c.args.votes.now.entries (c.args.place, c.args.vote.now) c.args.votes.now.entries refl

pub returns-in-Ok-clause-kept : goal.returns-in-Ok-clause-kept
returns-in-Ok-clause-kept c =
    subst (λ x. Adds c.args.votes.now.entries (c.args.place, x) c.keep.new.table.entries) c.in-Ok.ensures
    (adds_entry nat_cmp exact_unsigned c.args.votes.now.entries c.keep.new.table.entries (c.args.place, c.in-Ok.last) c.keep.ensures.kept)

pub returns-in_default-clause-kept : goal.returns-in_default-clause-kept
returns-in_default-clause-kept c = adds_none c.args.votes.now.entries (c.args.place, c.args.vote.now) c.args.votes.now.entries refl
