use Rattle.std.proofs.Common.{Contains, sym, subst, ◌∙◌}
use Rattle.std.specs.Cmp.{nat_cmp_total}
use Rattle.std.proofs.lemmas.Map.Lookups.{exact_unsigned}
use Rattle.std.proofs.lemmas.Map.Views.{btree_map_get_iff}
use Rattle.rapid_repeats.proofs.kept.is_last_batch.Goals as goal
use Rattle.std.proofs.lemmas.Option.{same_Some}

pub returns-in-Some-clause-same : goal.returns-in-Some-clause-same
returns-in-Some-clause-same c e =
    let found = (btree_map_get_iff nat_cmp_total exact_unsigned c.args.batches.now c.len.ensures.ordered c.args.place c.in-Some.last.now).0 (sym c.in-Some.ensures.value) in
    subst (λ xs. Contains c.args.batches.now.entries (c.args.place, xs)) (c.are_same.ensures.same e) found

pub returns-in-Some-clause-told : goal.returns-in-Some-clause-told
returns-in-Some-clause-told c h =
    let found = (btree_map_get_iff nat_cmp_total exact_unsigned c.args.batches.now c.len.ensures.ordered c.args.place c.args.batch.now).1 h in
    c.are_same.ensures.told (same_Some _ _ (c.in-Some.ensures.value ∙ found))

pub returns-in-None-clause-told : goal.returns-in-None-clause-told
returns-in-None-clause-told c h =
    let found = (btree_map_get_iff nat_cmp_total exact_unsigned c.args.batches.now c.len.ensures.ordered c.args.place c.args.batch.now).1 h in
    let wrong = c.in-None.ensures.value ∙ found in
    cc
