use Rattle.std.proofs.Common.{◌≡◌, arith, ◌∙◌, ap, sym, vec_len, ◌==◌, true, false, Some, filter}
use Rattle.rapid_model.specs.Reports.{is_stable, is_unstable, stable, unstable, cut_if, reports}
use Rattle.rapid_cut.proofs.Cuts.{refused_for_memory, stable_of, unstable_of, no_stable, some_unstable, all_stable, some_kept, none_kept}
use Rattle.rapid_cut.proofs.detector.cut_of.Goals as goal

pub returns-then-is_any_unstable : goal.returns-then-is_any_unstable
returns-then-is_any_unstable g c =
    let t = g.T.ObserverTable.observers c.args.table.now in
    let d = c.args.reports.now.direct in
    let us = filter (is_unstable t c.args.reports.now.all) c.args.active.now in
    some_unstable (stable t d) us (some_kept (is_unstable t c.args.reports.now.all) c.args.active.now (sym c.is_any_unstable.ensures ∙ c.if-is_any_unstable.true))
    ∙ ap (cut_if (stable t d)) (unstable_of t d c.args.reports.now.all c.args.active.now c.requires.detecting c.requires.active)

pub returns-then-is_empty : goal.returns-then-is_empty
returns-then-is_empty g c =
    let t = g.T.ObserverTable.observers c.args.table.now in
    let d = c.args.reports.now.direct in
    let ss = c.in_ok-stable.stable.items in
    no_stable ss (unstable t d) (let f : (vec_len c.in_ok-stable.stable == 0) ≡ true = sym c.is_empty.ensures ∙ c.if-is_empty.true in grind (arith, f, c.in_ok-stable.stable.ok.0))
    ∙ ap (λ l. cut_if l (unstable t d)) (c.in_ok-stable.ensures ∙ stable_of t d c.args.reports.now.all c.args.active.now c.requires.detecting c.requires.active)

pub returns-in-Ok : goal.returns-in-Ok
returns-in-Ok g c =
    let t = g.T.ObserverTable.observers c.args.table.now in
    let d = c.args.reports.now.direct in
    let ss = c.in_ok-stable.stable.items in
    let us = filter (is_unstable t c.args.reports.now.all) c.args.active.now in
    ap Some c.in-Ok.ensures.value
    ∙ all_stable ss us (λ e. let f : (vec_len c.in_ok-stable.stable == 0) ≡ false = sym c.is_empty.ensures ∙ c.if-is_empty.false in grind (arith, e, f, c.in_ok-stable.stable.ok.0))
    (none_kept (is_unstable t c.args.reports.now.all) c.args.active.now (sym c.is_any_unstable.ensures ∙ c.if-is_any_unstable.false))
    ∙ ap (λ l. cut_if l us) (c.in_ok-stable.ensures ∙ stable_of t d c.args.reports.now.all c.args.active.now c.requires.detecting c.requires.active)
    ∙ ap (cut_if (stable t d)) (unstable_of t d c.args.reports.now.all c.args.active.now c.requires.detecting c.requires.active)

pub want_of_memory-requires : goal.want_of_memory-requires
want_of_memory-requires g c =
    let t = g.T.ObserverTable.observers c.args.table.now in
    refused_for_memory t c.args.reports.now.direct (is_stable t (reports t c.args.reports.now.direct)) c.in_ok-stable.stable.items c.in-Err.error
    c.requires.detecting.rules c.requires.detecting.limits (c.in_ok-stable.ensures ∙ stable_of t c.args.reports.now.direct c.args.reports.now.all c.args.active.now c.requires.detecting c.requires.active)
    (λ e. let f : (vec_len c.in_ok-stable.stable == 0) ≡ false = sym c.is_empty.ensures ∙ c.if-is_empty.false in grind (arith, e, f, c.in_ok-stable.stable.ok.0))
    c.in-Err.ensures.refused
