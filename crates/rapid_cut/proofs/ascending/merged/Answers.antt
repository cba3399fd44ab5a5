use Rattle.std.proofs.Common.{◌+◌, ◌<◌, ◌∙◌, ap, sym, take, drop, length, [], ◌∷◌, ◌++◌, arith}
use Rattle.std.proofs.lemmas.List.{take_more, take_all}
use Rattle.rapid_cut.proofs.Merging.{sorted_end, merging_none, merging_one, merging_all, clones_added}
use Rattle.rapid_cut.proofs.Passing.{drop_next}
use Rattle.rapid_cut.proofs.ascending.merged.Goals as goal

pub loop-process-init : goal.loop-process-init
loop-process-init c = merging_none c.args.first.now c.args.second.now c.in_ok-found.found.items c.in_ok-found.ensures.items c.requires.first c.requires.second

pub push_below-requires : goal.push_below-requires
push_below-requires c = sorted_end c.loop-process.found.items c.loop-process.rest.now c.loop-process.invariant.sorted

pub loop-process-preserved : goal.loop-process-preserved
loop-process-preserved c =
    let i = c.loop-process.process-index in
    let p = c.process-item.result in
    let ys = c.args.second.now in
    let below : i < length ys = omega (arith, c.loop-process-test.true) in
    merging_one c.args.first.now (take i ys) (take (i + 1) ys) (drop i ys) (drop (i + 1) ys) c.loop-process.found.items c.loop-process.rest.now c.push_below.new.found.items _ p
    (drop_next ys i p c.loop-process-test.true c.process-item.is) (take_more ys i p below ∙ ap (λ y. take i ys ++ y ∷ []) (sym c.process-item.is)) c.in_ok-rest.ensures c.loop-process.invariant

pub returns : goal.returns
returns c =
    let i = c.loop-process.process-index in
    let ys = c.args.second.now in
    merging_all c.args.first.now ys (take i ys) (drop i ys) c.loop-process.found.items c.loop-process.rest.now c.extend_with_clones.new.self.items (take_all i ys c.loop-process-test.false) (clones_added _ _ _ c.in_ok-extend_with_clones.ensures.items) c.loop-process.invariant
