use Rattle.std.proofs.Common.{◌∙◌, ap, take, [], ◌∷◌, ◌++◌}
use Rattle.std.proofs.lemmas.List.{append_assoc}
use Rattle.rapid_cut.proofs.Merging.{rising, put_at_found, put_at_gap, clones_added}
use Rattle.rapid_cut.proofs.ascending.push_below.Goals as goal

pub returns-in_ok-extend_with_clones-in-Ok : goal.returns-in_ok-extend_with_clones-in-Ok
returns-in_ok-extend_with_clones-in-Ok c =
    let xs = c.args.rest.now in
    let p = c.args.process.now in
    let put = put_at_found xs p c.in-Ok.place c.requires c.in-Ok.ensures.bound c.in-Ok.ensures.position in (
      take c.in-Ok.place xs,
      clones_added _ _ _ c.in_ok-extend_with_clones-in-Ok.ensures.items ∙ ap (λ ys. c.args.found.now.items ++ ys) (c.split_at.ensures.front ∙ put.0),
      ap (λ ys. take c.in-Ok.place xs ++ p ∷ ys) c.split_at.ensures.back ∙ put.1,
    )

pub returns-in_ok-push-in-Err : goal.returns-in_ok-push-in-Err
returns-in_ok-push-in-Err c =
    let xs = c.args.rest.now in
    let p = c.args.process.now in (
      take c.in-Err.place xs,
      c.in_ok-push-in-Err.ensures.items ∙ ap (λ q. c.extend_with_clones-in-Err.new.self.items ++ q ∷ []) c.in_ok-try_copy-in-Err.ensures
          ∙ ap (λ ys. ys ++ p ∷ []) (clones_added _ _ _ c.in_ok-extend_with_clones-in-Err.ensures.items ∙ ap (λ ys. c.args.found.now.items ++ ys) c.split_at-in-Err.ensures.front) ∙ append_assoc c.args.found.now.items (take c.in-Err.place xs) (p ∷ []),
      ap (λ ys. take c.in-Err.place xs ++ p ∷ ys) c.split_at-in-Err.ensures.back ∙ put_at_gap xs p c.in-Err.place c.in-Err.ensures.bound (c.in-Err.ensures.position (rising xs p c.requires)),
    )
