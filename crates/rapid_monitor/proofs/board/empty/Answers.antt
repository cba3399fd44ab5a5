use Rattle.std.proofs.Common.{◌≡◌, ◌∙◌, ℕ, ap, length, replicate, List}
use Rattle.std.specs.Prelude.{slice_index}
use Rattle.std.proofs.lemmas.List.{length-replicate}
use Rattle.rapid_monitor.proofs.Moves.{opens, all_zero}
use Rattle.rapid_monitor.proofs.board.empty.Goals as goal

pub of_words-requires : goal.of_words-requires
of_words-requires c =
    let h : c.as_slice.result.now ≡ replicate c.args.edges 0 = c.as_slice.ensures.value ∙ c.in_ok-words.ensures.items_if_clones_equal (λ y e. e) in
    opens c.args.edges c.as_slice.result.now (ap length h ∙ length-replicate _ _) (λ e. ap (λ (l : List ℕ). slice_index l e) h ∙ all_zero c.args.edges e)
