use Rattle.std.proofs.Common.{◌≡◌, ◌∙◌, ◌+◌, ◌*◌, ℕ, ap, arith, length, replicate, List}
use Rattle.std.specs.Prelude.{slice_index}
use Rattle.std.proofs.lemmas.List.{get_or-replicate, length-replicate}
use Rattle.rapid_view.proofs.Moves.{opens}
use Rattle.rapid_view.proofs.cell.ViewCell.empty.Goals as goal

pub of_words-requires : goal.of_words-requires
of_words-requires c =
    let h : c.as_slice.result.now ≡ replicate (1 + 6 * c.args.room) 0 = c.as_slice.ensures.value ∙ c.in_ok-words.ensures.items_if_clones_equal (λ y e. e) in
    opens c.args.room c.as_slice.result.now (ap length h ∙ length-replicate _ _) (ap (λ (l : List ℕ). slice_index l 0) h ∙ get_or-replicate _ 0 0 0 (omega arith))
