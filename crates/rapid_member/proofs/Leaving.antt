-- What a member says that leaves, one ring after another.
use Rattle.std.proofs.Common.{◌≡◌, ℕ, ◌+◌, List, [], ◌∷◌, ◌++◌, flat_map, sym, ap, ◌∙◌, append_assoc}
use Rattle.std.specs.List.{range_with_len}
use Rattle.std.proofs.lemmas.List.Concat.{flat_map-append}
use Rattle.rapid_model.specs.Process.{Process}
use Rattle.rapid_model.specs.Node.{Effect, Output, output_of, outputs}
use Rattle.rapid_rings.proofs.Numbers.{range_more}

pub more_ring : (me : Process) (f : ℕ → List Effect) (before : List Output) (n : ℕ) →
    (before ++ outputs me (flat_map f (range_with_len 0 n))) ++ outputs me (flat_map f (n ∷ [])) ≡ before ++ outputs me (flat_map f (range_with_len 0 (n + 1)))
more_ring me f before n =
    append_assoc before _ _
    ∙ ap (λ l. before ++ l) (sym (flat_map-append (output_of me) (flat_map f (range_with_len 0 n)) (flat_map f (n ∷ []))))
    ∙ ap (λ l. before ++ outputs me l) (sym (flat_map-append f (range_with_len 0 n) (n ∷ [])))
    ∙ ap (λ l. before ++ outputs me (flat_map f l)) (sym (range_more n))
