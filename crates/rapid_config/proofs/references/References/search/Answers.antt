use Rattle.std.proofs.Common.{rules}
use Rattle.std.proofs.lemmas.List.Sorted.{answers_always}
use Rattle.rapid_model.specs.Process.{Process, identifier, bytes_cmp}
use Rattle.rapid_config.proofs.Places.{found_in_images}
use Rattle.rapid_config.proofs.references.References.search.Goals as goal

pub returns-clause-place : goal.returns-clause-place
returns-clause-place c =
    let ord = λ (p : Process). bytes_cmp (identifier p) c.args.id.now in
    let r = c.binary_search_by_key.result in
    let h = c.binary_search_by_key.ensures.position (λ p. identifier p.now) (answers_always _ _ _ (λ f a r g h. search rules)) in
    let images = found_in_images (λ p. p.now) ord c.deref.result.now r c.binary_search_by_key.ensures.bound h in
    rw (← c.self.view_is, ← c.deref.ensures.value) images
