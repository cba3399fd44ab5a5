use Rattle.std.proofs.Common.{List, ℕ, Option, [], ◌∷◌, ◌++◌, ap, sym, ◌∙◌}
use Rattle.std.specs.Option.{unwrap_or}
use Rattle.rapid_model.specs.Process.{Process, tags_bytes_of}
use Rattle.rapid_model.proofs.Orders.{same_bytes_decides}
use Rattle.rapid_endpoint.proofs.kept_process.KeptProcess.new.Goals.{then-has_no_tags, else-has_no_tags+in_ok-new}
use Rattle.rapid_endpoint.proofs.kept_process.KeptProcess.new.Goals as goal

pub returns : goal.returns
returns c =
    elim c.if-has_no_tags.branch [
      | then-has_no_tags w ↦
          ap (λ (t : Option Process). unwrap_or t (c.key.result ++ 0 ∷ [])) w.tagged-is
          ∙ ap (λ (t : List ℕ). c.key.result ++ t) (sym ((same_bytes_decides (tags_bytes_of c.args.process.now) (0 ∷ [])).0 (sym c.has_no_tags.ensures ∙ w.if-has_no_tags.true)))
          ∙ sym c.key.ensures.whole
      | else-has_no_tags+in_ok-new w ↦
          ap (λ (t : Option Process). unwrap_or t (c.key.result ++ 0 ∷ [])) w.tagged-is
          ∙ w.in_ok-new.ensures ∙ w.to_process.ensures
    ]
