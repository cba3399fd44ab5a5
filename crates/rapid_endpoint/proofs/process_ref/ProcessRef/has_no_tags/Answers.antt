use Rattle.std.proofs.Common.{sym, ap, ◌∙◌, [], ◌∷◌, drop}
use Rattle.rapid_model.specs.Process.{same_bytes}
use Rattle.rapid_endpoint.specs.Joined.{second_part}
use Rattle.rapid_endpoint.proofs.process_ref.ProcessRef.has_no_tags.Goals as goal

pub returns : goal.returns
returns c =
    c.are_same.ensures
    ∙ ap (λ t. same_bytes t (0 ∷ [])) (sym (second_part 22 c.self.inside.key c.self.inside.tags.now c.self.invariant.0) ∙ ap (drop 22) c.self.view_is)
