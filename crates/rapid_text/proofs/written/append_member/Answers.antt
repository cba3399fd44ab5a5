use Rattle.std.proofs.Common.{◌≡◌, ◌∙◌, ◌++◌, ◌∷◌, [], ℕ, List, ap, append_assoc, decimal}
use Rattle.std.proofs.lemmas.Result.{on_ok_weaker, on_err_weaker}
use Rattle.rapid_model.specs.Lines.{space}
use Rattle.rapid_model.specs.Process.{identifier}
use Rattle.rapid_model.specs.Tags.{tags_of, tags_text}
use Rattle.rapid_model.specs.Numbered.{number_under}
use Rattle.rapid_text.proofs.Texts.{front_within, two_behind}
use Rattle.rapid_text.proofs.written.append_member.Goals as goal

numbered : (c : goal.After-write_tags)
    → c.write_identifier.new.output.items ≡ c.push.new.self.items ++ decimal (number_under (identifier c.args.member.now))
numbered c =
    c.in_ok-write_identifier.ensures.written
    ∙ ap (λ (i : List ℕ). c.push.new.self.items ++ decimal (number_under i)) c.id.ensures

pub returns-clause-written : goal.returns-clause-written
returns-clause-written c =
    on_ok_weaker c.write_tags.result (λ e.
    two_behind c.args.output.now.items _ _ _ _ _ space c.in_ok-push.ensures.items (numbered c)
    (e ∙ ap (λ (b : List ℕ). c.write_identifier.new.output.items ++ tags_text (tags_of b)) c.tags.ensures)) c.write_tags.ensures.written

pub returns-clause-begun : goal.returns-clause-begun
returns-clause-begun c =
    let before = c.args.output.now.items in
    let number = decimal (number_under (identifier c.args.member.now)) in
    let mid : c.write_identifier.new.output.items ≡ before ++ (space ∷ number) =
    numbered c ∙ ap (λ (l : List ℕ). l ++ number) c.in_ok-push.ensures.items ∙ append_assoc before (space ∷ []) number in
    on_err_weaker c.write_tags.result (λ e. front_within before _ _ (space ∷ number) mid e) c.write_tags.ensures.begun
