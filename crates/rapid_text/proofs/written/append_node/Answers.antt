use Rattle.std.proofs.Common.{◌∙◌}
use Rattle.std.proofs.lemmas.Result.{on_err_weaker}
use Rattle.rapid_text.proofs.Texts.{front_more}
use Rattle.rapid_text.proofs.written.append_node.Goals as goal

pub returns-clause-begun : goal.returns-clause-begun
returns-clause-begun c =
    on_err_weaker c.write_identifier.result (λ e. front_more c.args.output.now.items _ _ (e ∙ c.in_ok-extend_from_slice.ensures.items)) c.write_identifier.ensures.unchanged
