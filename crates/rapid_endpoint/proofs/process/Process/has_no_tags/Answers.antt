use Rattle.std.proofs.Common.{[], ◌∷◌, sym, ap, ◌∙◌, true≢false}
use Rattle.rapid_model.specs.Process.{tags_bytes_of}
use Rattle.rapid_model.proofs.Orders.{same_bytes_decides}
use Rattle.rapid_endpoint.proofs.process.Process.has_no_tags.Goals as goal

pub returns-clause-yes : goal.returns-clause-yes
returns-clause-yes c is =
    ap tags_bytes_of (sym c.as_ref.ensures) ∙ (same_bytes_decides (tags_bytes_of c.as_ref.result) (0 ∷ [])).0 (sym c.has_no_tags.ensures ∙ is)

pub returns-clause-no : goal.returns-clause-no
returns-clause-no c is e =
    true≢false (sym ((same_bytes_decides (tags_bytes_of c.as_ref.result) (0 ∷ [])).1 (ap tags_bytes_of c.as_ref.ensures ∙ e)) ∙ sym c.has_no_tags.ensures ∙ is)
