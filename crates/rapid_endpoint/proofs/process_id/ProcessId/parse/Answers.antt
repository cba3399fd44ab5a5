use Rattle.std.proofs.Common.{◌≡◌, ℕ, List, Option, Some, None, Err, refl}
use Rattle.std.proofs.lemmas.Bool.{false≢true}
use Rattle.rapid_endpoint.specs.declared.parse_error.ParseError.TheVariants.{BadIdentifier}
use Rattle.rapid_endpoint.specs.Texts.{or_bad_identifier}
use Rattle.uuid.specs.Text.{parsed}
use Rattle.rapid_endpoint.proofs.process_id.ProcessId.parse.Goals as goal

refused : (o : Option (List ℕ)) → ((u : List ℕ) × (o ≡ Some u) → ⊥) → Err BadIdentifier ≡ or_bad_identifier o
refused None h = refl
refused (Some u) h = absurd (h (u, refl))

pub returns-in-Err : goal.returns-in-Err
returns-in-Err c = refused (parsed c.args.text.now) (λ h. absurd (false≢true (c.in-Err.ensures.ok.1 h)))
