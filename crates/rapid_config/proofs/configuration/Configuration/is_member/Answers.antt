use Rattle.std.proofs.Common.{ap, ◌∙◌}
use Rattle.std.specs.Prelude.{is_some}
use Rattle.rapid_model.specs.Process.{same_bytes}
use Rattle.rapid_config.proofs.Places.{in_by_place}
use Rattle.rapid_config.proofs.configuration.Configuration.is_member.Goals as goal

pub returns : goal.returns
returns c = c.is_some.ensures ∙ ap is_some c.position.ensures.place ∙ in_by_place (same_bytes c.args.process.now) c.args.self.now.members
