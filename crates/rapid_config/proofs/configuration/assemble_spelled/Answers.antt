use Rattle.std.proofs.Common.{ap, ◌∙◌, arith}
use Rattle.sha2.specs.Sha256.{sha256}
use Rattle.rapid_model.specs.Configuration.{configuration_id}
use Rattle.rapid_config.proofs.configuration.assemble_spelled.Goals as goal

pub invariant_of-result : goal.invariant_of-result
unfolding configuration_id
invariant_of-result c = (
  record { params = c.tell.ensures; height = omega arith; previous = (c.tell-2.ensures.length, c.tell-2.ensures.bytes); members = c.requires.members },
  c.new-id.ensures ∙ c.digest.ensures ∙ ap sha256 c.requires.bytes,
  c.requires.identifiers,
)
