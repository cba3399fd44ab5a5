use Rattle.rapid_model.specs.Tags.{tags_of}
use Rattle.rapid_endpoint.proofs.TagLists.{bytes_are_few}
use Rattle.rapid_endpoint.proofs.tags.Tags.spelt.Goals as goal

pub of-requires : goal.of-requires
of-requires c = bytes_are_few (tags_of c.args.bytes.now) c.args.bytes.now c.requires
