use Rattle.rapid_model.specs.Tags.{tags_of}
use Rattle.rapid_endpoint.proofs.TagLists.{bytes_are_few}
use Rattle.rapid_endpoint.proofs.tags.Tags.replace.Goals as goal

pub replace-requires : goal.replace-requires
replace-requires c = bytes_are_few (tags_of c.args.bytes.now) c.args.bytes.now c.requires
