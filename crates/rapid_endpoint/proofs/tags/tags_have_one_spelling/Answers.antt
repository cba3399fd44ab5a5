use Rattle.rapid_model.proofs.Tags.{spelt_tags_are_read, read_tags_are_spelt, tags_tell}
use Rattle.rapid_endpoint.proofs.tags.tags_have_one_spelling.Goals as goal

pub returns-clause-spelt : goal.returns-clause-spelt
returns-clause-spelt c = spelt_tags_are_read

pub returns-clause-read : goal.returns-clause-read
returns-clause-read c = read_tags_are_spelt

pub returns-clause-tell : goal.returns-clause-tell
returns-clause-tell c = tags_tell
