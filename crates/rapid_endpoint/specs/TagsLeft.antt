-- Clauses of public calls cite this file.
-- The tags that are gone over.
use Rattle.std.specs.Prelude.{List}
use Rattle.rapid_model.specs.Tags.{Tag, tags_in}
use Rattle.rapid_endpoint.specs.declared.tags.TagsIter.{TagsIter}

-- The tags that are left.
abbrev pub tags_left : TagsIter → List Tag
tags_left s = tags_in s.left s.bytes.now
