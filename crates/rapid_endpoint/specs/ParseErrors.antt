-- Clauses of public calls cite this file.
-- The numbers of the errors.
use Rattle.std.specs.Prelude.{◌≡◌, ℕ, Option, Some, option_map}
use Rattle.rapid_endpoint.specs.declared.parse_error.ParseError.{ParseError}
use Rattle.rapid_endpoint.specs.declared.parse_error.ParseError.TheVariants.{NotFourParts, PartRange, BadPort, BadIdentifier, BadTag, TooManyTags, TagsNotSorted}
use Rattle.rapid_model.specs.EndpointText as text
use Rattle.rapid_model.specs.Tags as tags

-- The number of an error.
abbrev pub code_of : ParseError → ℕ
code_of NotFourParts = 1
code_of PartRange = 2
code_of BadPort = 3
code_of BadIdentifier = 4
code_of BadTag = 5
code_of TooManyTags = 6
code_of TagsNotSorted = 7

-- The error that says why a text is no endpoint.
abbrev pub error_of : text.EndpointFault → ParseError
error_of text.NotFourParts = NotFourParts
error_of text.PartRange = PartRange
error_of text.BadPort = BadPort

-- The error that says why a list is not that of the tags of a process.
abbrev pub error_of_tags : tags.TagsRefusal → ParseError
error_of_tags tags.BadTag = BadTag
error_of_tags tags.TooManyTags = TooManyTags
error_of_tags tags.TagsNotSorted = TagsNotSorted

-- The error says why a list is not that of the tags of a process.
abbrev pub Reports : Option tags.TagsRefusal → ParseError → Type 0
Reports refusal e = option_map error_of_tags refusal ≡ Some e
