use Rattle.std.proofs.Common.{◌≡◌, ◌-◌, slice_get}
use Rattle.rapid_model.specs.Tags.{tags_of}
use Rattle.rapid_endpoint.specs.TagsLeft.{tags_left}
use Rattle.rapid_endpoint.proofs.tags.Tags.get.Given as goal

abbrev pub invariant-loop : goal.invariant-loop
invariant-loop l = slice_get (tags_left l.tags) (l.place - l.counter) ≡ slice_get (tags_of l.self) l.place
