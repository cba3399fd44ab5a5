use Rattle.std.proofs.Common.{◌≡◌}
use Rattle.std.specs.List.{list_any}
use Rattle.rapid_model.specs.Tags.{tags_of}
use Rattle.rapid_model.specs.Process.{tags_bytes_of, same_bytes}
use Rattle.rapid_endpoint.specs.TagsLeft.{tags_left}
use Rattle.rapid_sharded_map.specs.Stores.{store}
use Rattle.rapid_sharded_map.proofs.stores.is_store.Given as goal

abbrev pub invariant-loop-tag : goal.invariant-loop-tag
invariant-loop-tag l =
    list_any (same_bytes store) (tags_left l.tag-iterator) ≡ list_any (same_bytes store) (tags_of (tags_bytes_of l.process))
