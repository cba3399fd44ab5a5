-- Clauses of public calls cite this file.
-- What `node` prints of views.
use Rattle.std.specs.Prelude.{List, [], ◌∷◌, ◌++◌, flat_map, codes, decimal}
use Rattle.rapid_model.specs.Bytes.{Text}
use Rattle.rapid_model.specs.Process.{Process, endpoint, tags_bytes_of}
use Rattle.rapid_model.specs.Tags.{tags_of, tags_text}
use Rattle.rapid_model.specs.Configuration.{Configuration}
use Rattle.rapid_model.specs.EndpointText.{endpoint_text}
use Rattle.rapid_model.specs.Lines.{line_feed, space}

-- The endpoint of a member, and its tags behind it.
abbrev pub member_text : Process → Text
member_text p = endpoint_text (endpoint p) ++ tags_text (tags_of (tags_bytes_of p))

-- Members, with a space before each.
abbrev pub members_text : List Process → Text
members_text members = flat_map (λ p. space ∷ member_text p) members

-- The line of a view: its height, and the endpoints and tags of its members in order of identifier.
abbrev pub view_text : Configuration → Text
view_text c = codes "height " ++ decimal c.height ++ codes " members" ++ members_text c.members ++ line_feed ∷ []
