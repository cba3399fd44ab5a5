-- The endpoints of members, and a code by which a proof tells sets of them apart.
use Rattle.std.specs.Prelude.{List, map}
use Rattle.std.specs.Coded.{Coded}
use Rattle.std.specs.FinSet as set
use Rattle.rapid_model.specs.Process.{Process, endpoint, bytes_cmp}
use Rattle.rapid_model.specs.Codes.{bytes_code}

-- A set of endpoints.
abbrev pub EndpointSet : Type 0
EndpointSet = set.FinSet bytes_cmp

-- Sets of endpoints.
abbrev pub endpoints_code : Coded EndpointSet
endpoints_code = set.code bytes_code

-- The endpoints of these processes.
unfoldable pub endpoints_of : List Process → EndpointSet
endpoints_of ps = set.from_list (map endpoint ps)
