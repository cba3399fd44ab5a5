-- The keys by which the peers of a world are found.
use Rattle.std.specs.Prelude.{◌≡◌, ℕ, Bool, true, ◌&&◌, List, map, filter, position, is_some, slice_get, Option, Some}
use Rattle.std.specs.List.{list_any}
use Rattle.std.specs.Coded.{Coded, coded_ℕ}
use Rattle.std.specs.FinMap as finmap
use Rattle.rapid_model.specs.Bytes.{Identifier, Endpoint}
use Rattle.rapid_model.specs.Codes.{bytes_code}
use Rattle.rapid_model.specs.InOrder.{in_order}
use Rattle.rapid_model.specs.Process.{bytes_cmp, same_bytes, identifier, endpoint}
use Rattle.rapid_model.specs.World.{Peer, is_running, has_identifier, has_endpoint}

-- Places by identifiers, or by endpoints.
abbrev pub Places : Type 0
Places = finmap.FinMap bytes_cmp ℕ

-- The code of places, by which a proof tells them apart.
abbrev pub places_code : Coded Places
places_code = finmap.code bytes_code coded_ℕ

-- All that are found by these places are among these identifiers.
abbrev pub HasAll : List Identifier → Places → Type 0
HasAll ids places = (q : Identifier) → is_some (finmap.get places q) ≡ true → list_any (same_bytes q) ids ≡ true

-- Each peer is found by its identifier, and by its endpoint if it runs.
pub record AreFound (by_id by_endpoint : Places) (ps : List Peer) : Type 0 where
  pub ids : (i : ℕ) (p : Peer) → slice_get ps i ≡ Some p → finmap.get by_id (identifier p.node.me) ≡ Some i
  pub endpoints : (i : ℕ) (p : Peer) → slice_get ps i ≡ Some p → is_running p ≡ true → finmap.get by_endpoint (endpoint p.node.me) ≡ Some i

-- The endpoints of these peers, whether they run or not.
abbrev pub endpoints_of : List Peer → List Endpoint
endpoints_of ps = map (λ p. endpoint p.node.me) ps

-- So they are found, and these are their endpoints.
pub record AreListed (by_id by_endpoint : Places) (es : List Endpoint) (ps : List Peer) : Type 0 where
  pub found : AreFound by_id by_endpoint ps
  pub listed : es ≡ endpoints_of ps

-- If an element passes the test, it stands at the place.
abbrev pub IsOnlyAt : {A : Type 0} → (A → Bool) → List A → Option ℕ → Type 0
IsOnlyAt {A} f xs place = (i : ℕ) (x : A) → slice_get xs i ≡ Some x → f x ≡ true → place ≡ Some i

-- The peer at the place runs at the endpoint.
pub record RunsAt (ps : List Peer) (e : Endpoint) (i : ℕ) : Type 0 where
  pub peer : Peer
  pub at : slice_get ps i ≡ Some peer
  pub runs : (is_running peer && has_endpoint e peer) ≡ true

-- No peer has the identifier of this one, and none runs at its endpoint.
pub record IsNew (ps : List Peer) (p : Peer) : Type 0 where
  pub unused : (i : ℕ) (q : Peer) → slice_get ps i ≡ Some q → identifier q.node.me ≡ identifier p.node.me → ⊥
  pub free : (i : ℕ) (q : Peer) → slice_get ps i ≡ Some q → is_running q ≡ true → endpoint q.node.me ≡ endpoint p.node.me → ⊥

-- Someone runs under the identifier.
abbrev pub runs : List Peer → Identifier → Bool
runs ps id = is_some (position (λ p. is_running p && has_identifier id p) ps)

-- The identifiers of those that run, ascending.
abbrev pub running_of : List Peer → List Identifier
running_of ps = in_order bytes_cmp (map (λ p. identifier p.node.me) (filter is_running ps))
