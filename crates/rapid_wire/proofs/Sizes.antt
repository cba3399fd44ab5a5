-- How long the parts of frames are.
use Rattle.std.proofs.Common.{◌≡◌, ℕ, ◌+◌, ◌*◌, ◌≤◌, List, [], ◌∷◌, ◌++◌, length, drop, refl, arith, length-append, length-drop}
use Rattle.std.specs.Prelude.{All, map, Some}
use Rattle.std.specs.List.{concat}
use Rattle.std.specs.Int.{w16, w32, w64, to_be_bytes}
use Rattle.std.proofs.lemmas.List.{length-map}
use Rattle.std.proofs.lemmas.List.Elements.{All-weaker, All-map}
use Rattle.rapid_model.specs.Tags.{tags_of}
use Rattle.rapid_model.specs.Process.{Process, IsProcess}
use Rattle.rapid_model.specs.Cut.{Cut, cut_bytes}
use Rattle.rapid_model.specs.Configuration.{Configuration, IsConfiguration, magic, configuration_bytes}
use Rattle.rapid_model.specs.Ballot.{Ballot}
use Rattle.rapid_model.specs.Message.{AlertItem, Safe, Batch, Message}
use Rattle.rapid_model.specs.Frame.{IsId, IsItem, IsAnswer, IsBody, ballot_bytes, item_bytes, report_bytes, answer_bytes, kind_number, body_bytes, version, payload, frame}
use Rattle.rapid_endpoint.proofs.TagLists.{bytes_are_few}
use Rattle.rapid_wire.proofs.Pieces.{concat_few}

-- ---- how many bytes there are at most

pub process_few : (p : Process) → IsProcess p → length p ≤ 543
process_few p h =
    let long = h.long in
    let rest = length-drop 22 p in
    let tags = bytes_are_few (tags_of (drop 22 p)) (drop 22 p) h.tags in
    omega (arith, long, rest, tags)

pub processes_few : (ps : List Process) → All IsProcess ps → length (concat ps) ≤ 543 * length ps
processes_few ps h = concat_few 543 ps (All-weaker IsProcess (λ p. length p ≤ 543) process_few ps h)

item_few : (x : AlertItem) → IsItem x → length (item_bytes x) ≤ 545
item_few x h = let subject = process_few x.subject h.subject in omega (arith, subject)

pub items_few : (xs : List AlertItem) → All IsItem xs → length (concat (map item_bytes xs)) ≤ 545 * length xs
items_few xs h =
    let each = All-weaker IsItem (λ x. length (item_bytes x) ≤ 545) item_few xs h in
    let all = concat_few 545 (map item_bytes xs) (All-map (λ p. length p ≤ 545) item_bytes xs each) in
    let same = length-map xs item_bytes in
    omega (arith, all, same)

-- ---- how many bytes there are

-- the parts of a configuration's bytes in front of the members
abbrev pub prefix : Configuration → List ℕ
prefix c = magic ++ c.previous

abbrev pub front : Configuration → List ℕ
front c = prefix c ++ to_be_bytes w64 c.height ++ (c.params.k ∷ c.params.h ∷ c.params.l ∷ [])

pub front_size : (c : Configuration) → IsConfiguration c → length (front c) ≡ 47
front_size c h =
    let p = h.previous.0 in
    let one = length-append (prefix c ++ to_be_bytes w64 c.height) (c.params.k ∷ c.params.h ∷ c.params.l ∷ []) in
    let two = length-append (prefix c) (to_be_bytes w64 c.height) in
    let three = length-append magic c.previous in
    let last : length (c.params.k ∷ c.params.h ∷ c.params.l ∷ []) ≡ 3 = refl in
    let height : length (to_be_bytes w64 c.height) ≡ 8 = refl in
    let first : length magic ≡ 4 = refl in
    omega (arith, p, one, two, three, last, height, first)

pub cut_length_is : (v : Cut) → length (cut_bytes v) ≡ 2 + length (concat v)
cut_length_is v =
    let parts = length-append (to_be_bytes w16 (length v)) (concat v) in
    let two : length (to_be_bytes w16 (length v)) ≡ 2 = refl in
    omega (arith, parts, two)

pub report_length_is : (b : Ballot) (v : Cut) → length (report_bytes (Some (record { ballot = b; value = v }))) ≡ 4 + length (cut_bytes v)
report_length_is b v =
    let parts = length-append (1 ∷ ballot_bytes b) (cut_bytes v) in
    let four : length (1 ∷ ballot_bytes b) ≡ 4 = refl in
    omega (arith, parts, four)

pub safe_length_is : (id : List ℕ) (os : List Process) → IsAnswer (Safe id os) → length (answer_bytes (Safe id os)) ≡ 34 + length (concat os)
safe_length_is id os h =
    let one = h.0.length in
    let parts = length-append (1 ∷ id) (length os ∷ concat os) in
    omega (arith, one, parts)

pub configuration_length_is : (c : Configuration) → IsConfiguration c → length (configuration_bytes c) ≡ 49 + length (concat c.members)
configuration_length_is c h =
    let head = front_size c h in
    let count = length-append (front c) (to_be_bytes w16 (length c.members)) in
    let parts = length-append (front c ++ to_be_bytes w16 (length c.members)) (concat c.members) in
    let two : length (to_be_bytes w16 (length c.members)) ≡ 2 = refl in
    omega (arith, head, count, parts, two)

pub batch_body : (id : List ℕ) (xs : List AlertItem) → IsBody (Batch id xs) → length (body_bytes (Batch id xs)) ≡ 34 + length (concat (map item_bytes xs))
batch_body id xs h =
    let size = h.0.length in
    let parts = length-append (id ++ to_be_bytes w16 (length xs)) (concat (map item_bytes xs)) in
    let inner = length-append id (to_be_bytes w16 (length xs)) in
    let two : length (to_be_bytes w16 (length xs)) ≡ 2 = refl in
    omega (arith, size, parts, inner, two)

pub id_and : (id xs : List ℕ) → IsId id → length (id ++ xs) ≡ 32 + length xs
id_and id xs h = let size = h.length in let parts = length-append id xs in omega (arith, size, parts)

pub id_ballot_and : (id xs : List ℕ) (b : Ballot) → IsId id → length (id ++ ballot_bytes b ++ xs) ≡ 35 + length xs
id_ballot_and id xs b h =
    let size = h.length in
    let parts = length-append (id ++ ballot_bytes b) xs in
    let inner = length-append id (ballot_bytes b) in
    let three : length (ballot_bytes b) ≡ 3 = refl in
    omega (arith, size, parts, inner, three)

pub frame_length_is : (m : Message) → length (frame m) ≡ 6 + length m.sender + length (body_bytes m.body)
frame_length_is m =
    let body = length-append (version ∷ kind_number m.body ∷ m.sender) (body_bytes m.body) in
    let whole = length-append (to_be_bytes w32 (length (payload m))) (payload m) in
    let four : length (to_be_bytes w32 (length (payload m))) ≡ 4 = refl in
    omega (arith, body, whole, four)
