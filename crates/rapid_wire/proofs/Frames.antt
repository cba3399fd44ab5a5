-- Frames: every message fits, and no frame is the beginning of another.
use Rattle.std.proofs.Common.{◌≡◌, ℕ, ◌+◌, ◌≤◌, List, [], ◌∷◌, ◌++◌, length, refl, sym, ap, ◌∙◌, arith, length-append, append_assoc}
use Rattle.std.specs.Prelude.{Option, Some, None}
use Rattle.std.specs.Int.{w32, to_be_bytes}
use Rattle.std.proofs.lemmas.List.{nil_from_length}
use Rattle.rapid_model.specs.Cut.{Cut, IsCut, cut_bytes}
use Rattle.rapid_model.specs.Configuration.{Configuration, IsConfiguration, configuration_bytes}
use Rattle.rapid_model.specs.Ballot.{Ballot, Vote}
use Rattle.rapid_model.specs.Message.{Answer, Safe, EndpointInUse, ConfigurationChanged, TooManyJoiners, Body, Batch, FastVote, Prepare, Promise, Accept, Accepted, Decision, PreJoin, Reply, JoinRequest, Confirm, Probe, ProbeAck, Leave, Message}
use Rattle.rapid_model.specs.Frame.{IsId, IsReport, IsAnswer, IsBody, IsMessage, IsFrame, ballot_bytes, report_bytes, answer_bytes, kind_number, body_bytes, version, payload}
use Rattle.rapid_wire.specs.Reading.{message_in}
use Rattle.rapid_wire.proofs.Pieces.{head_same, tail_same, split, same_32}
use Rattle.rapid_wire.proofs.Readers.{some_is}
use Rattle.rapid_wire.proofs.Sizes.{process_few, processes_few, items_few, cut_length_is, report_length_is, safe_length_is, configuration_length_is, batch_body, id_and, id_ballot_and}
use Rattle.rapid_wire.proofs.Spelt.{message_again}

cut_size : (v : Cut) → IsCut v → length (cut_bytes v) ≤ 834050
cut_size v h =
    let few = h.few in
    let processes = processes_few v h.processes in
    let all = cut_length_is v in
    omega (arith, few, processes, all)

report_size : (r : Option (Vote Cut)) → IsReport r → length (report_bytes r) ≤ 834054
report_size None h = omega arith
report_size (Some x) h = let cut = cut_size x.value h.1 in let all = report_length_is x.ballot x.value in omega (arith, cut, all)

answer_size : (a : Answer) → IsAnswer a → length (answer_bytes a) ≤ 8722
answer_size (Safe id os) h =
    let few = h.2 in
    let processes = processes_few os h.3 in
    let all = safe_length_is id os h in
    omega (arith, few, processes, all)
answer_size EndpointInUse h = omega arith
answer_size ConfigurationChanged h = omega arith
answer_size TooManyJoiners h = omega arith

configuration_size : (c : Configuration) → IsConfiguration c → length (configuration_bytes c) ≤ 556081
configuration_size c h =
    let few = h.members.few in
    let processes = processes_few c.members h.members.processes in
    let all = configuration_length_is c h in
    omega (arith, few, processes, all)

after_id : (id xs : List ℕ) (n : ℕ) → IsId id → length xs ≤ n → length (id ++ xs) ≤ 32 + n
after_id id xs n h k = let all = id_and id xs h in omega (arith, k, all)

after_ballot : (id xs : List ℕ) (b : Ballot) (n : ℕ) → IsId id → length xs ≤ n → length (id ++ ballot_bytes b ++ xs) ≤ 35 + n
after_ballot id xs b n h k = let all = id_ballot_and id xs b h in omega (arith, k, all)

body_size : (b : Body) → IsBody b → length (body_bytes b) ≤ 1116194
body_size (Batch id xs) h =
    let few = h.1.few in
    let items = items_few xs h.1.items in
    let all = batch_body id xs h in
    omega (arith, few, items, all)
body_size (FastVote id v) h = let s = after_id id (cut_bytes v) 834050 h.0 (cut_size v h.1) in omega (arith, s)
body_size (Prepare id b) h = let s = after_id id (ballot_bytes b) 3 h.0 (omega arith) in omega (arith, s)
body_size (Promise id b r) h = let s = after_ballot id (report_bytes r) b 834054 h.0 (report_size r h.2) in omega (arith, s)
body_size (Accept id b v) h = let s = after_ballot id (cut_bytes v) b 834050 h.0 (cut_size v h.2) in omega (arith, s)
body_size (Accepted id b v) h = let s = after_ballot id (cut_bytes v) b 834050 h.0 (cut_size v h.2) in omega (arith, s)
body_size (Decision id v) h = let s = after_id id (cut_bytes v) 834050 h.0 (cut_size v h.1) in omega (arith, s)
body_size PreJoin h = omega arith
body_size (Reply j a) h =
    let joiner = process_few j h.0 in
    let answer = answer_size a h.1 in
    let all = length-append j (answer_bytes a) in
    omega (arith, joiner, answer, all)
body_size (JoinRequest id k) h = let s = after_id id (k ∷ []) 1 h.0 (omega arith) in omega (arith, s)
body_size (Confirm c) h = let s = configuration_size c h in omega (arith, s)
body_size (Probe id) h = let s = h.length in omega (arith, s)
body_size (ProbeAck id) h = let s = h.length in omega (arith, s)
body_size (Leave id k) h = let s = after_id id (k ∷ []) 1 h.0 (omega arith) in omega (arith, s)

pub message_fits : (m : Message) → IsMessage m → length (payload m) ≤ 2097152
message_fits m h =
    let sender = process_few m.sender h.sender in
    let body = body_size m.body h.body in
    let parts = length-append m.sender (body_bytes m.body) in
    omega (arith, sender, body, parts)

-- of each payload one message is read
pub same_payload : (m n : Message) → IsMessage m → IsMessage n → payload m ≡ payload n → m ≡ n
same_payload m n h k e =
    let rest = tail_same version version (kind_number m.body ∷ (m.sender ++ body_bytes m.body)) (kind_number n.body ∷ (n.sender ++ body_bytes n.body)) e in
    let kinds = head_same (kind_number m.body) (kind_number n.body) (m.sender ++ body_bytes m.body) (n.sender ++ body_bytes n.body) rest in
    let bytes = tail_same (kind_number m.body) (kind_number n.body) (m.sender ++ body_bytes m.body) (n.sender ++ body_bytes n.body) rest in
    some_is m n (sym (message_again m h) ∙ ap (λ k. message_in k (m.sender ++ body_bytes m.body)) kinds ∙ ap (message_in (kind_number n.body)) bytes ∙ message_again n k)

-- a list followed by more is that list only if there is no more
no_more : (xs ys rest : List ℕ) → length xs ≡ length ys → xs ++ rest ≡ ys → (rest ≡ []) × (xs ≡ ys)
no_more xs ys rest l e =
    let sizes_same = length-append xs rest in
    let total : length (xs ++ rest) ≡ length ys = ap length e in
    let none = nil_from_length rest (omega (arith, l, sizes_same, total)) in
    (none, (split xs ys rest [] l (e ∙ nothing ys)).0)
  where
    nothing : (zs : List ℕ) → zs ≡ zs ++ []
    nothing [] = refl
    nothing (z ∷ zs) = ap (λ t. z ∷ t) (nothing zs)

pub no_beginning : (bytes rest : List ℕ) (m n : Message) → IsFrame bytes m → IsFrame (bytes ++ rest) n → (rest ≡ []) × (m ≡ n)
no_beginning bytes rest m n h k =
    let fits = message_fits m h.0 in
    let fits' = message_fits n k.0 in
    let size = to_be_bytes w32 (length (payload m)) in
    let size' = to_be_bytes w32 (length (payload n)) in
    let whole : size ++ (payload m ++ rest) ≡ size' ++ payload n = sym (append_assoc size (payload m) rest) ∙ ap (λ b. b ++ rest) (sym h.1) ∙ k.1 in
    let parts = split size size' (payload m ++ rest) (payload n) refl whole in
    let lengths = same_32 (length (payload m)) (length (payload n)) (omega (arith, fits)) (omega (arith, fits')) parts.0 in
    let ends = no_more (payload m) (payload n) rest lengths parts.1 in
    (ends.0, same_payload m n h.0 k.0 ends.1)
