-- Events that are kept by their parts: who says them or whom they concern, and about which configuration they are.
use Rattle.std.proofs.Common.{◌≡◌, ℕ, Bool, true, false, cond, [], sym, ap, ◌∙◌, refl}
use Rattle.std.specs.Prelude.{not, ◌||◌, is_some, Option, Some, None, unwrap_or}
use Rattle.std.specs.Option.{option_map}
use Rattle.rapid_endpoint.specs.Same.{equal_when_same}
use Rattle.rapid_model.specs.Bytes.{ConfigurationId}
use Rattle.rapid_model.specs.Process.{Process, same_bytes}
use Rattle.rapid_model.specs.Configuration.{Configuration, configuration_id}
use Rattle.rapid_model.specs.Message.{Body, Message, JoinRequest}
use Rattle.rapid_model.specs.Node.{Event, EdgeDown, Receive}
use Rattle.rapid_model.specs.Journal.{Other}
use Rattle.rapid_rings.proofs.Lookups.{found_member}
use Rattle.rapid_desk.specs.declared.journal.Which.{Which}
use Rattle.rapid_desk.specs.declared.journal.Which.TheVariants.{This, Previous}
use Rattle.rapid_desk.specs.declared.journal.JournalRecord.{JournalRecord as Kept}
use Rattle.rapid_desk.specs.Records.{about, which_of, place_of, both, place_about, place_in, is_question, ring_asked, edge_in, stays_whole, id_in, member_at, said_by, record_of}

-- ---- places

-- what has this identifier is this configuration, or the one before it
which_is : (c : Option Configuration) (id : ConfigurationId) (w : Which) → which_of c id ≡ Some w → id_in c w ≡ id
which_is None id w h = cc
which_is (Some c) id w h = by (same_bytes id (configuration_id c)) (same_bytes id c.previous) (equal_when_same id (configuration_id c)) (equal_when_same id c.previous) h
  where
    by : (a b : Bool) → (a ≡ true → id ≡ configuration_id c) → (b ≡ true → id ≡ c.previous) → cond a (Some This) (cond b (Some Previous) None) ≡ Some w → id_in (Some c) w ≡ id
    by true b here before h = ap (λ o. id_in (Some c) (unwrap_or o This)) (sym h) ∙ sym (here refl)
    by false true here before h = ap (λ o. id_in (Some c) (unwrap_or o This)) (sym h) ∙ sym (before refl)
    by false false here before h = cc

-- who has a place is the member there
place_is : (c : Option Configuration) (p : Process) (place : ℕ) → place_of c p ≡ Some place → member_at c place ≡ p
place_is None p place h = cc
place_is (Some c) p place h = ap (λ x. unwrap_or x []) (found_member c.members p place h)

-- two that are there
parts : (o : Option Which) (q : Option ℕ) (w : Which) (n : ℕ) → both o q ≡ Some (w, n) → (o ≡ Some w) × (q ≡ Some n)
parts None q w n h = cc
parts (Some v) None w n h = cc
parts (Some v) (Some m) w n h = (ap (λ x. Some (unwrap_or {T = Which × ℕ} x (v, m)).0) h, ap (λ x. Some (unwrap_or {T = Which × ℕ} x (v, m)).1) h)

-- the same of who has a place, for what is about a configuration
placed_at : (c : Option Configuration) (id : Option ConfigurationId) (p : Process) (w : Which) (place : ℕ) → place_about c id p ≡ Some (w, place) → (id ≡ Some (id_in c w)) × (member_at c place ≡ p)
placed_at c None p w place h = cc
placed_at c (Some id) p w place h =
    let at = parts (which_of c id) (place_of c p) w place h in
    (ap Some (sym (which_is c id w at.0)), place_is c p place at.1)

-- a record by parts is that of the message with these parts
pub said_is : (c : Option Configuration) (m : Message) (w : Which) (place : ℕ) (b : Body) (r : Kept) → place_in c m ≡ Some (w, place) → b ≡ m.body
    → (about b ≡ Some (id_in c w) → record_of c r ≡ said_by c place b) → record_of c r ≡ Other (Receive m)
said_is c m w place b r h is said =
    let at = placed_at c (about m.body) m.sender w place h in
    said (ap about is ∙ at.0) ∙ (λ i. Other (Receive (record { sender = at.1 i; body = is i })))

-- an edge to the member at a place
pub edge_is : (c : Option Configuration) (e : Event) (w : Which) (place k : ℕ) → edge_in c e ≡ Some (w, place, k) → Other (EdgeDown (id_in c w) k (member_at c place)) ≡ Other e
edge_is c (EdgeDown id j p) w place k h = by (place_about c (Some id) p) (placed_at c (Some id) p) h
  where
    by : (o : Option (Which × ℕ)) → ((v : Which) (n : ℕ) → o ≡ Some (v, n) → (Some id ≡ Some (id_in c v)) × (member_at c n ≡ p)) → option_map {U = Which × ℕ × ℕ} (λ x. (x.0, x.1, j)) o ≡ Some (w, place, k) → Other (EdgeDown (id_in c w) k (member_at c place)) ≡ Other (EdgeDown id j p)
    by (Some x) is h =
        let which : x.0 ≡ w = ap (λ o. (unwrap_or {T = Which × ℕ × ℕ} o (x.0, x.1, j)).0) h in
        let at : x.1 ≡ place = ap (λ o. (unwrap_or {T = Which × ℕ × ℕ} o (x.0, x.1, j)).1) h in
        let ring : j ≡ k = ap (λ o. (unwrap_or {T = Which × ℕ × ℕ} o (x.0, x.1, j)).2) h in
        let both = is w place (λ i. Some (which i, at i)) in
        let here : id_in c w ≡ id = sym (ap (λ o. unwrap_or o []) both.0) in
        λ i. Other (EdgeDown (here i) (sym ring i) (both.1 i))
    by None is h = cc
edge_is c e w place k h = cc

-- ---- joiners

asks_on : (c : Option Configuration) (w : Which) (k : ℕ) (b : Body) → ring_asked c b ≡ Some (w, k) → JoinRequest (id_in c w) k ≡ b
asks_on c w k (JoinRequest id j) h =
    let at = parts (which_of c id) (Some j) w k h in
    λ i. JoinRequest (which_is c id w at.0 i) (unwrap_or (sym at.1 i) k)
asks_on c w k b h = cc

-- a request is that of who sends it
pub request_is : (c : Option Configuration) (m : Message) (p : Process) (b : Body) (w : Which) (k : ℕ) → p ≡ m.sender → b ≡ m.body → ring_asked c b ≡ Some (w, k) → Other (Receive (record { sender = p; body = JoinRequest (id_in c w) k })) ≡ Other (Receive m)
request_is c m p b w k from is h = λ i. Other (Receive (record { sender = from i; body = (asks_on c w k b h ∙ is) i }))

-- ---- what is kept whole

pub has_place : (c : Option Configuration) (m : Message) (w : Which) (place : ℕ) → place_in c m ≡ Some (w, place) → false ≡ stays_whole c m
has_place c m w place h = ap (λ o. not (is_some o || is_some (ring_asked c m.body) || is_question m.body)) (sym h)
