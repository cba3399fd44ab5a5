-- Messages that are kept by their parts, and the parts that they are kept by.
use Rattle.std.proofs.Common.{◌≡◌, ◌⊎◌, inl, inr, ℕ, ◌+◌, ◌≤◌, Bool, true, false, not, cond, List, [], ◌++◌, map, length, length-append, All, Contains, Option, Some, None, is_some, refl, sym, ap, subst, ◌∙◌, arith}
use Rattle.std.proofs.lemmas.List.{length-map}
use Rattle.std.proofs.lemmas.List.Elements.{All-nil, All-contains, Contains-append_cases, Contains-append_left, Contains-append_right}
use Rattle.rapid_model.specs.Alert.{Alert}
use Rattle.rapid_model.specs.Bytes.{ConfigurationId}
use Rattle.rapid_model.specs.Process.{Process, same_bytes}
use Rattle.rapid_model.specs.Cut.{Cut}
use Rattle.rapid_model.specs.Configuration.{Configuration, configuration_id, position_of, is_member}
use Rattle.rapid_model.specs.Message.{Message, Batch, FastVote, JoinRequest, AlertItem, item_of, batch_alerts}
use Rattle.rapid_model.proofs.Orders.{same_bytes_decides}
use Rattle.rapid_config.proofs.Places.{in_by_place}
use Rattle.rapid_rings.proofs.Lookups.{found_place}
use Rattle.rapid_message.specs.Bodies.{IsFrom}
use Rattle.rapid_message.proofs.Batches.{batch_alerts_are}
use Rattle.rapid_repeats.specs.declared.said.Asked.{Asked}
use Rattle.rapid_repeats.specs.declared.said.Asked.TheVariants.{Question, Request}
use Rattle.rapid_repeats.specs.Repeating.{Passed, of_members_in}
use Rattle.rapid_repeats.specs.Remembering.{IsSoughtOf}
use Rattle.rapid_repeats.specs.Parts.{speaker, place_in, batch_by, vote_by, asked_in, asked_by, IsPlace, IsBatchThere, AreParts, Adds}
use Rattle.rapid_repeats.proofs.Tables.{mapped, in_map, adds_map, adds_left, adds_right, adds_all}
use Rattle.std.proofs.lemmas.Option.{same_Some}

-- ---- places

-- The member at the place of a process is that process.
speaks : (c : Configuration) (p : Process) (place : ℕ) → position_of c p ≡ Some place → speaker c place ≡ p
speaks c p place at = sym ((same_bytes_decides p (speaker c place)).0 (found_place (same_bytes p) c.members place [] at).1)

-- The place of a process is that of the member there.
is_place : (c : Configuration) (p : Process) (place : ℕ) → position_of c p ≡ Some place → IsPlace c place
is_place c p place at = ap (position_of c) (speaks c p place at) ∙ at

-- Who has a place is a member, and who has none is not.
is_there : (c : Configuration) (p : Process) (o : Option ℕ) → position_of c p ≡ o → is_member c p ≡ is_some o
is_there c p o at = sym (in_by_place (same_bytes p) c.members) ∙ ap is_some at

pub placed : (c : Configuration) (id : ConfigurationId) (p : Process) (place : ℕ) → place_in c id p ≡ Some place → (id ≡ configuration_id c) × (position_of c p ≡ Some place)
placed c id p place h = by (same_bytes id (configuration_id c)) refl h
  where
    by : (b : Bool) → same_bytes id (configuration_id c) ≡ b → cond b (position_of c p) None ≡ Some place → (id ≡ configuration_id c) × (position_of c p ≡ Some place)
    by true s at = ((same_bytes_decides id (configuration_id c)).0 s, at)
    by false s at = cc

-- Repeats of what members alone are to say are not looked for if it has no place.
no_place : (c : Configuration) (id : ConfigurationId) (p : Process) (of_members : Bool) → place_in c id p ≡ None → cond (same_bytes id (configuration_id c)) (Some true) None ≡ Some of_members → (of_members ≡ true → is_member c p ≡ true) → ⊥
no_place c id p of_members h said member = by (same_bytes id (configuration_id c)) h said
  where
    by : (b : Bool) → cond b (position_of c p) None ≡ None → cond b (Some true) None ≡ Some of_members → ⊥
    by true none of = let e = sym (is_there c p None none) ∙ member (sym (same_Some _ _ of)) in cc
    by false none of = cc

pub no_batch : (c : Configuration) (id : ConfigurationId) (p : Process) (xs : List AlertItem) (of_members : Bool) → place_in c id p ≡ None → IsSoughtOf c of_members (record { sender = p; body = Batch id xs }) → ⊥
no_batch c id p xs of_members h sought = no_place c id p of_members h sought.body sought.member

pub no_vote : (c : Configuration) (id : ConfigurationId) (p : Process) (v : Cut) (of_members : Bool) → place_in c id p ≡ None → IsSoughtOf c of_members (record { sender = p; body = FastVote id v }) → ⊥
no_vote c id p v of_members h sought = no_place c id p of_members h sought.body sought.member

-- What is compared and does not differ is one.
pub compared : (id here : ConfigurationId) (differ : Bool) → differ ≡ not (same_bytes id here) → differ ≡ false → id ≡ here
compared id here differ is alike = by (same_bytes id here) refl (sym is ∙ alike)
  where
    by : (b : Bool) → same_bytes id here ≡ b → not b ≡ false → id ≡ here
    by true s h = (same_bytes_decides id here).0 s
    by false s h = cc

-- Repeats of a request for another configuration are not looked for.
pub no_request : (c : Configuration) (id here : ConfigurationId) (p : Process) (k : ℕ) (differ of_members : Bool) → here ≡ configuration_id c → differ ≡ not (same_bytes id here) → differ ≡ true → IsSoughtOf c of_members (record { sender = p; body = JoinRequest id k }) → ⊥
no_request c id here p k differ of_members this is other sought =
    by (same_bytes id (configuration_id c)) (ap (λ x. not (same_bytes id x)) (sym this) ∙ sym is ∙ other) sought.body
  where
    by : (b : Bool) → not b ≡ true → cond b (Some false) None ≡ Some of_members → ⊥
    by true wrong said = cc
    by false wrong said = cc

-- ---- what is looked for

here_is : (here : ConfigurationId) (b : Bool) → cond (same_bytes here here) (Some b) None ≡ Some b
here_is here b = ap (λ t. cond t (Some b) None) ((same_bytes_decides here here).1 refl)

pub batch_sought : (c : Configuration) (p : Process) (place : ℕ) (xs : List AlertItem) → position_of c p ≡ Some place → IsSoughtOf c true (record { sender = p; body = Batch (configuration_id c) xs })
batch_sought c p place xs at = record { body = here_is (configuration_id c) true; member = λ e. is_there c p (Some place) at }

pub vote_sought : (c : Configuration) (p : Process) (place : ℕ) (v : Cut) → position_of c p ≡ Some place → IsSoughtOf c true (record { sender = p; body = FastVote (configuration_id c) v })
vote_sought c p place v at = record { body = here_is (configuration_id c) true; member = λ e. is_there c p (Some place) at }

of_others : (here : ConfigurationId) (a : Asked) → of_members_in here (asked_in here a) ≡ Some false
of_others here Question = refl
of_others here (Request k) = here_is here false

pub asked_sought : (c : Configuration) (p : Process) (a : Asked) → IsSoughtOf c false (record { sender = p; body = asked_in (configuration_id c) a })
asked_sought c p a = record { body = of_others (configuration_id c) a; member = λ e. cc }

-- ---- parts of what is kept

items_same : (here : ConfigurationId) (xs ys : List AlertItem) → Batch here xs ≡ Batch here ys → xs ≡ ys
items_same here xs ys e = cc

votes_same : (here : ConfigurationId) (v w : Cut) → FastVote here v ≡ FastVote here w → v ≡ w
votes_same here v w e = cc

apart : {X : Type 0} (here : ConfigurationId) (xs : List AlertItem) (v : Cut) → Batch here xs ≡ FastVote here v → X
apart here xs v e = cc

asked_same : (here : ConfigurationId) (a b : Asked) → asked_in here a ≡ asked_in here b → a ≡ b
asked_same here Question Question e = refl
asked_same here Question (Request k) e = cc
asked_same here (Request k) Question e = cc
asked_same here (Request k) (Request l) e = cc

-- The place of a process at which a member of its bytes is kept.
place_same : (c : Configuration) (p : Process) (place at : ℕ) → IsPlace c at → position_of c p ≡ Some place → speaker c at ≡ p → at ≡ place
place_same c p place at is h who = same_Some _ _ (sym is ∙ ap (position_of c) who ∙ h)

batch_same : (c : Configuration) (p : Process) (place : ℕ) (xs : List Alert) (e : ℕ × List Alert) → position_of c p ≡ Some place → All (IsFrom p (configuration_id c)) xs → IsBatchThere c e
    → batch_by c e ≡ record { sender = p; body = Batch (configuration_id c) (map item_of xs) } → e ≡ (place, xs)
batch_same c p place xs e at from there same =
    let here = configuration_id c in
    let who : speaker c e.0 ≡ p = ap (λ (m : Message). m.sender) same in
    let where_at : e.0 ≡ place = place_same c p place e.0 there.0 at who in
    let items : map item_of e.1 ≡ map item_of xs = items_same here (map item_of e.1) (map item_of xs) (ap (λ (m : Message). m.body) same) in
    let alerts : e.1 ≡ xs = sym (batch_alerts_are (speaker c e.0) here e.1 there.1) ∙ (λ i. batch_alerts (who i) here (items i)) ∙ batch_alerts_are p here xs from in
    λ i. (where_at i, alerts i)

vote_same : (c : Configuration) (p : Process) (place : ℕ) (v : Cut) (e : ℕ × Cut) → position_of c p ≡ Some place → IsPlace c e.0 → vote_by c e ≡ record { sender = p; body = FastVote (configuration_id c) v } → e ≡ (place, v)
vote_same c p place v e at there same =
    let where_at : e.0 ≡ place = place_same c p place e.0 there at (ap (λ (m : Message). m.sender) same) in
    let vote : e.1 ≡ v = votes_same (configuration_id c) e.1 v (ap (λ (m : Message). m.body) same) in
    λ i. (where_at i, vote i)

-- A batch that is kept stands at its sender's place.
pub batch_back : (c : Configuration) (bs : List (ℕ × List Alert)) (vs : List (ℕ × Cut)) (p : Process) (place : ℕ) (xs : List Alert) → AreParts c bs vs → position_of c p ≡ Some place → All (IsFrom p (configuration_id c)) xs
    → Contains (map (batch_by c) bs ++ map (vote_by c) vs) (record { sender = p; body = Batch (configuration_id c) (map item_of xs) }) → Contains bs (place, xs)
batch_back c bs vs p place xs parts at from h = by (Contains-append_cases (map (batch_by c) bs) (map (vote_by c) vs) (record { sender = p; body = Batch (configuration_id c) (map item_of xs) }) h)
  where
    by : Contains (map (batch_by c) bs) (record { sender = p; body = Batch (configuration_id c) (map item_of xs) }) ⊎ Contains (map (vote_by c) vs) (record { sender = p; body = Batch (configuration_id c) (map item_of xs) })
        → Contains bs (place, xs)
    by (inl i) =
        let d = mapped (batch_by c) bs _ i in
        subst (Contains bs) (batch_same c p place xs d.0 at from (All-contains (IsBatchThere c) bs d.0 parts.batches d.1) d.2) d.1
    by (inr i) =
        let d = mapped (vote_by c) vs _ i in
        apart (configuration_id c) (map item_of xs) d.0.1 (sym (ap (λ (m : Message). m.body) d.2))

-- So does a fast vote.
pub vote_back : (c : Configuration) (bs : List (ℕ × List Alert)) (vs : List (ℕ × Cut)) (p : Process) (place : ℕ) (v : Cut) → AreParts c bs vs → position_of c p ≡ Some place
    → Contains (map (batch_by c) bs ++ map (vote_by c) vs) (record { sender = p; body = FastVote (configuration_id c) v }) → Contains vs (place, v)
vote_back c bs vs p place v parts at h = by (Contains-append_cases (map (batch_by c) bs) (map (vote_by c) vs) (record { sender = p; body = FastVote (configuration_id c) v }) h)
  where
    by : Contains (map (batch_by c) bs) (record { sender = p; body = FastVote (configuration_id c) v }) ⊎ Contains (map (vote_by c) vs) (record { sender = p; body = FastVote (configuration_id c) v }) → Contains vs (place, v)
    by (inl i) =
        let d = mapped (batch_by c) bs _ i in
        apart (configuration_id c) (map item_of d.0.1) v (ap (λ (m : Message). m.body) d.2)
    by (inr i) =
        let d = mapped (vote_by c) vs _ i in
        subst (Contains vs) (vote_same c p place v d.0 at (All-contains (λ (e : ℕ × Cut). IsPlace c e.0) vs d.0 parts.votes d.1) d.2) d.1

-- What a process asked stands under the process and what it asked.
pub asked_back : (c : Configuration) (qs : List ((Process × Asked) × ℕ)) (p : Process) (a : Asked) (t : ℕ) → Contains (map (asked_by c) qs) (record { message = record { sender = p; body = asked_in (configuration_id c) a }; ticks = t }) → Contains qs ((p, a), t)
asked_back c qs p a t h =
    let d = mapped (asked_by c) qs _ h in
    let who : d.0.0.0 ≡ p = ap (λ (x : Passed). x.message.sender) d.2 in
    let what : d.0.0.1 ≡ a = asked_same (configuration_id c) d.0.0.1 a (ap (λ (x : Passed). x.message.body) d.2) in
    let when : d.0.1 ≡ t = ap (λ (x : Passed). x.ticks) d.2 in
    subst (Contains qs) (λ i. ((who i, what i), when i)) d.1

-- ---- and the messages of what is kept

pub batch_there : (c : Configuration) (bs : List (ℕ × List Alert)) (vs : List (ℕ × Cut)) (p : Process) (place : ℕ) (xs : List Alert) → position_of c p ≡ Some place → Contains bs (place, xs)
    → Contains (map (batch_by c) bs ++ map (vote_by c) vs) (record { sender = p; body = Batch (configuration_id c) (map item_of xs) })
batch_there c bs vs p place xs at i =
    subst (λ q. Contains (map (batch_by c) bs ++ map (vote_by c) vs) (record { sender = q; body = Batch (configuration_id c) (map item_of xs) })) (speaks c p place at)
    (Contains-append_left (map (batch_by c) bs) (map (vote_by c) vs) (batch_by c (place, xs)) (in_map (batch_by c) bs (place, xs) i))

pub vote_there : (c : Configuration) (bs : List (ℕ × List Alert)) (vs : List (ℕ × Cut)) (p : Process) (place : ℕ) (v : Cut) → position_of c p ≡ Some place → Contains vs (place, v)
    → Contains (map (batch_by c) bs ++ map (vote_by c) vs) (record { sender = p; body = FastVote (configuration_id c) v })
vote_there c bs vs p place v at i =
    subst (λ q. Contains (map (batch_by c) bs ++ map (vote_by c) vs) (record { sender = q; body = FastVote (configuration_id c) v })) (speaks c p place at)
    (Contains-append_right (map (batch_by c) bs) (map (vote_by c) vs) (vote_by c (place, v)) (in_map (vote_by c) vs (place, v) i))

pub batch_adds : (c : Configuration) (bs ns : List (ℕ × List Alert)) (vs : List (ℕ × Cut)) (p : Process) (place : ℕ) (xs : List Alert) → position_of c p ≡ Some place → Adds bs (place, xs) ns
    → Adds (map (batch_by c) bs ++ map (vote_by c) vs) (record { sender = p; body = Batch (configuration_id c) (map item_of xs) }) (map (batch_by c) ns ++ map (vote_by c) vs)
batch_adds c bs ns vs p place xs at h =
    subst (λ q. Adds (map (batch_by c) bs ++ map (vote_by c) vs) (record { sender = q; body = Batch (configuration_id c) (map item_of xs) }) (map (batch_by c) ns ++ map (vote_by c) vs)) (speaks c p place at)
    (adds_left (map (batch_by c) bs) (batch_by c (place, xs)) (map (batch_by c) ns) (map (vote_by c) vs) (adds_map (batch_by c) bs (place, xs) ns h))

pub vote_adds : (c : Configuration) (bs : List (ℕ × List Alert)) (vs ns : List (ℕ × Cut)) (p : Process) (place : ℕ) (v : Cut) → position_of c p ≡ Some place → Adds vs (place, v) ns
    → Adds (map (batch_by c) bs ++ map (vote_by c) vs) (record { sender = p; body = FastVote (configuration_id c) v }) (map (batch_by c) bs ++ map (vote_by c) ns)
vote_adds c bs vs ns p place v at h =
    subst (λ q. Adds (map (batch_by c) bs ++ map (vote_by c) vs) (record { sender = q; body = FastVote (configuration_id c) v }) (map (batch_by c) bs ++ map (vote_by c) ns)) (speaks c p place at)
    (adds_right (map (batch_by c) bs) (map (vote_by c) vs) (vote_by c (place, v)) (map (vote_by c) ns) (adds_map (vote_by c) vs (place, v) ns h))

-- ---- the parts afterwards

pub no_parts : (c : Configuration) (bs : List (ℕ × List Alert)) (vs : List (ℕ × Cut)) → bs ≡ [] → vs ≡ [] → AreParts c bs vs
no_parts c bs vs e k =
    record {
      batches = subst (All (IsBatchThere c)) (sym e) (All-nil (IsBatchThere c));
      votes = subst (All (λ (x : ℕ × Cut). IsPlace c x.0)) (sym k) (All-nil (λ (x : ℕ × Cut). IsPlace c x.0));
      few_batches = subst (λ xs. length xs ≤ 1024) (sym e) (omega arith);
      few_votes = subst (λ xs. length xs ≤ 1024) (sym k) (omega arith);
    }

pub batch_parts : (c : Configuration) (bs ns : List (ℕ × List Alert)) (vs : List (ℕ × Cut)) (p : Process) (id : ConfigurationId) (place : ℕ) (xs : List Alert) → AreParts c bs vs → (id ≡ configuration_id c) × (position_of c p ≡ Some place) → All (IsFrom p id) xs
    → Adds bs (place, xs) ns → length ns ≤ 1024 → AreParts c ns vs
batch_parts c bs ns vs p id place xs parts at own h few =
    record {
      batches = adds_all (IsBatchThere c) bs (place, xs) ns h parts.batches (is_place c p place at.1, subst (λ q. All (IsFrom q (configuration_id c)) xs) (sym (speaks c p place at.1)) (subst (λ j. All (IsFrom p j) xs) at.0 own));
      votes = parts.votes;
      few_batches = few;
      few_votes = parts.few_votes;
    }

pub vote_parts : (c : Configuration) (bs : List (ℕ × List Alert)) (vs ns : List (ℕ × Cut)) (p : Process) (place : ℕ) (v : Cut) → AreParts c bs vs → position_of c p ≡ Some place → Adds vs (place, v) ns → length ns ≤ 1024 → AreParts c bs ns
vote_parts c bs vs ns p place v parts at h few =
    record {
      batches = parts.batches;
      votes = adds_all (λ (e : ℕ × Cut). IsPlace c e.0) vs (place, v) ns h parts.votes (is_place c p place at);
      few_batches = parts.few_batches;
      few_votes = few;
    }

-- There are at most two messages of each member.
pub few_of_members : (c : Configuration) (bs : List (ℕ × List Alert)) (vs : List (ℕ × Cut)) → AreParts c bs vs → length (map (batch_by c) bs ++ map (vote_by c) vs) ≤ 2048
few_of_members c bs vs parts =
    let sum : length (map (batch_by c) bs ++ map (vote_by c) vs) ≡ length bs + length vs = length-append (map (batch_by c) bs) (map (vote_by c) vs) ∙ (λ i. length-map bs (batch_by c) i + length-map vs (vote_by c) i) in
    omega (arith, sum, parts.few_batches, parts.few_votes)
