-- How each kind of message is judged.
use Rattle.std.proofs.Common.{◌≡◌, ℕ, ◌≤◌, Bool, false, List, [], ◌++◌, map, length, All, Contains, Some, refl, sym, ap, subst, ◌∙◌}
use Rattle.std.proofs.lemmas.List.{length-map}
use Rattle.rapid_model.specs.Alert.{Alert}
use Rattle.rapid_model.specs.Bytes.{ConfigurationId}
use Rattle.rapid_model.specs.Process.{Process}
use Rattle.rapid_model.specs.Cut.{Cut}
use Rattle.rapid_model.specs.Configuration.{Configuration, configuration_id, position_of}
use Rattle.rapid_model.specs.Message as model
use Rattle.rapid_model.specs.Message.{Message, item_of}
use Rattle.rapid_message.specs.Bodies.{IsFrom, body_of}
use Rattle.rapid_message.specs.declared.message.Body.{Body}
use Rattle.rapid_message.specs.declared.message.Body.TheVariants.{Batch, FastVote, JoinRequest, PreJoin}
use Rattle.rapid_repeats.specs.declared.said.Asked.{Asked}
use Rattle.rapid_repeats.specs.Repeating.{IsTimely, of_members_in}
use Rattle.rapid_repeats.specs.Remembering.{IsFilter, Remembers}
use Rattle.rapid_repeats.specs.Parts.{batch_by, vote_by, asked_in, asked_by, filter_of, AreParts, Adds, Judges}
use Rattle.rapid_repeats.proofs.Tables.{in_map, adds_map}
use Rattle.rapid_repeats.proofs.Parts.{batch_sought, vote_sought, asked_sought, batch_there, vote_there, batch_back, vote_back, asked_back, batch_adds, vote_adds, batch_parts, vote_parts, few_of_members}
use Rattle.rapid_repeats.proofs.Judging.{remembers_nothing, judged_member, judged_other}

-- At first nothing is kept.
pub nothing_yet : (c : Configuration) (bs : List (ℕ × List Alert)) (vs : List (ℕ × Cut)) (qs : List ((Process × Asked) × ℕ)) → bs ≡ [] → vs ≡ [] → qs ≡ [] → Remembers (filter_of c 0 bs vs qs) c 0 []
nothing_yet c bs vs qs e k l =
    remembers_nothing c (map (batch_by c) bs ++ map (vote_by c) vs) (map (asked_by c) qs) (λ i. map (batch_by c) (e i) ++ map (vote_by c) (k i)) (ap (map (asked_by c)) l)

-- A member's batch, and what is kept of members then.
pub batch_judged : (c : Configuration) (ticks : ℕ) (bs ns : List (ℕ × List Alert)) (vs : List (ℕ × Cut)) (qs : List ((Process × Asked) × ℕ)) (p : Process) (id : ConfigurationId) (place : ℕ) (xs : List Alert) (passes : Bool)
    → IsFilter (filter_of c ticks bs vs qs) → AreParts c bs vs → (id ≡ configuration_id c) × (position_of c p ≡ Some place) → All (IsFrom p id) xs
    → (passes ≡ false → Contains bs (place, xs)) → (passes ≡ false → ns ≡ bs) → (Contains bs (place, xs) → passes ≡ false) → Adds bs (place, xs) ns → length ns ≤ 1024
    → Judges (filter_of c ticks bs vs qs) (record { sender = p; body = model.Batch id (map item_of xs) }) passes (filter_of c ticks ns vs qs) × AreParts c ns vs
batch_judged c ticks bs ns vs qs p id place xs passes is parts at own dropped same told adds few =
    let from = subst (λ i. All (IsFrom p i) xs) at.0 own in
    let after = batch_parts c bs ns vs p id place xs parts at own adds few in (
      subst (λ i. Judges (filter_of c ticks bs vs qs) (record { sender = p; body = model.Batch i (map item_of xs) }) passes (filter_of c ticks ns vs qs)) (sym at.0)
          (judged_member c ticks (map (batch_by c) bs ++ map (vote_by c) vs) (map (batch_by c) ns ++ map (vote_by c) vs) (map (asked_by c) qs) _ passes is (batch_sought c p place (map item_of xs) at.1)
          (λ e. batch_there c bs vs p place xs at.1 (dropped e))
          (λ e. ap (λ ys. map (batch_by c) ys ++ map (vote_by c) vs) (same e))
          (λ i. told (batch_back c bs vs p place xs parts at.1 from i))
          (batch_adds c bs ns vs p place xs at.1 adds)
          (few_of_members c ns vs after)),
      after,
    )

-- A member's fast vote, likewise.
pub vote_judged : (c : Configuration) (ticks : ℕ) (bs : List (ℕ × List Alert)) (vs ns : List (ℕ × Cut)) (qs : List ((Process × Asked) × ℕ)) (p : Process) (id : ConfigurationId) (place : ℕ) (v : Cut) (passes : Bool)
    → IsFilter (filter_of c ticks bs vs qs) → AreParts c bs vs → (id ≡ configuration_id c) × (position_of c p ≡ Some place)
    → (passes ≡ false → Contains vs (place, v)) → (passes ≡ false → ns ≡ vs) → (Contains vs (place, v) → passes ≡ false) → Adds vs (place, v) ns → length ns ≤ 1024
    → Judges (filter_of c ticks bs vs qs) (record { sender = p; body = model.FastVote id v }) passes (filter_of c ticks bs ns qs) × AreParts c bs ns
vote_judged c ticks bs vs ns qs p id place v passes is parts at dropped same told adds few =
    let after = vote_parts c bs vs ns p place v parts at.1 adds few in (
      subst (λ i. Judges (filter_of c ticks bs vs qs) (record { sender = p; body = model.FastVote i v }) passes (filter_of c ticks bs ns qs)) (sym at.0)
          (judged_member c ticks (map (batch_by c) bs ++ map (vote_by c) vs) (map (batch_by c) bs ++ map (vote_by c) ns) (map (asked_by c) qs) _ passes is (vote_sought c p place v at.1)
          (λ e. vote_there c bs vs p place v at.1 (dropped e))
          (λ e. ap (λ ys. map (batch_by c) bs ++ map (vote_by c) ys) (same e))
          (λ i. told (vote_back c bs vs p place v parts at.1 i))
          (vote_adds c bs vs ns p place v at.1 adds)
          (few_of_members c bs ns after)),
      after,
    )

-- How many of others are kept.
same_length : (c : Configuration) (qs : List ((Process × Asked) × ℕ)) → length (map (asked_by c) qs) ≤ 4096 → length qs ≤ 4096
same_length c qs few = subst (λ n. n ≤ 4096) (length-map qs (asked_by c)) few

length_same : (c : Configuration) (qs : List ((Process × Asked) × ℕ)) → length qs ≤ 4096 → length (map (asked_by c) qs) ≤ 4096
length_same c qs few = subst (λ n. n ≤ 4096) (sym (length-map qs (asked_by c))) few

-- What a process asks.
pub asked_judged : (c : Configuration) (ticks : ℕ) (bs : List (ℕ × List Alert)) (vs : List (ℕ × Cut)) (qs ns : List ((Process × Asked) × ℕ)) (p : Process) (a : Asked) (passes : Bool)
    → IsFilter (filter_of c ticks bs vs qs)
    → (passes ≡ false → (t : ℕ) × Contains qs ((p, a), t) × IsTimely (asked_in (configuration_id c) a) t ticks) → (passes ≡ false → ns ≡ qs) → ((t : ℕ) → Contains qs ((p, a), t) → IsTimely (asked_in (configuration_id c) a) t ticks → passes ≡ false)
    → Adds qs ((p, a), ticks) ns → (length qs ≤ 4096 → length ns ≤ 4096)
    → Judges (filter_of c ticks bs vs qs) (record { sender = p; body = asked_in (configuration_id c) a }) passes (filter_of c ticks bs vs ns)
asked_judged c ticks bs vs qs ns p a passes is dropped same told adds few =
    judged_other c ticks (map (batch_by c) bs ++ map (vote_by c) vs) (map (asked_by c) qs) (map (asked_by c) ns) _ passes is (asked_sought c p a)
    (λ e. let was = dropped e in (was.0, in_map (asked_by c) qs ((p, a), was.0) was.1, was.2))
    (λ e. ap (map (asked_by c)) (same e))
    (λ was. told was.0 (asked_back c qs p a was.0 was.1) was.2)
    (adds_map (asked_by c) qs ((p, a), ticks) ns adds)
    (length_same c ns (few (same_length c qs is.3.few_others)))

-- ---- the message that has these parts

pub spoken : (m : Message) (s : Process) (b : model.Body) → s ≡ m.sender → b ≡ m.body → m ≡ record { sender = s; body = b }
spoken m s b e k = λ i. record { sender = sym e i; body = sym k i }

-- Repeats of other messages are not looked for.
pub nothing_else : (here : ConfigurationId) (m : Message) (b : Body) (of_members : Bool) → body_of b ≡ m.body → ((id : List ℕ) (xs : List Alert) → b ≡ Batch id xs → ⊥) → ((id : List ℕ) (v : Cut) → b ≡ FastVote id v → ⊥) → ((id : List ℕ) (k : ℕ) → b ≡ JoinRequest id k → ⊥) → (b ≡ PreJoin → ⊥)
    → of_members_in here m.body ≡ Some of_members → ⊥
nothing_else here m b of_members is batch vote request question h = none b batch vote request question (ap (of_members_in here) is ∙ h)
  where
    none : (b : Body) → ((id : List ℕ) (xs : List Alert) → b ≡ Batch id xs → ⊥) → ((id : List ℕ) (v : Cut) → b ≡ FastVote id v → ⊥) → ((id : List ℕ) (k : ℕ) → b ≡ JoinRequest id k → ⊥) → (b ≡ PreJoin → ⊥) → of_members_in here (body_of b) ≡ Some of_members → ⊥
    none (Batch id xs) batch vote request question h = batch id xs refl
    none (FastVote id v) batch vote request question h = vote id v refl
    none (JoinRequest id k) batch vote request question h = request id k refl
    none PreJoin batch vote request question h = question refl
    none b batch vote request question h = cc
