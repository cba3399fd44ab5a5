-- The alerts of a batch are those of its member.
use Rattle.std.proofs.Common.{◌≡◌, ◌&&◌, Bool, true, false, List, [], ◌∷◌, All, drop, nat_lt, refl, ap, subst, Option, Some, None, IfSome}
use Rattle.std.proofs.lemmas.List.Elements.{All-take, All-drop}
use Rattle.rapid_model.specs.Process.{Process, same_bytes}
use Rattle.rapid_model.specs.Configuration.{Configuration, configuration_id}
use Rattle.rapid_model.specs.Ring.{Observers, observers_of, observes}
use Rattle.rapid_model.specs.Alert.{Alert, is_well_formed, kind_fits}
use Rattle.rapid_model.specs.Outbox.{Outbox, unflushed, flush}
use Rattle.rapid_model.specs.Node.{MemberState}
use Rattle.rapid_model.specs.Tick.{send_alerts, sends_batch}
use Rattle.rapid_member.specs.Saying.{says_batch}
use Rattle.rapid_model.proofs.Orders.{same_bytes_decides}
use Rattle.rapid_message.specs.Bodies.{IsFrom}
use Rattle.rapid_alerts.specs.Outboxes.{AreRaised, is_sound}
use Rattle.rapid_model.specs.Batch.{batch_of}
use Rattle.std.proofs.lemmas.Bool.{and_parts}

third : (a b c d : Bool) → (a && b && c && d) ≡ true → c ≡ true
third true true true d h = refl
third true true false d h = cc
third true false c d h = cc
third false b c d h = cc

sound_from : (t : Observers) (owner : Process) (a : Alert) → is_sound t owner a ≡ true → IsFrom owner t.id a
sound_from t owner a h =
    let own = and_parts (same_bytes a.observer owner) (is_well_formed t a) h in
    let config = third (nat_lt a.ring t.params.k) (observes t a.observer a.ring a.subject) (same_bytes a.config t.id) (kind_fits t a) own.1 in
    ((same_bytes_decides a.observer owner).0 own.0, (same_bytes_decides a.config t.id).0 config)

unflushed_from : (t : Observers) (owner : Process) (o : Outbox) → AreRaised t owner o.raised → All (IsFrom owner t.id) (unflushed o)
unflushed_from t owner o are =
    All-take (IsFrom owner t.id) 2048 (drop o.flushed o.raised)
    (All-drop (IsFrom owner t.id) o.flushed o.raised (λ i d l. sound_from t owner _ (are.sound i d l)))

batch_from : (P : Alert → Type 0) (xs : List Alert) (r : Option (List Alert)) → All P xs → r ≡ batch_of xs → IfSome r (λ ys. All P ys)
batch_from P xs None h e = tt
batch_from P [] (Some ys) h e = cc
batch_from P (x ∷ xs) (Some ys) h e = let same : x ∷ xs ≡ ys = cc in subst (All P) same h

-- the alerts of the batch that is flushed are the owner's for the configuration
pub flushed_from : (c : Configuration) (owner : Process) (o : Outbox) (r : Option (List Alert)) → AreRaised (observers_of c) owner o.raised → r ≡ batch_of (unflushed o) →
    IfSome r (λ xs. All (IsFrom owner (configuration_id c)) xs)
unfolding observers_of
flushed_from c owner o r are e = batch_from (IsFrom owner (configuration_id c)) (unflushed o) r (unflushed_from (observers_of c) owner o are) e

sends_at : (s : MemberState) (xs ys : List Alert) → Some ys ≡ batch_of xs → send_alerts s xs ≡ says_batch (record s { outbox = flush s.outbox }) ys
unfolding send_alerts
sends_at s [] ys e = cc
sends_at s (x ∷ xs) ys e =
    let same : x ∷ xs ≡ ys = cc in
    ap (λ (l : List Alert). says_batch (record s { outbox = flush s.outbox }) l) same

-- if there is a batch to flush, it goes out and is taken
pub sends_some : (s : MemberState) (ys : List Alert) → Some ys ≡ batch_of (unflushed s.outbox) → sends_batch s ≡ says_batch (record s { outbox = flush s.outbox }) ys
unfolding sends_batch
sends_some s ys e = sends_at s (unflushed s.outbox) ys e
