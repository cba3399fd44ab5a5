-- What a world stores in few bytes.
use Rattle.std.proofs.Common.{◌≡◌, ℕ, ◌<◌, Bool, false, List, [], ◌∷◌, ◌++◌, length, map, get_or, refl, sym, ap, ◌∙◌, Option, arith, append_assoc}
use Rattle.std.specs.Prelude.{All, flat_map}
use Rattle.std.proofs.lemmas.List.{map_push, flat_map_more, get_or_append_left, length-append, append-nil}
use Rattle.std.proofs.lemmas.List.Elements.{All-nil, All-head, All-tail, All-push, All-weaker}
use Rattle.rapid_model.specs.Process.{Process, identifier}
use Rattle.rapid_model.specs.Configuration.{Configuration}
use Rattle.rapid_model.specs.StoredWorld.{StoredWorld, with_event, unmarked}
use Rattle.rapid_model.specs.World.{WorldEvent, Start, Probe, Tick, Deliver, Crash, Leave, MarkedEvent}
use Rattle.rapid_world.specs.declared.stored.Started.{Started}
use Rattle.rapid_world.specs.declared.stored.StoredEvent.{StoredEvent}
use Rattle.rapid_world.specs.declared.stored.StoredEvent.TheVariants as stored
use Rattle.rapid_world.specs.Stored.{Names, Says, AreStored, IsWithin, is_start, starters_by, started_in, who_of, id_at, start_of, marked_in}

-- ---- a start more

last_is : (ss : List Started) (x d : Started) → get_or (ss ++ x ∷ []) (length ss) d ≡ x
last_is [] x d = refl
last_is (s ∷ ss) x d = last_is ss x d

who_more : (fs : List Process) (ss : List Started) (x : Started) → who_of fs (ss ++ x ∷ []) ≡ who_of fs ss ++ x.process ∷ []
who_more fs ss x = ap (λ (l : List Process). fs ++ l) (map_push (λ (y : Started). y.process) ss x) ∙ sym (append_assoc fs (map (λ (y : Started). y.process) ss) (x.process ∷ []))

id_still : (fs : List Process) (ss : List Started) (x : Started) (i : ℕ) → i < length (who_of fs ss) → id_at (who_of fs (ss ++ x ∷ [])) i ≡ id_at (who_of fs ss) i
id_still fs ss x i l = ap (λ (ps : List Process). id_at ps i) (who_more fs ss x) ∙ ap identifier (get_or_append_left (who_of fs ss) (x.process ∷ []) [] i l)

abbrev marked : Bool → WorldEvent → MarkedEvent
marked h e = record { event = e; halts = h }

-- what is stored says the same with a start more
still : (fs : List Process) (ss : List Started) (x : Started) (e : StoredEvent) → IsWithin fs ss e → marked_in fs (ss ++ x ∷ []) e ≡ marked_in fs ss e
still fs ss x (stored.Start h i) l = ap (λ (y : Started). marked h (start_of y)) (get_or_append_left ss (x ∷ []) _ i l)
still fs ss x (stored.Probe h ok k i) l = ap (λ (id : List ℕ). marked h (Probe id k ok)) (id_still fs ss x i l)
still fs ss x (stored.Tick h i) l = ap (λ (id : List ℕ). marked h (Tick id)) (id_still fs ss x i l)
still fs ss x (stored.Deliver h k) l = refl
still fs ss x (stored.Crash h i) l = ap (λ (id : List ℕ). marked h (Crash id)) (id_still fs ss x i l)
still fs ss x (stored.Leave h i) l = ap (λ (id : List ℕ). marked h (Leave id)) (id_still fs ss x i l)

all_still : (fs : List Process) (ss : List Started) (x : Started) (es : List StoredEvent) → All (IsWithin fs ss) es → map (marked_in fs (ss ++ x ∷ [])) es ≡ map (marked_in fs ss) es
all_still fs ss x [] within = refl
all_still fs ss x (e ∷ es) within =
    let one = still fs ss x e (All-head (IsWithin fs ss) e es within) in
    let others = all_still fs ss x es (All-tail (IsWithin fs ss) e es within) in
    λ i. one i ∷ others i

more_who : (fs : List Process) (ss : List Started) (x : Started) (i : ℕ) → i < length (who_of fs ss) → i < length (who_of fs (ss ++ x ∷ []))
more_who fs ss x i l = let more = ap length (who_more fs ss x) in let both = length-append (who_of fs ss) (x.process ∷ []) in omega (arith, l, more, both)

still_within : (fs : List Process) (ss : List Started) (x : Started) (e : StoredEvent) → IsWithin fs ss e → IsWithin fs (ss ++ x ∷ []) e
still_within fs ss x (stored.Start h i) l = let both = length-append ss (x ∷ []) in omega (arith, l, both)
still_within fs ss x (stored.Probe h ok k i) l = more_who fs ss x i l
still_within fs ss x (stored.Tick h i) l = more_who fs ss x i l
still_within fs ss x (stored.Deliver h k) l = tt
still_within fs ss x (stored.Crash h i) l = more_who fs ss x i l
still_within fs ss x (stored.Leave h i) l = more_who fs ss x i l

-- what is stored with a start more
pub start_says : (fs : List Process) (ss : List Started) (es : List StoredEvent) (x : Started) → AreStored fs ss es →
    map (marked_in fs (ss ++ x ∷ [])) (es ++ stored.Start false (length ss) ∷ []) ≡ map (marked_in fs ss) es ++ unmarked (start_of x) ∷ []
start_says fs ss es x are =
    map_push (marked_in fs (ss ++ x ∷ [])) es (stored.Start false (length ss))
    ∙ ap (λ (ms : List MarkedEvent). ms ++ marked_in fs (ss ++ x ∷ []) (stored.Start false (length ss)) ∷ []) (all_still fs ss x es are.within)
    ∙ ap (λ (y : Started). map (marked_in fs ss) es ++ unmarked (start_of y) ∷ []) (last_is ss x _)

starters_more : (ms : List MarkedEvent) (m : MarkedEvent) → flat_map (λ n. starters_by n.event) (ms ++ m ∷ []) ≡ flat_map (λ n. starters_by n.event) ms ++ starters_by m.event
starters_more ms m = sym (flat_map_more (λ (n : MarkedEvent). starters_by n.event) [] ms m)

pub start_stored : (fs : List Process) (ss : List Started) (es : List StoredEvent) (x : Started) → AreStored fs ss es → AreStored fs (ss ++ x ∷ []) (es ++ stored.Start false (length ss) ∷ [])
start_stored fs ss es x are =
    let both = length-append ss (x ∷ []) in
    record {
      within = All-push (IsWithin fs (ss ++ x ∷ [])) es (stored.Start false (length ss)) (All-weaker (IsWithin fs ss) (IsWithin fs (ss ++ x ∷ [])) (λ e l. still_within fs ss x e l) es are.within) (omega (arith, both));
      starters = ap (flat_map (λ (n : MarkedEvent). starters_by n.event)) (start_says fs ss es x are)
          ∙ starters_more (map (marked_in fs ss) es) (unmarked (start_of x))
          ∙ ap (λ (ps : List Process). ps ++ x.process ∷ []) are.starters
          ∙ sym (map_push (λ (y : Started). y.process) ss x);
    }

-- ---- another event more

pub no_start : (p : Option Process) (e : WorldEvent) → Names p e → is_start e ≡ false
no_start p (Start q seed) h = absurd h
no_start p (Probe id k ok) h = refl
no_start p (Tick id) h = refl
no_start p (Deliver k) h = refl
no_start p (Crash id) h = refl
no_start p (Leave id) h = refl

pub none_starts : (p : Option Process) (e : WorldEvent) → Names p e → starters_by e ≡ []
none_starts p (Start q seed) h = absurd h
none_starts p (Probe id k ok) h = refl
none_starts p (Tick id) h = refl
none_starts p (Deliver k) h = refl
none_starts p (Crash id) h = refl
none_starts p (Leave id) h = refl

pub event_says : (fs : List Process) (ss : List Started) (es : List StoredEvent) (x : StoredEvent) (m : MarkedEvent) → Says fs ss x m → map (marked_in fs ss) (es ++ x ∷ []) ≡ map (marked_in fs ss) es ++ m ∷ []
event_says fs ss es x m says = map_push (marked_in fs ss) es x ∙ ap (λ (n : MarkedEvent). map (marked_in fs ss) es ++ n ∷ []) says.says

pub event_stored : (fs : List Process) (ss : List Started) (es : List StoredEvent) (x : StoredEvent) (p : Option Process) (m : MarkedEvent) → AreStored fs ss es → Names p m.event → Says fs ss x m → AreStored fs ss (es ++ x ∷ [])
event_stored fs ss es x p m are names says =
    record {
      within = All-push (IsWithin fs ss) es x are.within says.within;
      starters = ap (flat_map (λ (n : MarkedEvent). starters_by n.event)) (event_says fs ss es x m says)
          ∙ starters_more (map (marked_in fs ss) es) m
          ∙ ap (λ (ps : List Process). flat_map (λ (n : MarkedEvent). starters_by n.event) (map (marked_in fs ss) es) ++ ps) (none_starts p m.event names)
          ∙ append-nil (flat_map (λ (n : MarkedEvent). starters_by n.event) (map (marked_in fs ss) es))
          ∙ are.starters;
    }

-- who started is as before
pub same_started : (s : StoredWorld) (m : MarkedEvent) (p : Option Process) → Names p m.event → started_in (with_event s m) ≡ started_in s
same_started s m p names =
    ap (λ (ps : List Process). s.founding.members ++ ps)
    (starters_more s.events m
    ∙ ap (λ (ps : List Process). flat_map (λ (n : MarkedEvent). starters_by n.event) s.events ++ ps) (none_starts p m.event names)
    ∙ append-nil (flat_map (λ (n : MarkedEvent). starters_by n.event) s.events))

-- one more started
pub one_started : (s : StoredWorld) (p : Process) (seed : List ℕ) → started_in (with_event s (unmarked (Start p seed))) ≡ started_in s ++ p ∷ []
one_started s p seed =
    ap (λ (ps : List Process). s.founding.members ++ ps) (starters_more s.events (unmarked (Start p seed)))
    ∙ sym (append_assoc s.founding.members (flat_map (λ (n : MarkedEvent). starters_by n.event) s.events) (p ∷ []))

-- all that ever started are the founders and those of the starts
pub who_is : (c : Configuration) (ss : List Started) (es : List StoredEvent) → AreStored c.members ss es → started_in (record { founding = c; events = map (marked_in c.members ss) es }) ≡ who_of c.members ss
who_is c ss es are = ap (λ (ps : List Process). c.members ++ ps) are.starters

-- nothing is stored
pub none_stored : (fs : List Process) → AreStored fs [] []
none_stored fs = record { within = All-nil (IsWithin fs []); starters = refl }
