-- Runs of a world with an event more.
use Rattle.std.proofs.Common.{◌≡◌, ℕ, suc, ◌+◌, ◌-◌, Bool, true, false, cond, List, [], ◌∷◌, ◌++◌, length, slice_get, length-append, refl, sym, ap, subst, ◌∙◌, Some, None, arith}
use Rattle.std.specs.Prelude.{is_some}
use Rattle.rapid_model.specs.World as model
use Rattle.rapid_model.specs.World.{MarkedEvent}
use Rattle.rapid_model.specs.Refusal as refusal
use Rattle.rapid_model.specs.Run.{WorldReport}
use Rattle.rapid_model.specs.StoredWorld.{StoredWorld, StoresEvent, RunsTo, ends, accepts, refuses, lacks_memory, event_refusal, with_event, unmarked, wants_of, run_by, mark_of, last_mark}
use Rattle.rapid_world.specs.declared.error.WorldError.{WorldError}
use Rattle.rapid_world.specs.declared.error.WorldError.TheVariants.{IdentifierUsed, EndpointBusy, NoSuchNode, NoSuchPacket, NotObserved, EventsFull, OutOfMemory}
use Rattle.rapid_world.specs.Events.{Refuses, error_wants}

-- ---- an event more

-- the counts of a run, read otherwise
counted : (s t : StoredWorld) (es : List model.WorldEvent) (n m v w : ℕ) → n ≡ m → v ≡ w → RunsTo s es n v t → RunsTo s es m w t
counted s t es n m v w e f run = subst (λ k. RunsTo s es k w t) e (subst (λ k. RunsTo s es n k t) f run)

one_accepted : (s t u : StoredWorld) (es : List model.WorldEvent) (n w : ℕ) (e : model.WorldEvent) (r : List WorldReport) → RunsTo s es n w t → (stores : StoresEvent t u e r) → RunsTo s (es ++ e ∷ []) (n + 1) (w + wants_of stores.halts) u
one_accepted _ _ u _ _ _ e r (ends s) stores =
    counted s u (e ∷ []) 1 (0 + 1) (wants_of stores.halts + 0) (0 + wants_of stores.halts) refl (omega arith) (accepts s u u e r [] 0 0 stores (ends u))
one_accepted _ _ u _ _ _ e r (accepts s next t f rs es n w first rest) stores =
    counted s u (f ∷ (es ++ e ∷ [])) (suc (n + 1)) (suc n + 1) (wants_of first.halts + (w + wants_of stores.halts)) ((wants_of first.halts + w) + wants_of stores.halts) (omega arith) (omega arith)
    (accepts s next u f rs (es ++ e ∷ []) (n + 1) (w + wants_of stores.halts) first (one_accepted next t u es n w e r rest stores))
one_accepted _ _ u _ _ _ e r (refuses s t f why es n w bars rest) stores = refuses s u f why (es ++ e ∷ []) (n + 1) (w + wants_of stores.halts) bars (one_accepted s t u es n w e r rest stores)
one_accepted _ _ u _ _ _ e r (lacks_memory s t f es n w may rest) stores =
    counted s u (f ∷ (es ++ e ∷ [])) (n + 1) (n + 1) (suc (w + wants_of stores.halts)) (suc w + wants_of stores.halts) refl (omega arith)
    (lacks_memory s u f (es ++ e ∷ []) (n + 1) (w + wants_of stores.halts) may (one_accepted s t u es n w e r rest stores))

one_refused : (s t : StoredWorld) (es : List model.WorldEvent) (n w : ℕ) (e : model.WorldEvent) (r : refusal.WorldRefusal) → RunsTo s es n w t → event_refusal t e ≡ Some r → RunsTo s (es ++ e ∷ []) n w t
one_refused _ _ _ _ _ e r (ends s) bars = refuses s s e r [] 0 0 bars (ends s)
one_refused _ _ _ _ _ e r (accepts s next t f rs es n w first rest) bars = accepts s next t f rs (es ++ e ∷ []) n w first (one_refused next t es n w e r rest bars)
one_refused _ _ _ _ _ e r (refuses s t f why es n w g rest) bars = refuses s t f why (es ++ e ∷ []) n w g (one_refused s t es n w e r rest bars)
one_refused _ _ _ _ _ e r (lacks_memory s t f es n w may rest) bars = lacks_memory s t f (es ++ e ∷ []) n w may (one_refused s t es n w e r rest bars)

one_lacking : (s t : StoredWorld) (es : List model.WorldEvent) (n w : ℕ) (e : model.WorldEvent) → RunsTo s es n w t → event_refusal t e ≡ None → RunsTo s (es ++ e ∷ []) n (w + 1) t
one_lacking _ _ _ _ _ e (ends s) lacks = lacks_memory s s e [] 0 0 lacks (ends s)
one_lacking _ _ _ _ _ e (accepts s next t f rs es n w first rest) lacks =
    counted s t (f ∷ (es ++ e ∷ [])) (suc n) (suc n) (wants_of first.halts + (w + 1)) ((wants_of first.halts + w) + 1) refl (omega arith)
    (accepts s next t f rs (es ++ e ∷ []) n (w + 1) first (one_lacking next t es n w e rest lacks))
one_lacking _ _ _ _ _ e (refuses s t f why es n w g rest) lacks = refuses s t f why (es ++ e ∷ []) n (w + 1) g (one_lacking s t es n w e rest lacks)
one_lacking _ _ _ _ _ e (lacks_memory s t f es n w may rest) lacks =
    counted s t (f ∷ (es ++ e ∷ [])) n n (suc (w + 1)) (suc w + 1) refl (omega arith) (lacks_memory s t f (es ++ e ∷ []) n (w + 1) may (one_lacking s t es n w e rest lacks))

at_end : (es : List MarkedEvent) (m : MarkedEvent) → slice_get (es ++ m ∷ []) (length es) ≡ Some m
at_end [] m = refl
at_end (x ∷ es) m = at_end es m

last_of : (es : List MarkedEvent) (m : MarkedEvent) → mark_of (slice_get (es ++ m ∷ []) (length (es ++ m ∷ []) - 1)) ≡ m.halts
last_of es m =
    let e : length (es ++ m ∷ []) - 1 ≡ length es = omega (arith, length-append es (m ∷ [])) in
    ap (λ n. mark_of (slice_get (es ++ m ∷ []) n)) e ∙ ap mark_of (at_end es m)

-- the last mark is that of the event that was stored last
pub mark_stored : (old new : StoredWorld) (e : model.WorldEvent) (reports : List WorldReport) (h : StoresEvent old new e reports) → last_mark new.events ≡ h.halts
unfolding last_mark
mark_stored old new e reports h = ap (λ (s : StoredWorld). mark_of (slice_get s.events (length s.events - 1))) h.stored ∙ last_of old.events (record { event = e; halts = h.halts })

-- an event more that is accepted
pub one_taken : (s t u : StoredWorld) (es : List model.WorldEvent) (n w wants : ℕ) (e : model.WorldEvent) (r : List WorldReport) → RunsTo s es n w t → (stores : StoresEvent t u e r) → wants ≡ wants_of (last_mark u.events) →
    RunsTo s (es ++ e ∷ []) (n + 1) (w + wants) u
one_taken s t u es n w wants e r run stores is = subst (λ k. RunsTo s (es ++ e ∷ []) (n + 1) (w + k) u) (sym (is ∙ ap wants_of (mark_stored t u e r stores))) (one_accepted s t u es n w e r run stores)

-- an event more that is skipped
pub one_passed : (s t : StoredWorld) (es : List model.WorldEvent) (n w : ℕ) (e : model.WorldEvent) (why : WorldError) → RunsTo s es n w t → Refuses (event_refusal t e) why → RunsTo s (es ++ e ∷ []) (n + 0) (w + error_wants why) t
one_passed s t es n w e why run bars = by why bars
  where
    refused : (r : refusal.WorldRefusal) → event_refusal t e ≡ Some r → RunsTo s (es ++ e ∷ []) (n + 0) (w + 0) t
    refused r h = counted s t (es ++ e ∷ []) n (n + 0) w (w + 0) (omega arith) (omega arith) (one_refused s t es n w e r run h)

    by : (why : WorldError) → Refuses (event_refusal t e) why → RunsTo s (es ++ e ∷ []) (n + 0) (w + error_wants why) t
    by IdentifierUsed h = refused refusal.IdentifierUsed h
    by EndpointBusy h = refused refusal.EndpointBusy h
    by NoSuchNode h = refused refusal.NoSuchNode h
    by NoSuchPacket h = refused refusal.NoSuchPacket h
    by NotObserved h = refused refusal.NotObserved h
    by EventsFull h = refused refusal.EventsFull h
    by OutOfMemory h = counted s t (es ++ e ∷ []) n (n + 0) (w + 1) (w + 1) (omega arith) refl (one_lacking s t es n w e run h)

-- ---- if memory ran out 0 times

pub run_exact : (s t : StoredWorld) (es : List model.WorldEvent) (n w : ℕ) → RunsTo s es n w t → w ≡ 0 → t ≡ run_by s es
run_exact _ _ _ _ _ (ends s) z = refl
run_exact _ _ _ _ _ (accepts s next t e r es n w stores rest) z =
    run_exact next t es n w rest (omega (arith, z)) ∙ ap (λ x. run_by x es) (stored ∙ sym (ap (λ o. cond (is_some o) s (with_event s (unmarked e))) stores.not_refused))
  where
    unmarked_mark : (b : Bool) → wants_of b ≡ 0 → b ≡ false
    unmarked_mark true z = absurd (omega arith)
    unmarked_mark false z = refl

    stored : next ≡ with_event s (unmarked e)
    stored = stores.stored ∙ ap (λ b. with_event s (record { event = e; halts = b })) (unmarked_mark stores.halts (omega (arith, z)))
run_exact _ _ _ _ _ (refuses s t e why es n w bars rest) z = run_exact s t es n w rest z ∙ ap (λ x. run_by x es) (sym (ap (λ o. cond (is_some o) s (with_event s (unmarked e))) bars))
run_exact _ _ _ _ _ (lacks_memory s t e es n w may rest) z = absurd (omega (arith, z))
