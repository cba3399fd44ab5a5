-- How events, one after another, come to what is to be done.
use Rattle.std.proofs.Common.{◌≡◌, ℕ, zero, suc, ◌+◌, ◌<◌, ◌≤◌, add-one, Bool, true, false, ◌⊎◌, inl, inr, List, [], ◌∷◌, ◌++◌, append_assoc, append-nil, length, get_or, drop, map, refl, ap, sym, ◌∙◌, subst, arith, Some, None}
use Rattle.rapid_model.specs.World as world
use Rattle.rapid_model.specs.World.{WorldEvent, MarkedEvent}
use Rattle.rapid_model.specs.StoredWorld.{wants_of}
use Rattle.rapid_model.specs.Refusal as faults
use Rattle.rapid_model.specs.SimText.{Simulation, SimState, Underway, Asked, Nothing, Command, answer, after, printed, refused, reports_text, settling, least_unsettled, can_reach}
use Rattle.rapid_model.specs.SimLine.{SimLine}
use Rattle.rapid_world.specs.Events.{Refuses, error_wants}
use Rattle.rapid_world.specs.declared.error.WorldError.{WorldError}
use Rattle.rapid_world.specs.declared.error.WorldError.TheVariants.{IdentifierUsed, EndpointBusy, NoSuchNode, NoSuchPacket, NotObserved, EventsFull, OutOfMemory}
use Rattle.rapid_sim.specs.Wants.{IsSilent, IsRefused, LacksMemory, IsTaken, EventPrints, EventsPrint, DeliveryPrints, FlowPrints, CommandPrints}
use Rattle.rapid_sim.specs.Progress.{GoesOn, IsDone, IsAnswered, IsAnsweredExactly, WasTaken, WasStopped, HasStepped, HasFlowed, error_text}

adds : (a b c : ℕ) → a + (b + c) ≡ (a + b) + c
adds a b c = omega arith

-- ---- one event

-- What was accepted, and what was not.
pub was_taken : (old new : Simulation) (e : WorldEvent) (before after : List ℕ) (met now : ℕ) (b : Bool) → b ≡ true → HasStepped old new e before after met now b → WasTaken old new e before after met now
was_taken old new e before after met now true is h = h
was_taken old new e before after met now false is h = absurd cc

pub was_stopped : (old new : Simulation) (e : WorldEvent) (before after : List ℕ) (met now : ℕ) (b : Bool) → b ≡ false → HasStepped old new e before after met now b → WasStopped old new e before after met now
was_stopped old new e before after met now false is h = h
was_stopped old new e before after met now true is h = absurd cc

-- Why an event was refused, or that there was no memory for it.
pub stops : (s : Simulation) (e : WorldEvent) (error : WorldError) → Refuses (refused s e) error
    → IsRefused s e (error_text error) s (error_wants error) ⊎ LacksMemory s e (error_text error) s (error_wants error)
stops s e IdentifierUsed h = inl (record { reason = faults.IdentifierUsed; is = h; says = refl; stays = refl; none = refl })
stops s e EndpointBusy h = inl (record { reason = faults.EndpointBusy; is = h; says = refl; stays = refl; none = refl })
stops s e NoSuchNode h = inl (record { reason = faults.NoSuchNode; is = h; says = refl; stays = refl; none = refl })
stops s e NoSuchPacket h = inl (record { reason = faults.NoSuchPacket; is = h; says = refl; stays = refl; none = refl })
stops s e NotObserved h = inl (record { reason = faults.NotObserved; is = h; says = refl; stays = refl; none = refl })
stops s e EventsFull h = inl (record { reason = faults.EventsFull; is = h; says = refl; stays = refl; none = refl })
stops s e OutOfMemory h = inr (record { allowed = h; says = refl; stays = refl; once = refl })

-- ---- what follows

-- Nothing was done yet.
pub goes_first : (all : List ℕ → Simulation → ℕ → Type 0) (before : List ℕ) (met : ℕ) → GoesOn all all before before met met
goes_first all before met = record { said = []; wants = 0; appended = sym (append-nil before); counted = omega arith; goes_on = λ text t later k. let e : later ≡ 0 + later = omega arith in subst (all text t) e k }

-- An event was accepted.
pub goes_taken : (all : List ℕ → Simulation → ℕ → Type 0) (s new : Simulation) (e : WorldEvent) (K : Simulation → List ℕ → Simulation → ℕ → Type 0) (before middle after : List ℕ) (met between now : ℕ)
    → GoesOn all (λ text t w. EventPrints s e text t w (λ next rest later. K next rest t later)) before middle met between → WasTaken s new e middle after between now → GoesOn all (K new) before after met now
goes_taken all s new e K before middle after met between now g w =
    record {
      said = g.said ++ reports_text w.reports;
      wants = g.wants + wants_of w.stores.halts;
      appended = w.appended ∙ ap (λ xs. xs ++ reports_text w.reports) g.appended ∙ append_assoc before g.said (reports_text w.reports);
      counted = w.counted ∙ ap (λ n. n + wants_of w.stores.halts) g.counted ∙ sym (adds met g.wants (wants_of w.stores.halts));
      goes_on = λ text t later k.
          let taken : IsTaken s e (reports_text w.reports ++ text) (wants_of w.stores.halts + later) (λ next rest l. K next rest t l) =
          record { next = w.next; reports = w.reports; stores = w.stores; rest = text; later = later; says = refl; counts = refl; after = subst (λ x. K x text t later) w.becomes k } in
          subst (λ n. all ((g.said ++ reports_text w.reports) ++ text) t n) (adds g.wants (wants_of w.stores.halts) later)
          (subst (λ xs. all xs t (g.wants + (wants_of w.stores.halts + later))) (sym (append_assoc g.said (reports_text w.reports) text))
          (g.goes_on (reports_text w.reports ++ text) t (wants_of w.stores.halts + later) (inr (inr taken))));
    }

-- An event was not accepted.
pub done_stopped : (all : List ℕ → Simulation → ℕ → Type 0) (s new : Simulation) (e : WorldEvent) (K : Simulation → List ℕ → Simulation → ℕ → Type 0) (before middle after : List ℕ) (met between now : ℕ)
    → GoesOn all (λ text t w. EventPrints s e text t w (λ next rest later. K next rest t later)) before middle met between → WasStopped s new e middle after between now → IsDone all new before after met now
done_stopped all s new e K before middle after met between now g w =
    record {
      said = g.said ++ w.said;
      wants = g.wants + w.wants;
      appended = w.appended ∙ ap (λ xs. xs ++ w.said) g.appended ∙ append_assoc before g.said w.said;
      counted = w.counted ∙ ap (λ n. n + w.wants) g.counted ∙ sym (adds met g.wants w.wants);
      prints = g.goes_on w.said new w.wants (either w.prints);
    }
  where
    either : IsRefused s e w.said new w.wants ⊎ LacksMemory s e w.said new w.wants → EventPrints s e w.said new w.wants (λ next rest later. K next rest new later)
    either (inl r) = inl r
    either (inr l) = inr (inl l)

-- Nothing is left to be done.
pub done_silent : (all : List ℕ → Simulation → ℕ → Type 0) (s : Simulation) (before after : List ℕ) (met now : ℕ) → GoesOn all (IsSilent s) before after met now → IsDone all s before after met now
done_silent all s before after met now g =
    let e : g.wants + 0 ≡ g.wants = omega arith in
    record {
      said = g.said;
      wants = g.wants;
      appended = g.appended;
      counted = g.counted;
      prints = subst (all g.said s) e (subst (λ xs. all xs s (g.wants + 0)) (append-nil g.said) (g.goes_on [] s 0 (record { says = refl; stays = refl; none = refl })));
    }

-- ---- events in turn

pub events_taken : (all : List ℕ → Simulation → ℕ → Type 0) (s new : Simulation) (e : WorldEvent) (es : List WorldEvent) (before middle after : List ℕ) (met between now : ℕ)
    → GoesOn all (EventsPrint s (e ∷ es)) before middle met between → WasTaken s new e middle after between now → GoesOn all (EventsPrint new es) before after met now
unfolding EventsPrint
events_taken all s new e es before middle after met between now g w = goes_taken all s new e (λ next rest t later. EventsPrint next es rest t later) before middle after met between now g w

pub events_stopped : (all : List ℕ → Simulation → ℕ → Type 0) (s new : Simulation) (e : WorldEvent) (es : List WorldEvent) (before middle after : List ℕ) (met between now : ℕ)
    → GoesOn all (EventsPrint s (e ∷ es)) before middle met between → WasStopped s new e middle after between now → IsDone all new before after met now
unfolding EventsPrint
events_stopped all s new e es before middle after met between now g w = done_stopped all s new e (λ next rest t later. EventsPrint next es rest t later) before middle after met between now g w

pub events_end : (all : List ℕ → Simulation → ℕ → Type 0) (s : Simulation) (before after : List ℕ) (met now : ℕ) → GoesOn all (EventsPrint s []) before after met now → IsDone all s before after met now
unfolding EventsPrint
events_end all s before after met now g = done_silent all s before after met now g

-- ---- a flow

pub flow_none : (s : Simulation) (n : ℕ) (before : List ℕ) (met : ℕ) → least_unsettled s ≡ None → IsDone (FlowPrints (suc n) s) s before before met met
unfolding FlowPrints
flow_none s n before met is =
    record { said = []; wants = 0; appended = sym (append-nil before); counted = omega arith; prints = rw is (record { says = refl; stays = refl; none = refl }) }

pub flow_passes : (s : Simulation) (k n : ℕ) (before : List ℕ) (met : ℕ) → least_unsettled s ≡ Some k → can_reach s k ≡ false → GoesOn (FlowPrints (suc n) s) (FlowPrints n (settling s k)) before before met met
unfolding FlowPrints
flow_passes s k n before met is cannot =
    record {
      said = [];
      wants = 0;
      appended = sym (append-nil before);
      counted = omega arith;
      goes_on = λ text t later p. let e : later ≡ 0 + later = omega arith in rw (is, cannot) (subst (FlowPrints n (settling s k) text t) e p);
    }

flow_reaches : (s : Simulation) (k n : ℕ) (before : List ℕ) (met : ℕ) → least_unsettled s ≡ Some k → can_reach s k ≡ true
    → GoesOn (FlowPrints (suc n) s) (λ text t w. EventPrints s (world.Deliver k) text t w (λ next rest later. FlowPrints n (settling next k) rest t later)) before before met met
unfolding FlowPrints
flow_reaches s k n before met is can =
    record {
      said = [];
      wants = 0;
      appended = sym (append-nil before);
      counted = omega arith;
      goes_on = λ text t later p.
          let e : later ≡ 0 + later = omega arith in
          rw (is, can) (subst (λ w. EventPrints s (world.Deliver k) text t w (λ next rest l. FlowPrints n (settling next k) rest t l)) e p);
    }

pub flow_taken : (s new : Simulation) (k n : ℕ) (before after : List ℕ) (met now : ℕ) → least_unsettled s ≡ Some k → can_reach s k ≡ true → WasTaken s new (world.Deliver k) before after met now
    → GoesOn (FlowPrints (suc n) s) (FlowPrints n (settling new k)) before after met now
flow_taken s new k n before after met now is can w =
    goes_taken (FlowPrints (suc n) s) s new (world.Deliver k) (λ next rest t later. FlowPrints n (settling next k) rest t later) before before after met met now (flow_reaches s k n before met is can) w

pub flow_stopped : (s new : Simulation) (k n : ℕ) (before after : List ℕ) (met now : ℕ) → least_unsettled s ≡ Some k → can_reach s k ≡ true → WasStopped s new (world.Deliver k) before after met now
    → IsDone (FlowPrints (suc n) s) new before after met now
flow_stopped s new k n before after met now is can w =
    done_stopped (FlowPrints (suc n) s) s new (world.Deliver k) (λ next rest t later. FlowPrints n (settling next k) rest t later) before before after met met now (flow_reaches s k n before met is can) w

-- One more packet was settled.
pub flow_more : (all : List ℕ → Simulation → ℕ → Type 0) (s new : Simulation) (n : ℕ) (before middle after : List ℕ) (met between now : ℕ)
    → GoesOn all (FlowPrints (suc n) s) before middle met between → GoesOn (FlowPrints (suc n) s) (FlowPrints n new) middle after between now → GoesOn all (FlowPrints n new) before after met now
flow_more all s new n before middle after met between now g h =
    record {
      said = g.said ++ h.said;
      wants = g.wants + h.wants;
      appended = h.appended ∙ ap (λ xs. xs ++ h.said) g.appended ∙ append_assoc before g.said h.said;
      counted = h.counted ∙ ap (λ m. m + h.wants) g.counted ∙ sym (adds met g.wants h.wants);
      goes_on = λ text t later k.
          subst (λ m. all ((g.said ++ h.said) ++ text) t m) (adds g.wants h.wants later)
          (subst (λ xs. all xs t (g.wants + (h.wants + later))) (sym (append_assoc g.said h.said text)) (g.goes_on (h.said ++ text) t (h.wants + later) (h.goes_on text t later k)));
    }

pub flow_done : (all : List ℕ → Simulation → ℕ → Type 0) (s new : Simulation) (n : ℕ) (before middle after : List ℕ) (met between now : ℕ)
    → GoesOn all (FlowPrints (suc n) s) before middle met between → IsDone (FlowPrints (suc n) s) new middle after between now → IsDone all new before after met now
flow_done all s new n before middle after met between now g h =
    record {
      said = g.said ++ h.said;
      wants = g.wants + h.wants;
      appended = h.appended ∙ ap (λ xs. xs ++ h.said) g.appended ∙ append_assoc before g.said h.said;
      counted = h.counted ∙ ap (λ m. m + h.wants) g.counted ∙ sym (adds met g.wants h.wants);
      prints = g.goes_on h.said new h.wants h.prints;
    }

pub flow_end : (all : List ℕ → Simulation → ℕ → Type 0) (s : Simulation) (before after : List ℕ) (met now : ℕ) → GoesOn all (FlowPrints 0 s) before after met now → IsDone all s before after met now
unfolding FlowPrints
flow_end all s before after met now g = done_silent all s before after met now g

-- ---- a delivery

pub delivery_taken : (s new : Simulation) (k : ℕ) (before after : List ℕ) (met now : ℕ) → WasTaken s new (world.Deliver k) before after met now → IsDone (DeliveryPrints s k) (settling new k) before after met now
delivery_taken s new k before after met now w =
    done_silent (DeliveryPrints s k) (settling new k) before after met now
    (goes_taken (DeliveryPrints s k) s new (world.Deliver k) (λ next rest t later. IsSilent (settling next k) rest t later) before before after met met now (goes_first (DeliveryPrints s k) before met) w)

pub delivery_stopped : (s new : Simulation) (k : ℕ) (before after : List ℕ) (met now : ℕ) → WasStopped s new (world.Deliver k) before after met now → IsDone (DeliveryPrints s k) new before after met now
delivery_stopped s new k before after met now w =
    done_stopped (DeliveryPrints s k) s new (world.Deliver k) (λ next rest t later. IsSilent (settling next k) rest t later) before before after met met now (goes_first (DeliveryPrints s k) before met) w

-- ---- lines

-- A line that is answered exactly.
pub answered_exactly : (old new : SimState) (a : Asked) (before output : List ℕ) (met now : ℕ) → IsAnsweredExactly old new a before output → now ≡ met → IsAnswered old new a before output met now
answered_exactly old new a before output met now h same =
    record {
      said = printed old a;
      wants = 0;
      appended = h.appended;
      counted = omega (arith, same);
      prints = inl (record { says = refl; goes_to = h.goes_to; none = refl });
    }

-- A line that makes events.
pub answered_events : (old new : Simulation) (c : SimLine) (before after : List ℕ) (met now : ℕ) → IsDone (CommandPrints old c) new before after met now → IsAnswered (Underway old) (Underway new) (Command c) before after met now
answered_events old new c before after met now h =
    record {
      said = h.said;
      wants = h.wants;
      appended = h.appended;
      counted = h.counted;
      prints = inr (record { old = old; new = new; command = c; from = refl; asks = refl; to = refl; prints = h.prints });
    }

-- An event at a place, and those after it.
pub drop_event : {X Y : Type 0} (f : X → Y) (xs : List X) (i : ℕ) (x : X) → i < length xs → x ≡ get_or xs i x → map f (drop i xs) ≡ f x ∷ map f (drop (i + 1) xs)
drop_event f [] i x h is = absurd (omega arith)
drop_event f (y ∷ ys) zero x h is = ap (λ z. f z ∷ map f ys) (sym is)
drop_event f (y ∷ ys) (suc i) x h is = rw add-one (drop_event f ys i x (omega arith) is ∙ ap (λ n. f x ∷ map f (drop n ys)) (add-one i))

pub drop_none : {X Y : Type 0} (f : X → Y) (xs : List X) (i : ℕ) → length xs ≤ i → map f (drop i xs) ≡ []
drop_none f [] zero h = refl
drop_none f [] (suc i) h = refl
drop_none f (y ∷ ys) zero h = absurd (omega arith)
drop_none f (y ∷ ys) (suc i) h = drop_none f ys i (omega arith)

-- A flow goes on, or has ended.
pub has_flowed : (old new : Simulation) (before after : List ℕ) (met now : ℕ) (b : Bool) → b ≡ true → HasFlowed old new before after met now b → (n : ℕ) → GoesOn (FlowPrints (suc n) old) (FlowPrints n new) before after met now
has_flowed old new before after met now true is h = h
has_flowed old new before after met now false is h = absurd cc

pub has_ended : (old new : Simulation) (before after : List ℕ) (met now : ℕ) (b : Bool) → b ≡ false → HasFlowed old new before after met now b → (n : ℕ) → IsDone (FlowPrints (suc n) old) new before after met now
has_ended old new before after met now false is h = h
has_ended old new before after met now true is h = absurd cc

-- So too for what is known to be the command.
pub answered_as : (old new : Simulation) (a c : SimLine) (before after : List ℕ) (met now : ℕ) → a ≡ c → IsDone (CommandPrints old c) new before after met now → IsAnswered (Underway old) (Underway new) (Command a) before after met now
answered_as old new a c before after met now e h =
    subst (λ x. IsAnswered (Underway old) (Underway new) (Command x) before after met now) (sym e) (answered_events old new c before after met now h)

-- A line that is skipped.
pub answered_nothing : (s : SimState) (a : Asked) (before : List ℕ) (met : ℕ) → a ≡ Nothing → IsAnswered s s a before before met met
unfolding answer
answered_nothing s a before met is =
    subst (λ x. IsAnswered s s x before before met met) (sym is) (answered_exactly s s Nothing before before met met (record { appended = sym (append-nil before); goes_to = refl }) refl)
