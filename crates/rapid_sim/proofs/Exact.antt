-- If memory never runs out, `sim` prints what its definitions say.
use Rattle.std.proofs.Common.{◌≡◌, ℕ, zero, suc, Bool, true, false, cond, not, inl, inr, List, [], ◌∷◌, ◌++◌, refl, ap, sym, ◌∙◌, subst, arith, Option, Some, None, replicate}
use Rattle.rapid_model.specs.World as world
use Rattle.rapid_model.specs.World.{WorldEvent}
use Rattle.rapid_model.specs.Run.{WorldReport, step_reports}
use Rattle.rapid_model.specs.StoredWorld.{StoredWorld, StoresEvent, with_event, world_of, unmarked, wants_of}
use Rattle.rapid_model.specs.SimLine.{SimLine, Parameters, Found, Events, WrongTags, Lose, Deliver, Drop, Flow, Packets}
use Rattle.rapid_model.specs.Limits.{most_in_flow}
use Rattle.rapid_model.specs.SimText.{Simulation, SimState, Underway, Asked, Command, Said, asked, answer, after, printed, world_in, refused, reports_text, taking, taken_text, settling, losing, least_unsettled, can_reach, silent, event_then, do_events, deliver_then, next_then, do_flow, text_of_lines}
use Rattle.rapid_sim.specs.Wants.{IsSilent, EventPrints, EventsPrint, DeliveryPrints, IfHolds, NextPrints, FlowPrints, CommandPrints, LinePrints, LinesPrint}

-- An event without a mark leads to the world of the definitions, and reports what they say.
unmarked_stored : (s : Simulation) (e : WorldEvent) (next : StoredWorld) (reports : List WorldReport) (h : StoresEvent s.world next e reports) → wants_of h.halts ≡ 0
    → (record s { world = next } ≡ taking s e) × (reports_text reports ≡ taken_text s e)
unmarked_stored s e next reports h z =
    let f : h.halts ≡ false = unmarked_mark h.halts z in
    let stored : next ≡ with_event s.world (unmarked e) = h.stored ∙ ap (λ b. with_event s.world (record { event = e; halts = b })) f in
    let reported : reports ≡ step_reports (world_in s) (unmarked e) = h.reported ∙ ap (λ b. step_reports (world_of s.world) (record { event = e; halts = b })) f in
    (ap (λ w. record s { world = w }) stored, ap reports_text reported)
  where
    unmarked_mark : (b : Bool) → wants_of b ≡ 0 → b ≡ false
    unmarked_mark true z = absurd (omega arith)
    unmarked_mark false z = refl

-- What a text and a run are.
abbrev Are : List ℕ → Simulation → Said → Type 0
Are text t d = (text ≡ d.text) × (t ≡ d.run)

-- An event, and what follows it.
event_exact : (s : Simulation) (e : WorldEvent) (text : List ℕ) (t : Simulation) (goes_on : Simulation → List ℕ → ℕ → Type 0) (later : Said)
    → ((xs : List ℕ) → goes_on (taking s e) xs 0 → Are xs t later)
    → EventPrints s e text t 0 goes_on → Are text t (event_then s e (refused s e) later)
event_exact s e text t goes_on later h (inl r) = rw r.is (r.says, r.stays)
event_exact s e text t goes_on later h (inr (inl l)) = absurd (omega (arith, l.once))
event_exact s e text t goes_on later h (inr (inr k)) =
    let u = unmarked_stored s e k.next k.reports k.stores (omega (arith, k.counts)) in
    let none : k.later ≡ 0 = omega (arith, k.counts) in
    let more = h k.rest (subst (λ n. goes_on (taking s e) k.rest n) none (subst (λ x. goes_on x k.rest k.later) u.0 k.after)) in
    rw k.stores.not_refused (k.says ∙ ap (λ xs. xs ++ k.rest) u.1 ∙ ap (λ xs. taken_text s e ++ xs) more.0, more.1)

-- Events in turn.
pub events_exact : (s : Simulation) (es : List WorldEvent) (text : List ℕ) (t : Simulation) → EventsPrint s es text t 0 → Are text t (do_events s es)
unfolding EventsPrint do_events
events_exact s [] text t p = (p.says, p.stays)
events_exact s (e ∷ es) text t p = event_exact s e text t (λ next rest later. EventsPrint next es rest t later) (do_events (taking s e) es) (λ xs q. events_exact (taking s e) es xs t q) p

abbrev prints_reached : Simulation → ℕ → List ℕ → Simulation → (Simulation → List ℕ → ℕ → Type 0) → Bool → Type 0
prints_reached s k text t flow b = IfHolds b (EventPrints s (world.Deliver k) text t 0 (λ next rest later. flow (settling next k) rest later)) (flow (settling s k) text 0)

-- The next packet of a flow, and what follows it.
next_exact : (s : Simulation) (o : Option ℕ) (text : List ℕ) (t : Simulation) (flow : Simulation → List ℕ → ℕ → Type 0) (said : Simulation → Said)
    → ((u : Simulation) (xs : List ℕ) → flow u xs 0 → Are xs t (said u)) → NextPrints s o text t 0 flow → Are text t (next_then s o said)
next_exact s None text t flow said h p = (p.says, p.stays)
next_exact s (Some k) text t flow said h p = by (can_reach s k) p
  where
    by : (b : Bool) → prints_reached s k text t flow b → Are text t (cond (not b) (said (settling s k)) (deliver_then s k said))
    by false q = h (settling s k) text q
    by true q =
        event_exact s (world.Deliver k) text t (λ next rest later. flow (settling next k) rest later) (said (settling (taking s (world.Deliver k)) k))
        (λ xs r. h (settling (taking s (world.Deliver k)) k) xs r) q

-- A flow.
pub flow_exact : (n : ℕ) (s : Simulation) (text : List ℕ) (t : Simulation) → FlowPrints n s text t 0 → Are text t (do_flow n s)
unfolding FlowPrints do_flow
flow_exact zero s text t p = (p.says, p.stays)
flow_exact (suc n) s text t p = next_exact s (least_unsettled s) text t (λ next rest later. FlowPrints n next rest t later) (do_flow n) (λ u xs q. flow_exact n u xs t q) p

-- A delivery.
pub delivery_exact : (s : Simulation) (k : ℕ) (text : List ℕ) (t : Simulation) → DeliveryPrints s k text t 0 → Are text t (deliver_then s k silent)
delivery_exact s k text t p =
    event_exact s (world.Deliver k) text t (λ next rest later. IsSilent (settling next k) rest t later) (silent (settling (taking s (world.Deliver k)) k)) (λ xs q. (q.says, q.stays)) p

-- A command that makes events.
command_exact : (s : Simulation) (c : SimLine) (text : List ℕ) (t : Simulation) → CommandPrints s c text t 0 → (text ≡ printed (Underway s) (Command c)) × (Underway t ≡ after (Underway s) (Command c))
unfolding answer
command_exact s (Events e n) text t p = let h = events_exact s (replicate n e) text t p in (h.0, ap Underway h.1)
command_exact s (Lose id) text t p = let h = events_exact s (losing (world_in s) id) text t p in (h.0, ap Underway h.1)
command_exact s (Deliver k) text t p = let h = delivery_exact s k text t p in (h.0, ap Underway h.1)
command_exact s Flow text t p = let h = flow_exact most_in_flow s text t p in (h.0, ap Underway h.1)
command_exact s (Parameters params) text t p = absurd p
command_exact s (Found founders) text t p = absurd p
command_exact s (WrongTags r) text t p = absurd p
command_exact s (Drop k) text t p = absurd p
command_exact s Packets text t p = absurd p

-- A line.
line_exact : (s : SimState) (a : Asked) (text : List ℕ) (t : SimState) → LinePrints s a text t 0 → (text ≡ printed s a) × (t ≡ after s a)
line_exact s a text t (inl p) = (p.says, p.goes_to)
line_exact s a text t (inr p) =
    let h = command_exact p.old p.command text p.new p.prints in (
      h.0 ∙ ap (printed (Underway p.old)) (sym p.asks) ∙ ap (λ x. printed x a) (sym p.from),
      p.to ∙ h.1 ∙ ap (after (Underway p.old)) (sym p.asks) ∙ ap (λ x. after x a) (sym p.from),
    )

-- Lines.
pub lines_exact : (s : SimState) (ls : List (List ℕ)) (text : List ℕ) → LinesPrint s ls text 0 → text ≡ text_of_lines s ls
unfolding LinesPrint
lines_exact s [] text p = p.0
lines_exact s (line ∷ ls) text p =
    let first : p.first ≡ 0 = omega (arith, p.counts) in
    let later : p.later ≡ 0 = omega (arith, p.counts) in
    let h = line_exact s (asked line) p.said p.next (subst (λ n. LinePrints s (asked line) p.said p.next n) first p.prints) in
    let rest = lines_exact p.next ls p.rest (subst (λ n. LinesPrint p.next ls p.rest n) later p.after) in
    p.says ∙ ap (λ xs. xs ++ p.rest) h.0 ∙ ap (λ xs. printed s (asked line) ++ xs) (rest ∙ ap (λ x. text_of_lines x ls) h.1)
