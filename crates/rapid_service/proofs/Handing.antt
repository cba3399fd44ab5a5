-- Steps of the desk of a service, one after another.
use Rattle.std.proofs.Common.{◌≡◌, ℕ, zero, suc, ◌+◌, add-one, ◌<◌, List, [], ◌∷◌, ◌++◌, append-nil, append_assoc, length, take, get_or, Option, Result, Ok, Err, OnOk, OnErr, IfErr, inl, inr, refl, ap, ap₂, sym, subst, ◌∙◌, arith}
use Rattle.rapid_model.specs.Bytes.{ConfigurationId}
use Rattle.rapid_model.specs.Process.{Process}
use Rattle.rapid_model.specs.Node.{Event, Output, configuration_of, has_installed}
use Rattle.rapid_desk.specs.Desks.{DeskValue, Announced}
use Rattle.rapid_service.specs.HandingOn.{down_on, downs_from}
use Rattle.rapid_service.specs.Stepping.{HasStepped, Steps, Tells, AllInTurn, OneFails}

-- What was put is the same for a desk with the same node and the same subscriptions before.
pub tells_since : (old before new : DeskValue) → before.state.node ≡ old.state.node → before.subscriptions ≡ old.subscriptions → Tells before new → Tells old new
tells_since old before new n s told =
    subst (λ served. Announced (has_installed old.state.node new.state.node) (configuration_of new.state.node) served new.subscriptions) s
    (subst (λ node. Announced (has_installed node new.state.node) (configuration_of new.state.node) before.subscriptions new.subscriptions) n told)

-- A step is the same if nothing but its seats changes afterwards.
pub stepped : (old mid new : DeskValue) (event : Event) (sent : List Output) → new.state ≡ mid.state → new.subscriptions ≡ mid.subscriptions → HasStepped old.state event mid.state sent → Tells old mid → Steps old event new
stepped old mid new event sent s k made told =
    record {
      made = (sent, subst (λ state. HasStepped old.state event state sent) (sym s) made);
      told =
          subst (λ state. Announced (has_installed old.state.node state.node) (configuration_of state.node) old.subscriptions new.subscriptions) (sym s)
          (subst (λ served. Announced (has_installed old.state.node mid.state.node) (configuration_of mid.state.node) old.subscriptions served) (sym k) told);
    }

-- What holds at all holds on Ok.
pub on_ok : {E P : Type 0} (r : Result (Unit {0}) E) → P → OnOk r P
on_ok (Ok u) p = p
on_ok (Err e) p = tt

downs_suc : (id : ConfigurationId) (first n ring : ℕ) (downs : List (Option Process)) (down : Option Process) → n < length downs → ring ≡ first + n → down ≡ get_or downs n down →
    downs_from id first (take (suc n) downs) ≡ downs_from id first (take n downs) ++ down_on id ring down
downs_suc id first n ring [] down l e is = absurd (omega arith)
downs_suc id first zero ring (d ∷ downs) down l e is =
    let here : first ≡ ring = omega arith in
    append-nil (down_on id first d) ∙ ap₂ (down_on id) here (sym is)
downs_suc id first (suc n) ring (d ∷ downs) down l e is =
    ap (λ events. down_on id first d ++ events) (downs_suc id (first + 1) n ring downs down (omega arith) (omega arith) is)
    ∙ sym (append_assoc (down_on id first d) (downs_from id (first + 1) (take n downs)) (down_on id ring down))

-- One more ring.
pub downs_more : (id : ConfigurationId) (first n ring : ℕ) (downs : List (Option Process)) (down : Option Process) → n < length downs → ring ≡ first + n → down ≡ get_or downs n down →
    downs_from id first (take (n + 1) downs) ≡ downs_from id first (take n downs) ++ down_on id ring down
downs_more id first n ring downs down l e is =
    subst (λ m. downs_from id first (take m downs) ≡ downs_from id first (take n downs) ++ down_on id ring down) (sym (add-one n)) (downs_suc id first n ring downs down l e is)

-- The events of the first rings, and those of the rest.
downs_split : (id : ConfigurationId) (first n : ℕ) (downs : List (Option Process)) → (rest : List Event) × (downs_from id first downs ≡ downs_from id first (take n downs) ++ rest)
downs_split id first zero downs = (downs_from id first downs, refl)
downs_split id first (suc n) [] = ([], refl)
downs_split id first (suc n) (d ∷ downs) =
    let more = downs_split id (first + 1) n downs in
    (more.0, ap (λ events. down_on id first d ++ events) more.1 ∙ sym (append_assoc (down_on id first d) (downs_from id (first + 1) (take n downs)) more.0))

-- One step is all steps of one event.
pub one_step : {S E : Type 0} (step : S → Event → S → Type 0) (r : Result (Unit {0}) E) (old new : S) (event : Event) → OnOk r (step old event new) → OnOk r (AllInTurn step old (event ∷ []) new)
one_step step (Ok u) old new event made = (new, made, refl)
one_step step (Err e) old new event made = tt

-- After some steps more steps.
pub steps_more : {S : Type 0} (step : S → Event → S → Type 0) (old mid new : S) (before after : List Event) → AllInTurn step old before mid → AllInTurn step mid after new → AllInTurn step old (before ++ after) new
steps_more step old mid new [] after same steps = subst (λ s. AllInTurn step s after new) same steps
steps_more step old mid new (event ∷ before) after first steps = (first.0, first.1, steps_more step first.0 mid new before after first.2 steps)

module _ {S : Type 0} (step fails : S → Event → S → Type 0) where
  -- After some steps an event failed.
  fails_later : (old mid new : S) (before after : List Event) → AllInTurn step old before mid → OneFails step fails mid after new → OneFails step fails old (before ++ after) new
  fails_later old mid new [] after same fails_on = subst (λ s. OneFails step fails s after new) same fails_on
  fails_later old mid new (event ∷ before) after first fails_on = inr (first.0, first.1, fails_later first.0 mid new before after first.2 fails_on)

  -- Events behind the one that failed were not tried.
  fails_early : (old new : S) (before after : List Event) → OneFails step fails old before new → OneFails step fails old (before ++ after) new
  fails_early old new [] after none = absurd none
  fails_early old new (event ∷ before) after (inl here) = inl here
  fails_early old new (event ∷ before) after (inr later) = inr (later.0, later.1, fails_early later.0 new before after later.2)

  -- The edge of a ring failed, behind steps with those of the rings before it.
  pub downs_fail : (old mid new : S) (id : ConfigurationId) (ring : ℕ) (downs : List (Option Process)) (down : Option Process) → ring < length downs → down ≡ get_or downs ring down →
      AllInTurn step old (downs_from id 0 (take ring downs)) mid → OneFails step fails mid (down_on id ring down) new → OneFails step fails old (downs_from id 0 downs) new
  downs_fail old mid new id ring downs down l is steps fails_on =
      let rest = downs_split id 0 (ring + 1) downs in
      let tried = fails_later old mid new (downs_from id 0 (take ring downs)) (down_on id ring down) steps fails_on in
      let first = subst (λ events. OneFails step fails old events new) (sym (downs_more id 0 ring ring downs down l (omega arith) is)) tried in
      subst (λ events. OneFails step fails old events new) (sym rest.1) (fails_early old new (downs_from id 0 (take (ring + 1) downs)) rest.0 first)

-- One event that failed is among itself.
pub one_fails : {S E : Type 0} (step : S → Event → S → Type 0) (fails : E → S → Event → S → Type 0) (r : Result (Unit {0}) E) (old new : S) (event : Event) →
    IfErr r (λ e. fails e old event new) → IfErr r (λ e. OneFails step (fails e) old (event ∷ []) new)
one_fails step fails (Ok u) old new event failed = tt
one_fails step fails (Err e) old new event failed = inl failed

-- The same where the fault says nothing.
pub one_unsaid : {S E : Type 0} (step fails : S → Event → S → Type 0) (r : Result (Unit {0}) E) (old new : S) (event : Event) → OnErr r (fails old event new) → OnErr r (OneFails step fails old (event ∷ []) new)
one_unsaid step fails (Ok u) old new event failed = tt
one_unsaid step fails (Err e) old new event failed = inl failed
