-- From a member's work to the outcome of its node's step.
use Rattle.std.proofs.Common.{◌≡◌, Bool, true, false, List, [], ◌++◌, refl, sym, ap, ◌∙◌, append_assoc, append-nil, subst, Option, Some, None}
use Rattle.std.specs.Prelude.{if◌then◌else◌}
use Rattle.std.proofs.lemmas.List.Concat.{flat_map-append}
use Rattle.rapid_model.specs.Process.{Process}
use Rattle.rapid_model.specs.Cut.{Cut}
use Rattle.rapid_model.specs.Node.{Node, Phase, MemberState, Effect, Outcome, Output, output_of, outputs}
use Rattle.rapid_model.specs.NodeStep.{settle, settle_at, install, is_history_full, put_before}
use Rattle.rapid_model.specs.Member.{Work}
use Rattle.rapid_node.specs.Steps.{in_phase, Continues, Stops}
use Rattle.rapid_node.specs.declared.fault.NodeFault.{NodeFault}
use Rattle.rapid_node.specs.declared.fault.NodeFault.TheVariants.{Halted, OutOfMemory, HistoryFull}

pub outputs-append : (me : Process) (xs ys : List Effect) → outputs me (xs ++ ys) ≡ outputs me xs ++ outputs me ys
outputs-append me xs ys = flat_map-append (output_of me) xs ys

-- Work that did nothing but reach a state and a decision.
abbrev pub reached : MemberState → Option Cut → Work
reached s d = record { state = s; effects = []; decided = d }

nothing_more : (me : Process) (w : Work) (before mid after : List Output) → mid ≡ before ++ outputs me w.effects → after ≡ mid ++ [] → after ≡ before ++ outputs me w.effects
nothing_more me w before mid after e h = h ∙ append-nil mid ∙ e

more : (me : Process) (w : Work) (es : List Effect) (before mid after : List Output) →
    mid ≡ before ++ outputs me w.effects → after ≡ mid ++ outputs me es → after ≡ before ++ outputs me (w.effects ++ es)
more me w es before mid after e h =
    h ∙ ap (λ l. l ++ outputs me es) e ∙ append_assoc before (outputs me w.effects) (outputs me es) ∙ ap (λ l. before ++ l) (sym (outputs-append me w.effects es))

put : (me : Process) (w : Work) (o : Outcome) (b : Bool) (new : Node) (before mid after : List Output) →
    mid ≡ before ++ outputs me w.effects →
    Continues me (if b then None else Some (put_before [] o)) new mid after →
    Continues me (if b then None else Some (put_before w.effects o)) new before after
put me w o true new before mid after e h = h
put me w o false new before mid after e h = (h.0, more me w o.effects before mid after e h.1)

at : (n : Node) (p : Phase) (w : Work) (d : Option Cut) (new : Node) (before mid after : List Output) →
    mid ≡ before ++ outputs n.me w.effects →
    Continues n.me (settle_at n (reached w.state d) d) new mid after →
    Continues n.me (settle_at (in_phase n p) w d) new before after
unfolding install
at n p w None new before mid after e h = (h.0, nothing_more n.me w before mid after e h.1)
at n p w (Some v) new before mid after e h =
    put n.me w (install n w.state v) (is_history_full n.installed w.state.config) new before mid after e h

-- What follows from the state and the decision that work reached, after its own outputs, follows from the work,
-- whatever the phase of the node was.
pub settles : (n : Node) (p : Phase) (w : Work) (s : MemberState) (d : Option Cut) (new : Node) (before mid after : List Output) →
    s ≡ w.state → d ≡ w.decided → mid ≡ before ++ outputs n.me w.effects →
    Continues n.me (settle n (reached s d)) new mid after →
    Continues n.me (settle (in_phase n p) w) new before after
unfolding settle
settles n p w s d new before mid after es ed e h =
    let h' : Continues n.me (settle_at n (reached w.state w.decided) w.decided) new mid after =
    subst (λ (d : Option Cut). Continues n.me (settle_at n (reached w.state d) d) new mid after) ed
    (subst (λ (s : MemberState). Continues n.me (settle_at n (reached s d) d) new mid after) es h) in
    at n p w w.decided new before mid after e h'

no_put : (w : Work) (o : Outcome) (b : Bool) → (if b then None else Some (put_before [] o)) ≡ None → (if b then None else Some (put_before w.effects o)) ≡ None
no_put w o true h = refl
no_put w o false h = cc

not_at : (n : Node) (p : Phase) (w : Work) (d : Option Cut) → settle_at n (reached w.state d) d ≡ None → settle_at (in_phase n p) w d ≡ None
unfolding install
not_at n p w None h = cc
not_at n p w (Some v) h = no_put w (install n w.state v) (is_history_full n.installed w.state.config) h

-- If nothing follows from the state and the decision that work reached, nothing follows from the work.
pub settles_not : (n : Node) (p : Phase) (w : Work) (s : MemberState) (d : Option Cut) →
    s ≡ w.state → d ≡ w.decided → settle n (reached s d) ≡ None → settle (in_phase n p) w ≡ None
unfolding settle
settles_not n p w s d es ed h =
    not_at n p w w.decided
    (subst (λ (d : Option Cut). settle_at n (reached w.state d) d ≡ None) ed
    (subst (λ (s : MemberState). settle_at n (reached s d) d ≡ None) es h))

-- What says nothing leaves what was said as it was.
pub said_nothing : (me : Process) (o : Option Outcome) (new : Node) (before : List Output) → Continues me o new [] [] → Continues me o new before before
said_nothing me None new before h = h
said_nothing me (Some o) new before h = (h.0, sym (append-nil before) ∙ ap (λ l. before ++ l) h.1)

-- What stops what follows from the state and the decision that work reached stops what follows from the work.
pub stops_more : (n : Node) (p : Phase) (w : Work) (s : MemberState) (d : Option Cut) →
    s ≡ w.state → d ≡ w.decided → (f : NodeFault) → Stops (settle n (reached s d)) f → Stops (settle (in_phase n p) w) f
stops_more n p w s d es ed Halted h = h
stops_more n p w s d es ed OutOfMemory h = tt
stops_more n p w s d es ed HistoryFull h = settles_not n p w s d es ed h
