-- Probes of a peer's edges.
use Rattle.std.proofs.Common.{◌≡◌, ℕ, Bool, true, false, cond, List, [], refl, sym, ap, subst, ◌∙◌, Option, Some, None, Result, Ok, Err, OnOk, OnErr}
use Rattle.std.specs.Prelude.{slice_set, is_some, unwrap_or, IfSome, IfNone}
use Rattle.std.specs.Option.{option_map}
use Rattle.rapid_model.specs.Process.{Process}
use Rattle.rapid_model.specs.Configuration.{Configuration, configuration_id}
use Rattle.rapid_model.specs.Edge.{Edge, fresh_edge, probed}
use Rattle.rapid_model.specs.Monitors.{Monitors, edge_at, probed_at, is_down_after}
use Rattle.rapid_model.specs.Node.{Node, Event, EdgeDown, Phase, Joining, Member, Removed, Halted, member_in, member_config, shown_in}
use Rattle.rapid_model.specs.World.{Peer, observed_in}
use Rattle.rapid_model.specs.WorldStep.{windows_in, edge_on, with_edge}
use Rattle.rapid_world.specs.declared.windows.Windows.{Windows}
use Rattle.rapid_world.specs.declared.windows.Windows.TheVariants.{Left, Kept}
use Rattle.rapid_world.specs.Handed.{handed, told}
use Rattle.rapid_world.specs.Windows.{windows_of, edge_of}
use Rattle.rapid_world.proofs.Taking.{peer_of}

-- ---- whom a node observes

pub none_observed : (c : Option Configuration) (me : Process) (k : ℕ) → c ≡ None → edge_of (observed_in c me k) ≡ None
none_observed c me k e = ap (λ x. edge_of (observed_in x me k)) e

pub whom_observed : (c : Option Configuration) (me : Process) (k : ℕ) (d : Configuration) (o : Option Process) → c ≡ Some d → o ≡ option_map (λ (x : Configuration × Process). x.1) (observed_in c me k) →
    option_map (λ (s : Process). (configuration_id d, s)) o ≡ edge_of (observed_in c me k)
whom_observed c me k d o e h = subst (λ x. o ≡ option_map (λ (y : Configuration × Process). y.1) (observed_in x me k) → option_map (λ (s : Process). (configuration_id d, s)) o ≡ edge_of (observed_in x me k)) (sym e) there h
  where
    there : o ≡ option_map (λ (y : Configuration × Process). y.1) (observed_in (Some d) me k) → option_map (λ (s : Process). (configuration_id d, s)) o ≡ edge_of (observed_in (Some d) me k)
    there g = ap (option_map (λ (s : Process). (configuration_id d, s))) g ∙ by (Rattle.std.specs.Prelude.nat_lt k d.params.k) (Rattle.rapid_model.specs.Ring.subject_on d me k)
      where
        by : (b : Bool) (s : Option Process) →
            option_map (λ (z : Process). (configuration_id d, z)) (option_map (λ (y : Configuration × Process). y.1) (cond b (option_map (λ z. (d, z)) s) None)) ≡ edge_of (cond b (option_map (λ z. (d, z)) s) None)
        by true None = refl
        by true (Some z) = refl
        by false s = refl

-- ---- what becomes of the edge

-- if there is a window, it is the one that is probed
pub probed_here : (m : Monitors) (k : ℕ) (ok : Bool) (e : Edge) → edge_at m k ≡ Some e → probed_at m k ok ≡ slice_set m k (Some (probed (edge_on m k) ok))
probed_here m k ok e h =
    ap (λ o. slice_set m k (option_map (λ (x : Edge). probed x ok) o)) h
    ∙ sym (ap (λ o. slice_set m k (Some (probed (unwrap_or o fresh_edge) ok))) h)

-- what is asked before the result is noted is what becomes of the edge
pub says : (m : Monitors) (k : ℕ) (ok : Bool) (e : Edge) (down : Option Bool) → edge_at m k ≡ Some e → down ≡ is_down_after m k ok → unwrap_or down false ≡ (probed (edge_on m k) ok).is_down
says m k ok e down h is =
    ap (λ d. unwrap_or d false) is
    ∙ ap (λ o. unwrap_or (option_map (λ (x : Edge). (probed x ok).is_down) o) false) h
    ∙ sym (ap (λ o. (probed (unwrap_or o fresh_edge) ok).is_down) h)

-- windows of a member that were not made when it halted would be fresh
pub fresh_left : (b : Bool) (n : Node) (k : ℕ) (e : Edge) → is_some (member_in n) ≡ true → edge_at (windows_of (Left b) n) k ≡ Some e → windows_in (member_in n) n.me ≡ windows_of (Left b) n
unfolding windows_in
fresh_left b n k e = by n.phase b
  where
    by : (ph : Phase) (b : Bool) → is_some (member_config ph) ≡ true → edge_at (windows_in (cond b (shown_in ph) None) n.me) k ≡ Some e → windows_in (member_config ph) n.me ≡ windows_in (cond b (shown_in ph) None) n.me
    by (Joining j) b t g = cc
    by (Removed c) b t g = cc
    by (Halted c) b t g = cc
    by (Member s) true t g = refl
    by (Member s) false t g = cc

-- the peer after a probe, if its windows were these
pub probed_peer : (ws : Windows) (n : Node) (crashed : Bool) (m after : Monitors) (p : Peer) (k : ℕ) (ok : Bool) → peer_of n crashed ws ≡ p →
    m ≡ windows_of ws n → after ≡ slice_set m k (Some (probed (edge_on m k) ok)) → peer_of n crashed (Kept after) ≡ with_edge p k (probed (edge_on p.edges k) ok)
probed_peer ws n crashed m after p k ok v is h =
    subst (λ (q : Peer). peer_of n crashed (Kept after) ≡ with_edge q k (probed (edge_on q.edges k) ok)) v
    (ap (λ (x : Monitors). peer_of n crashed (Kept x)) (h ∙ ap (λ x. slice_set x k (Some (probed (edge_on x k) ok))) is))

-- so after a result that was noted
pub probed_or : {T E : Type 0} (r : Result T E) (ws : Windows) (n : Node) (crashed : Bool) (m after : Monitors) (p : Peer) (k : ℕ) (ok : Bool) → peer_of n crashed ws ≡ p →
    m ≡ windows_of ws n → OnOk r (after ≡ slice_set m k (Some (probed (edge_on m k) ok))) → OnOk r (peer_of n crashed (Kept after) ≡ with_edge p k (probed (edge_on p.edges k) ok))
probed_or (Ok t) ws n crashed m after p k ok v is h = probed_peer ws n crashed m after p k ok v is h
probed_or (Err e) ws n crashed m after p k ok v is h = tt

-- the peer is as it was if the result was not noted, also if its windows were made for it
pub probed_not : {T E : Type 0} (r : Result T E) (ws : Windows) (n : Node) (crashed : Bool) (m after : Monitors) (p : Peer) → peer_of n crashed ws ≡ p → m ≡ windows_of ws n → OnErr r (after ≡ m) → OnErr r (peer_of n crashed (Kept after) ≡ p)
probed_not (Ok t) ws n crashed m after p v is h = tt
probed_not (Err e) ws n crashed m after p v is h = ap (λ (x : Monitors). peer_of n crashed (Kept x)) (h ∙ is) ∙ v

-- ---- what the node is told

-- whose edge is down
pub lost_is : (lost : Option Process) (s q : Process) (D : Type 0) → lost ≡ Some s → IfSome lost (λ (p : Process). (p ≡ q) × D) → (s ≡ q) × D
lost_is lost s q D is h = subst (λ o. IfSome o (λ (p : Process). (p ≡ q) × D)) is h

pub kept_up : (lost : Option Process) (U : Type 0) → lost ≡ None → IfNone lost U → U
kept_up lost U is h = subst (λ o. IfNone o U) is h

-- if the edge is down, the node takes that event
pub told_down : (p mid : Peer) (k : ℕ) (ok : Bool) (id : List ℕ) (q s : Process) (halts : Bool) → mid ≡ with_edge p k (probed (edge_on p.edges k) ok) → s ≡ q → (probed (edge_on p.edges k) ok).is_down ≡ true →
    handed mid (EdgeDown id k s) halts ≡ told p k ok (EdgeDown id k q) halts
unfolding told
told_down p mid k ok id q s halts m is down =
    (λ i. handed (m i) (EdgeDown id k (is i)) halts)
    ∙ sym (ap (λ b. cond b (handed (with_edge p k (probed (edge_on p.edges k) ok)) (EdgeDown id k q) halts) (record { peer = with_edge p k (probed (edge_on p.edges k) ok); packets = []; reports = [] })) down)

-- else the edge alone changes
pub told_up : (p : Peer) (k : ℕ) (ok : Bool) (e : Event) (halts : Bool) → (probed (edge_on p.edges k) ok).is_down ≡ false →
    told p k ok e halts ≡ record { peer = with_edge p k (probed (edge_on p.edges k) ok); packets = []; reports = [] }
unfolding told
told_up p k ok e halts up =
    ap (λ b. cond b (handed (with_edge p k (probed (edge_on p.edges k) ok)) e halts) (record { peer = with_edge p k (probed (edge_on p.edges k) ok); packets = []; reports = [] })) up
