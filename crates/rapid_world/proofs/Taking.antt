-- What becomes of a peer whose node takes an event.
use Rattle.std.proofs.Common.{◌≡◌, ℕ, Bool, true, false, cond, List, [], ◌∷◌, length, refl, sym, ap, subst, ◌∙◌, Option, Some, None, arith}
use Rattle.std.specs.Prelude.{nat_lt, is_some, map, All}
use Rattle.std.proofs.lemmas.List.Elements.{All-nil}
use Rattle.rapid_model.specs.Process.{Process, identifier}
use Rattle.rapid_model.specs.Configuration.{Configuration}
use Rattle.rapid_model.specs.Monitors as monitors
use Rattle.rapid_model.specs.Node.{Node, Phase, Joining, Member, Removed, Halted, Event, Outcome, Output, outputs, configuration_of, member_in, member_config, shown_in, has_installed, is_halted, halt}
use Rattle.rapid_model.specs.NodeStep.{node_step}
use Rattle.rapid_model.specs.World.{Peer}
use Rattle.rapid_model.specs.WorldStep.{windows_in}
use Rattle.rapid_node.specs.Quiet.{IsQuiet}
use Rattle.rapid_node.specs.Steps.{HasOutcome, IsFault}
use Rattle.rapid_node.specs.declared.fault.NodeFault.{NodeFault}
use Rattle.rapid_node.specs.declared.fault.NodeFault.TheVariants as fault
use Rattle.rapid_world.specs.declared.windows.Windows.{Windows}
use Rattle.rapid_world.specs.declared.windows.Windows.TheVariants.{Fresh, Left, Kept}
use Rattle.rapid_world.specs.Framed.{FramedPacket, framed_packet, HasFrame}
use Rattle.rapid_world.specs.Handed.{Handed, sent_by, stopped, went_on, stepped, handed, Keeps, KeepsAt, wants_memory}
use Rattle.rapid_model.specs.Run.{WorldReport, ReportInstalled, ReportHalted}
use Rattle.rapid_model.specs.NodeReports.{installed_report}
use Rattle.rapid_world.specs.Windows.{windows_of, entered, left}

-- the peer of these parts
abbrev pub peer_of : Node → Bool → Windows → Peer
peer_of n crashed ws = record { node = n; crashed = crashed; edges = windows_of ws n }

-- ---- a node that halts

member_shown : (n : Node) → cond (is_some (member_in n)) (configuration_of n) None ≡ member_in n
member_shown n = by n.phase
  where
    by : (ph : Phase) → cond (is_some (member_config ph)) (shown_in ph) None ≡ member_config ph
    by (Joining j) = refl
    by (Member s) = refl
    by (Removed c) = refl
    by (Halted shown) = refl

-- its windows stay
halted_windows : (ws : Windows) (n : Node) → windows_of (left (is_some (member_in n)) ws) (halt n) ≡ windows_of ws n
halted_windows Fresh n = ap (λ c. windows_in c n.me) (member_shown n)
halted_windows (Left b) n = refl
halted_windows (Kept m) n = refl

pub halted_peer : (ws : Windows) (n new : Node) (crashed was : Bool) → new ≡ halt n → was ≡ is_some (member_in n) → peer_of new crashed (left was ws) ≡ (stopped (peer_of n crashed ws)).peer
halted_peer ws n new crashed was h m =
    ap (λ (x : Node). peer_of x crashed (left was ws)) h
    ∙ ap (λ b. peer_of (halt n) crashed (left b ws)) m
    ∙ ap (λ (e : monitors.Monitors). record { node = halt n; crashed = crashed; edges = e }) (halted_windows ws n)

abbrev wrong : {A : Type 0} → true ≡ false → A
wrong e = absurd (Prim.cc e)

-- a fault stops it
pub fault_stops : (p : Peer) (e : Event) (new : Node) (f : NodeFault) → is_halted p.node ≡ false → IsFault p.node e new f → (handed p e (wants_memory f) ≡ stopped p) × (new ≡ halt p.node)
unfolding handed
fault_stops p e new fault.Halted up h = let no : true ≡ false = sym h.0 ∙ up in cc
fault_stops p e new fault.OutOfMemory up h = (refl, h.1)
fault_stops p e new fault.HistoryFull up h = (ap (stepped p) h.1, h.2)

pub want_stops : (p : Peer) (e : Event) → handed p e true ≡ stopped p
unfolding handed
want_stops p e = refl

-- ---- a node that makes a step

pub outcome_there : (me : Process) (n : Option Outcome) (new : Node) (sent : List Output) → HasOutcome me n new sent → (o : Outcome) × (n ≡ Some o) × (new ≡ o.node) × (sent ≡ outputs me o.effects)
outcome_there me None new sent h = absurd h
outcome_there me (Some o) new sent h = (o, refl, h.0, h.1)

pub goes_on : (p : Peer) (e : Event) (o : Outcome) → node_step p.node e ≡ Some o → handed p e false ≡ went_on p o
unfolding handed
goes_on p e o h = ap (stepped p) h

same_windows : (ws : Windows) (n new : Node) → Keeps n new → has_installed n new ≡ false → windows_of ws new ≡ windows_of ws n
same_windows Fresh n new k none = ap (λ c. windows_in c new.me) (k.member none) ∙ ap (windows_in (member_in n)) k.me
same_windows (Left b) n new k none = ap (λ c. windows_in (cond b c None) new.me) (k.shown none) ∙ ap (windows_in (cond b (configuration_of n) None)) k.me
same_windows (Kept m) n new k none = refl

pub moved_peer : (ws : Windows) (n : Node) (crashed : Bool) (o : Outcome) → Keeps n o.node →
    peer_of o.node crashed (entered (has_installed n o.node) ws) ≡ (went_on (peer_of n crashed ws) o).peer
moved_peer ws n crashed o k = by (has_installed n o.node) refl
  where
    by : (b : Bool) → has_installed n o.node ≡ b →
        peer_of o.node crashed (cond b Fresh ws) ≡ record { node = o.node; crashed = crashed; edges = cond b (windows_in (member_in o.node) o.node.me) (windows_of ws n) }
    by true e = refl
    by false e = ap (λ (m : monitors.Monitors). record { node = o.node; crashed = crashed; edges = m }) (same_windows ws n o.node k e)

-- ---- the same, as the code tells it

abbrev There : Node → Event → Node → List Output → Type 0
There n e new sent = HasOutcome n.me (node_step n e) new sent

-- which step it made
took : (p : Peer) (e : Event) (n new : Node) (sent : List Output) → n ≡ p.node → There n e new sent →
    (o : Outcome) × (node_step p.node e ≡ Some o) × (new ≡ o.node) × (sent ≡ outputs p.node.me o.effects)
took p e n new sent at h = outcome_there p.node.me (node_step p.node e) new sent (subst (λ (x : Node). There x e new sent) at h)

pub ok_peer : (ws ws' : Windows) (n new : Node) (k h : Bool) (p : Peer) (e : Event) (sent : List Output) → peer_of n k ws ≡ p → There n e new sent → KeepsAt p.node e → h ≡ false →
    ws' ≡ entered (nat_lt (length n.installed) (length new.installed)) ws → peer_of new k ws' ≡ (handed p e h).peer
ok_peer ws ws' n new k h p e sent v there keeps none w =
    let t = took (peer_of n k ws) e n new sent refl there in
    let keep : Keeps n t.0.node = subst (λ (q : Peer). KeepsAt q.node e) (sym v) keeps t.0 t.1 in
    let has : entered (nat_lt (length n.installed) (length new.installed)) ws ≡ entered (has_installed n t.0.node) ws = ap (λ (x : Node). entered (has_installed n x) ws) t.2 in
    let done : peer_of new k ws' ≡ (handed (peer_of n k ws) e h).peer =
    ap (λ (x : Node). peer_of x k ws') t.2 ∙ ap (peer_of t.0.node k) (w ∙ has) ∙ moved_peer ws n k t.0 keep
    ∙ sym (ap (λ (x : Handed). x.peer) (ap (handed (peer_of n k ws) e) none ∙ goes_on (peer_of n k ws) e t.0 t.1)) in
    subst (λ (q : Peer). peer_of new k ws' ≡ (handed q e h).peer) v done

-- what is sent
ok_packets : (n new : Node) (h : Bool) (p : Peer) (e : Event) (sent : List Output) → n ≡ p.node → There n e new sent → h ≡ false → sent_by p.node sent ≡ (handed p e h).packets
ok_packets n new h p e sent at there none =
    let t = took p e n new sent at there in
    ap (sent_by p.node) t.3 ∙ sym (ap (λ (x : Handed). x.packets) (ap (handed p e) none ∙ goes_on p e t.0 t.1))

pub ok_sending : (n new : Node) (h : Bool) (p : Peer) (e : Event) (sent : List Output) (out : List FramedPacket) → n ≡ p.node → There n e new sent → h ≡ false →
    out ≡ map framed_packet (sent_by n sent) → out ≡ map framed_packet (handed p e h).packets
ok_sending n new h p e sent out at there none made =
    made ∙ ap (λ (x : Node). map framed_packet (sent_by x sent)) at ∙ ap (map framed_packet) (ok_packets n new h p e sent at there none)

pub ok_framed : (n new : Node) (h : Bool) (p : Peer) (e : Event) (sent : List Output) → n ≡ p.node → There n e new sent → h ≡ false → All HasFrame (sent_by n sent) → All HasFrame (handed p e h).packets
ok_framed n new h p e sent at there none framed =
    subst (All HasFrame) (ap (λ (x : Node). sent_by x sent) at ∙ ok_packets n new h p e sent at there none) framed

named : (a b : Node) (c : Option Configuration) → a.me ≡ b.me → installed_report a c ≡ installed_report b c
named a b None same = refl
named a b (Some c) same = ap (λ (m : Process). ReportInstalled (identifier m) c ∷ []) same

pub ok_reports : (n new : Node) (h : Bool) (p : Peer) (e : Event) (sent : List Output) (before : ℕ) (rep : List WorldReport) → n ≡ p.node → There n e new sent → KeepsAt p.node e → h ≡ false →
    before ≡ length n.installed → rep ≡ cond (nat_lt before (length new.installed)) (installed_report new (configuration_of new)) [] → rep ≡ (handed p e h).reports
ok_reports n new h p e sent before rep at there keeps none len made =
    let t = took p e n new sent at there in
    let keep = keeps t.0 t.1 in
    made
    ∙ ap (λ (k : ℕ). cond (nat_lt k (length new.installed)) (installed_report new (configuration_of new)) []) (len ∙ ap (λ (x : Node). length x.installed) at)
    ∙ ap (λ (x : Node). cond (has_installed p.node x) (installed_report x (configuration_of x)) []) t.2
    ∙ ap (λ (r : List WorldReport). cond (has_installed p.node t.0.node) r []) (named t.0.node p.node (configuration_of t.0.node) keep.me)
    ∙ sym (ap (λ (x : Handed). x.reports) (ap (handed p e) none ∙ goes_on p e t.0 t.1))

pub empty : {A : Type 0} (xs : List A) → length xs ≡ 0 → xs ≡ []
empty [] e = refl
empty (x ∷ xs) e = absurd (omega (arith, e))

pub stop_peer : (ws ws' : Windows) (n new : Node) (k h was : Bool) (p : Peer) (e : Event) → peer_of n k ws ≡ p → handed p e h ≡ stopped p → new ≡ halt p.node →
    was ≡ is_some (member_in p.node) → ws' ≡ left was ws → peer_of new k ws' ≡ (handed p e h).peer
stop_peer ws ws' n new k h was p e v stops halts m w =
    let at : p.node ≡ n = sym (ap (λ (q : Peer). q.node) v) in
    ap (peer_of new k) w
    ∙ halted_peer ws n new k was (halts ∙ ap halt at) (m ∙ ap (λ (x : Node). is_some (member_in x)) at)
    ∙ ap (λ (q : Peer). (stopped q).peer) v
    ∙ sym (ap (λ (x : Handed). x.peer) stops)

pub wanted : (p : Peer) (e : Event) (h : Bool) → h ≡ true → handed p e h ≡ stopped p
wanted p e h is = ap (handed p e) is ∙ want_stops p e

pub faulted : (p : Peer) (e : Event) (n new : Node) (f : NodeFault) (h : Bool) → n ≡ p.node → is_halted p.node ≡ false → IsFault n e new f → h ≡ wants_memory f →
    (handed p e h ≡ stopped p) × (new ≡ halt p.node)
faulted p e n new f h at up stop is =
    let r = fault_stops p e new f up (subst (λ (x : Node). IsFault x e new f) at stop) in
    (ap (handed p e) is ∙ r.0, r.1)

pub no_packets : (p : Peer) (e : Event) (h : Bool) → handed p e h ≡ stopped p → (handed p e h).packets ≡ []
no_packets p e h stops = ap (λ (x : Handed). x.packets) stops

pub no_sending : (p : Peer) (e : Event) (h : Bool) (out : List FramedPacket) → handed p e h ≡ stopped p → out ≡ [] → out ≡ map framed_packet (handed p e h).packets
no_sending p e h out stops none = none ∙ sym (ap (map framed_packet) (no_packets p e h stops))

pub none_framed : (p : Peer) (e : Event) (h : Bool) → handed p e h ≡ stopped p → All HasFrame (handed p e h).packets
none_framed p e h stops = subst (All HasFrame) (sym (no_packets p e h stops)) (All-nil HasFrame)

pub tells_halt : (p : Peer) (e : Event) (h : Bool) (id : List ℕ) (rep : List WorldReport) → handed p e h ≡ stopped p → id ≡ identifier p.node.me → rep ≡ ReportHalted id ∷ [] → rep ≡ (handed p e h).reports
tells_halt p e h id rep stops is made = made ∙ ap (λ i. ReportHalted i ∷ []) is ∙ sym (ap (λ (x : Handed). x.reports) stops)

-- ---- a step that sends nothing

-- nothing is sent or reported
pub quiet_step : (p : Peer) (e : Event) (n new : Node) (sent : List Output) → n ≡ p.node → There n e new sent → IsQuiet p.node e → (sent ≡ []) × (has_installed n new ≡ false)
quiet_step p e n new sent at there quiet =
    let t = took p e n new sent at there in
    let says = quiet t.0 t.1 in (
      t.3 ∙ says.sends,
      ap (λ (x : Node). has_installed x new) at ∙ ap (has_installed p.node) t.2 ∙ says.installs,
    )

pub quiet_packets : (n new : Node) (h : Bool) (p : Peer) (e : Event) (sent : List Output) → n ≡ p.node → There n e new sent → h ≡ false → IsQuiet p.node e → (handed p e h).packets ≡ []
quiet_packets n new h p e sent at there none quiet =
    sym (ok_packets n new h p e sent at there none) ∙ ap (sent_by p.node) (quiet_step p e n new sent at there quiet).0

pub quiet_peer : (ws : Windows) (n new : Node) (k h : Bool) (p : Peer) (e : Event) (sent : List Output) → peer_of n k ws ≡ p → There n e new sent → KeepsAt p.node e → h ≡ false → IsQuiet p.node e →
    peer_of new k ws ≡ (handed p e h).peer
quiet_peer ws n new k h p e sent v there keeps none quiet =
    let at : n ≡ p.node = ap (λ (q : Peer). q.node) v in
    ok_peer ws ws n new k h p e sent v there keeps none (sym (ap (λ b. entered b ws) (quiet_step p e n new sent at there quiet).1))

pub quiet_reports : (n new : Node) (h : Bool) (p : Peer) (e : Event) (sent : List Output) (rep : List WorldReport) → n ≡ p.node → There n e new sent → KeepsAt p.node e → h ≡ false → IsQuiet p.node e →
    rep ≡ [] → rep ≡ (handed p e h).reports
quiet_reports n new h p e sent rep at there keeps none quiet made =
    ok_reports n new h p e sent (length n.installed) rep at there keeps none refl
    (made ∙ sym (ap (λ b. cond b (installed_report new (configuration_of new)) []) (quiet_step p e n new sent at there quiet).1))
