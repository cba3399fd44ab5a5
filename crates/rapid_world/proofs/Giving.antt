-- A world with an event more.
use Rattle.std.proofs.Common.{◌≡◌, ℕ, zero, suc, get_or, Bool, true, false, List, [], ◌∷◌, ◌++◌, map, slice_get, slice_set, refl, sym, ap, subst, ◌∙◌, Option, Some, None}
use Rattle.std.specs.Prelude.{IsTrue, is_some, All}
use Rattle.std.proofs.lemmas.List.Elements.{All-nil}
use Rattle.std.specs.List.{list_any}
use Rattle.std.specs.Option.{option_map, option_to_list}
use Rattle.std.proofs.lemmas.Option.{slice_get-map}
use Rattle.rapid_model.specs.Process.{Process, identifier, endpoint}
use Rattle.rapid_model.specs.Node.{joiner_node}
use Rattle.rapid_model.specs.World.{Peer, Packet, WorldEvent, MarkedEvent, Start, has_identifier, running_at}
use Rattle.rapid_model.specs.WorldStep.{added}
use Rattle.rapid_model.specs.Run.{WorldReport}
use Rattle.rapid_model.specs.StoredWorld.{StoredWorld, StoresEvent, with_event, world_of, is_halt, unmarked}
use Rattle.rapid_world.specs.declared.report.Report.{Report}
use Rattle.rapid_world.specs.Events.{report_of}
use Rattle.rapid_world.specs.Framed.{FramedPacket, framed_packet, HasFrame}
use Rattle.rapid_world.specs.Handed.{Handed}
use Rattle.rapid_world.specs.Stored.{Names, started_in}
use Rattle.rapid_world.specs.Worlds.{IsRunOf}
use Rattle.rapid_world.specs.Does.{Does}
use Rattle.rapid_world.proofs.Doing.{done_run, done_stored}
use Rattle.rapid_world.proofs.Cases.{Open, start_run, start_stored}

-- the world with an event behind the others, after there was made room
one_event : (s reserved pushed now : StoredWorld) (m : MarkedEvent) → s ≡ now → reserved ≡ s → pushed ≡ with_event reserved m → pushed ≡ with_event now m
one_event s reserved pushed now m v same push = push ∙ ap (λ (x : StoredWorld). with_event x m) (same ∙ v)

-- the peer at a place of the run is the one that is kept there
pub at_place : (s : StoredWorld) (now : StoredWorld) (ps : List Peer) (packets : List FramedPacket) (i : ℕ) (p : Peer) → IsRunOf s ps packets → s ≡ now → slice_get (world_of now).peers i ≡ Some p → slice_get ps i ≡ Some p
at_place s now ps packets i p run same at = ap (λ (l : List Peer). slice_get l i) (run.peers ∙ ap (λ (x : StoredWorld). (world_of x).peers) same) ∙ at

-- what is read at the place of the peer is the peer
pub read_at : {A : Type 0} (xs : List A) (i : ℕ) (p x : A) → slice_get xs i ≡ Some p → x ≡ get_or xs i x → x ≡ p
read_at [] i p x h e = cc
read_at (y ∷ ys) zero p x h e = cc
read_at (y ∷ ys) (suc i) p x h e = read_at ys i p x h e

-- nothing was changed
pub kept_run : (s t : StoredWorld) (ps qs : List Peer) (sent after : List FramedPacket) → IsRunOf s ps sent → t ≡ s → qs ≡ ps → after ≡ sent → IsRunOf t qs after
kept_run s t ps qs sent after run same peers packets =
    subst (λ x. IsRunOf x qs after) (sym same) (subst (λ l. IsRunOf s l after) (sym peers) (subst (λ l. IsRunOf s ps l) (sym packets) run))

-- who is named by the event stands at its place among all that ever started
pub named_at : (s now reserved : StoredWorld) (ps : List Peer) (packets : List FramedPacket) (i : ℕ) (p : Peer) (e : WorldEvent) → IsRunOf s ps packets → s ≡ now → reserved ≡ s → slice_get (world_of now).peers i ≡ Some p →
    Names (Some p.node.me) e → Names (slice_get (started_in reserved) i) e
named_at s now reserved ps packets i p e run v same at names =
    let there : slice_get (started_in reserved) i ≡ Some p.node.me =
    ap (λ (x : StoredWorld). slice_get (started_in x) i) same
    ∙ sym (ap (λ (l : List Process). slice_get l i) run.who)
    ∙ slice_get-map (λ (x : Peer). x.node.me) ps i
    ∙ ap (option_map (λ (x : Peer). x.node.me)) (at_place s now ps packets i p run v at) in
    subst (λ (o : Option Process). Names o e) (sym there) names

pub given_run : (now s reserved pushed : StoredWorld) (m : MarkedEvent) (ps qs : List Peer) (packets after : List FramedPacket) (i : ℕ) (p : Peer) (f : Bool → Handed) →
    s ≡ now → reserved ≡ s → pushed ≡ with_event reserved m → IsRunOf s ps packets → Does now m.event i p f → (f m.halts).peer.node.me ≡ p.node.me →
    qs ≡ slice_set ps i (f m.halts).peer → after ≡ packets ++ map framed_packet (f m.halts).packets → All HasFrame (f m.halts).packets → IsRunOf pushed qs after
given_run now s reserved pushed m ps qs packets after i p f v same push old does me peers sent framed =
    let done = done_run now m.event i p f ps packets m.halts does me framed (subst (λ x. IsRunOf x ps packets) v old) in
    subst (λ x. IsRunOf x qs after) (sym (one_event s reserved pushed now m v same push))
    (subst (λ l. IsRunOf (with_event now m) qs l) (sym sent)
    (subst (λ l. IsRunOf (with_event now m) l (packets ++ map framed_packet (f m.halts).packets)) (sym peers) done))

pub given_stored : (now s reserved pushed : StoredWorld) (m : MarkedEvent) (i : ℕ) (p : Peer) (f : Bool → Handed) (reports : List WorldReport) →
    s ≡ now → reserved ≡ s → pushed ≡ with_event reserved m → Does now m.event i p f → reports ≡ (f m.halts).reports → (m.halts ≡ true → IsTrue (list_any is_halt (f m.halts).reports)) →
    (m.halts ≡ true → list_any is_halt (f false).reports ≡ false) → StoresEvent now pushed m.event reports
given_stored now s reserved pushed m i p f reports v same push does told marks needs =
    subst (λ t. StoresEvent now t m.event reports) (sym (one_event s reserved pushed now m v same push))
    (done_stored now m.event i p f m.halts reports does told marks needs)

-- the reports with the one more, of none
pub one_report : (before after : List Report) (o : Option Report) → after ≡ before ++ option_to_list o → before ≡ [] → map report_of after ≡ option_to_list (option_map report_of o)
one_report before after o e none = ap (map report_of) (e ∙ ap (λ (l : List Report). l ++ option_to_list o) none) ∙ by o
  where
    by : (o : Option Report) → map report_of ([] ++ option_to_list o) ≡ option_to_list (option_map report_of o)
    by None = refl
    by (Some r) = refl

pub no_reports : (rs : List Report) → rs ≡ [] → map report_of rs ≡ []
no_reports rs e = ap (map report_of) e

pub nothing_more : (ps : List FramedPacket) → ps ≡ ps ++ []
nothing_more [] = refl
nothing_more (p ∷ ps) = ap (λ l. p ∷ l) (nothing_more ps)

-- a step that sends nothing
pub none_more : (sent : List FramedPacket) (ps : List Packet) → ps ≡ [] → sent ≡ sent ++ map framed_packet ps
none_more sent ps none = nothing_more sent ∙ sym (ap (λ (l : List Packet). sent ++ map framed_packet l) none)

pub none_framed : (ps : List Packet) → ps ≡ [] → All HasFrame ps
none_framed ps none = subst (All HasFrame) (sym none) (All-nil HasFrame)

-- a start
pub joined_run : (now s reserved pushed : StoredWorld) (me seed : List ℕ) (ps : List Peer) (packets : List FramedPacket) (q : Peer) →
    s ≡ now → reserved ≡ s → pushed ≡ with_event reserved (unmarked (Start me seed)) → IsRunOf s ps packets → Open now →
    list_any (has_identifier (identifier me)) (world_of now).peers ≡ false → is_some (running_at (world_of now) (endpoint me)) ≡ false → q ≡ added (joiner_node me seed) →
    IsRunOf pushed (ps ++ q ∷ []) packets
joined_run now s reserved pushed me seed ps packets q v same push old space fresh free joins =
    subst (λ x. IsRunOf x (ps ++ q ∷ []) packets) (sym (one_event s reserved pushed now (unmarked (Start me seed)) v same push))
    (start_run now me seed ps packets q space fresh free joins (subst (λ x. IsRunOf x ps packets) v old))

pub joined_stored : (now s reserved pushed : StoredWorld) (me seed : List ℕ) (reports : List WorldReport) →
    s ≡ now → reserved ≡ s → pushed ≡ with_event reserved (unmarked (Start me seed)) → Open now →
    list_any (has_identifier (identifier me)) (world_of now).peers ≡ false → is_some (running_at (world_of now) (endpoint me)) ≡ false → reports ≡ [] →
    StoresEvent now pushed (Start me seed) reports
joined_stored now s reserved pushed me seed reports v same push space fresh free none =
    subst (λ t. StoresEvent now t (Start me seed) reports) (sym (one_event s reserved pushed now (unmarked (Start me seed)) v same push))
    (subst (λ (r : List WorldReport). StoresEvent now (with_event now (unmarked (Start me seed))) (Start me seed) r) (sym none) (start_stored now me seed space fresh free))
