-- What a desk is after each outcome of a step.
use Rattle.std.proofs.Common.{◌≡◌, ℕ, ◌+◌, ◌≤◌, ◌||◌, Bool, true, false, cond, List, [], ◌∷◌, ◌++◌, length, refl, sym, ap, ◌∙◌, subst, arith}
use Rattle.std.specs.Prelude.{Option, Some, None, nat_lt, nat_le}
use Rattle.rapid_model.specs.Configuration.{Configuration, Stamp, stamp}
use Rattle.rapid_model.specs.Node.{Node, Event, EdgeDown, Tick, Receive, Leave, Outcome, Output, configuration_of, has_installed, is_halted, halt}
use Rattle.rapid_model.specs.NodeStep.{node_step}
use Rattle.rapid_model.specs.Process.{Process}
use Rattle.rapid_model.specs.Journal.{JournalRecord, Entered, node_at, is_kept, with_event, is_full_for}
use Rattle.rapid_node.specs.Steps.{HasOutcome, IsFault}
use Rattle.rapid_node.specs.declared.fault.NodeFault.{NodeFault}
use Rattle.rapid_desk.specs.Records.{joins, added_by}
use Rattle.rapid_desk.specs.States.{DeskState, IsLive, next_entry}
use Rattle.rapid_desk.specs.Desks.{state_of, is_refused, Keeps, Advances, Follows, Installs, Grown}
use Rattle.rapid_desk.proofs.Ticking.{not_below, event_length}
use Rattle.rapid_desk.proofs.Moving.{at_entry, enters_shows}
use Rattle.rapid_desk.proofs.Keeping.{kept_full, keeps_full, keeps_fault, live_more, keeps_more, live_entered, keeps_entered, keeps_unpublished, enters}

-- ---- room

pub added_few : (j : List JournalRecord) (e : Event) → added_by j e ≤ 1
added_few j Tick = by (joins j)
  where
    by : (b : Bool) → cond b 0 1 ≤ 1
    by true = omega arith
    by false = omega arith
added_few j (EdgeDown id k p) = omega arith
added_few j Leave = omega arith
added_few j (Receive m) = by (is_kept m.body)
  where
    by : (b : Bool) → cond b 1 0 ≤ 1
    by true = omega arith
    by false = omega arith

pub full_is : (j : List JournalRecord) (e : Event) (n a : ℕ) → n ≡ length j → a ≡ added_by j e → is_full_for j e ≡ nat_lt 65536 (n + a)
full_is j e n a len added = ap (nat_lt 65536) (event_length j e ∙ omega (arith, len, added))

-- an edge that went down needs a record
pub edge_full : (full : Bool) (j : List JournalRecord) (n : ℕ) → n ≡ length j → (id : List ℕ) (k : ℕ) (p : Process) → is_refused full j (EdgeDown id k p) ≡ (full || nat_le 65536 n)
edge_full full j n len id k p = ap (λ b. full || b) (full_is j (EdgeDown id k p) n 1 len refl ∙ same (nat_le 65536 n) refl)
  where
    same : (b : Bool) → nat_le 65536 n ≡ b → nat_lt 65536 (n + 1) ≡ b
    same true h = grind (arith, h)
    same false h = grind (arith, h)

-- ---- a step that went well

outcome_in : (me : Process) (r : Option Outcome) (m : Node) (sent : List Output) → HasOutcome me r m sent → (o : Outcome) × (r ≡ Some o) × (m ≡ o.node)
outcome_in me None m sent h = absurd h
outcome_in me (Some o) m sent h = (o, refl, h.0)

pub follows : (n p m : Node) (e : Event) (sent : List Output) → p ≡ n → HasOutcome p.me (node_step p e) m sent → Follows n e m
follows n p m e sent is h = subst (λ x. Follows x e m) is (outcome_in p.me (node_step p e) m sent h)

not_refused : (full : Bool) (j : List JournalRecord) (e : Event) → is_refused full j e ≡ false → (full ≡ false) × (length (with_event j e) ≤ 65536)
not_refused true j e h = let wrong : true ≡ false = h in cc
not_refused false j e h = (refl, not_below 65536 (length (with_event j e)) h)

same_entry : (s : DeskState) (m : Node) → has_installed s.node m ≡ false → (o : Option Configuration) → next_entry s m o ≡ s.entry
same_entry s m none None = refl
same_entry s m none (Some c) = ap (λ b. cond b (node_at (Entered c m.me m.installed m.decisions)) s.entry) none

-- the desk after a step that went well
pub record Well (old : DeskState) (e : Event) (new : DeskState) : Type 0 where
  pub keeps : Keeps new
  pub advances : Advances old e new

pub goes_on : (entry node m : Node) (js new : List JournalRecord) (full full1 : Bool) (published : List Stamp) (e : Event) → Keeps (state_of entry js full node published) → is_refused full js e ≡ false → full1 ≡ full → is_halted node ≡ false
    → Follows node e m → has_installed node m ≡ false → new ≡ with_event js e → Well (state_of entry js full node published) e (state_of entry new full1 m published)
goes_on entry node m js new full full1 published e k open_ still running r none grown =
    let s = state_of entry js full node published in
    let free = not_refused full js e open_ in
    let none_o : has_installed node r.0.node ≡ false = ap (has_installed node) (sym r.2) ∙ none in
    let same : record { entry = entry; journal = with_event js e; full = full; node = r.0.node; published = published } ≡ state_of entry new full1 m published =
    λ i. record { entry = entry; journal = sym grown i; full = sym still i; node = sym r.2 i; published = published } in record {
      keeps = subst Keeps same (keeps_more s e r.0 free.1 free.0 running r.1 none_o k);
      advances = record {
        entry = sym (same_entry s m none (configuration_of m));
        journal = grown ∙ ap (λ b. cond b [] (with_event js e)) (sym none);
        published = (subst IsLive same (live_more s e r.0 running r.1 none_o k)).published;
        taken = (open_, still ∙ free.0);
      };
    }

next_is : (s : DeskState) (m : Node) (c : Configuration) → has_installed s.node m ≡ true → configuration_of m ≡ Some c → next_entry s m (configuration_of m) ≡ node_at (Entered c m.me m.installed m.decisions)
next_is s m c some shows = ap (next_entry s m) shows ∙ ap (λ b. cond b (node_at (Entered c m.me m.installed m.decisions)) s.entry) some

grown_by : (shown : Option Configuration) (old new : List Stamp) → Grown shown old new → (c : Configuration) × (shown ≡ Some c) × (new ≡ old ++ stamp c ∷ [])
grown_by None old new h = absurd h
grown_by (Some c) old new h = (c, refl, h.0)

pub begins : (entry node m fresh : Node) (js new : List JournalRecord) (full full1 : Bool) (published published1 : List Stamp) (e : Event) → Keeps (state_of entry js full node published) → is_refused full js e ≡ false → full1 ≡ full → is_halted node ≡ false
    → Follows node e m → has_installed node m ≡ true → fresh ≡ m → new ≡ [] → Grown (configuration_of m) published published1 → Well (state_of entry js full node published) e (state_of fresh new full1 m published1)
begins entry node m fresh js new full full1 published published1 e k open_ still running r some copy none shown =
    let s = state_of entry js full node published in
    let free = not_refused full js e open_ in
    let some_o : has_installed node r.0.node ≡ true = ap (has_installed node) (sym r.2) ∙ some in
    let g = grown_by (configuration_of m) published published1 shown in
    let shows : configuration_of r.0.node ≡ Some g.0 = ap configuration_of (sym r.2) ∙ g.1 in
    let at : fresh ≡ r.0.node = copy ∙ r.2 in
    let same : record { entry = r.0.node; journal = []; full = full; node = r.0.node; published = published ++ stamp g.0 ∷ [] } ≡ state_of fresh new full1 m published1 =
    λ i. record { entry = sym at i; journal = sym none i; full = sym still i; node = sym r.2 i; published = sym g.2 i } in
    let new_is = enters s.node e r.0 k.joins r.1 some_o in
    let c_is : Some new_is.config ≡ Some g.0 = sym (enters_shows s.node.installed r.0.node new_is) ∙ shows in record {
      keeps = subst Keeps same (keeps_entered s e r.0 g.0 free.0 running r.1 some_o shows k);
      advances = record {
        entry = copy ∙ r.2 ∙ sym (at_entry r.0.node new_is.config new_is.fresh) ∙ ap (entered_in r.0.node) (some_same new_is.config g.0 c_is) ∙ ap (entered_by g.0) (sym r.2) ∙ sym (next_is s m g.0 some g.1);
        journal = none ∙ ap (λ b. cond b [] (with_event js e)) (sym some);
        published = (subst IsLive same (live_entered s e r.0 g.0 running r.1 some_o shows k)).published;
        taken = (open_, still ∙ free.0);
      };
    }
  where
    some_same : (x y : Configuration) → Some x ≡ Some y → x ≡ y
    some_same x y h = cc

    entered_in : Node → Configuration → Node
    entered_in n c = node_at (Entered c n.me n.installed n.decisions)

    entered_by : Configuration → Node → Node
    entered_by c n = node_at (Entered c n.me n.installed n.decisions)

-- ---- a step that was refused

pub stays_full : (entry node : Node) (js new : List JournalRecord) (full full1 : Bool) (published : List Stamp) (e : Event) → Keeps (state_of entry js full node published) → is_refused full js e ≡ true → full1 ≡ true → new ≡ js
    → (length js ≡ 65536) × (state_of entry new full1 node published ≡ state_of entry js true node published) × Keeps (state_of entry new full1 node published)
stays_full entry node js new full full1 published e k refused now same =
    let s = state_of entry js full node published in
    let long = kept_full s e (added_few js e) refused k in
    let is : state_of entry new full1 node published ≡ state_of entry js true node published = λ i. state_of entry (same i) (now i) node published in
    (long, is, subst Keeps (sym is) (keeps_full s long k))

pub halts : (entry node m p : Node) (js new : List JournalRecord) (full full1 : Bool) (published : List Stamp) (e : Event) (f : NodeFault) → Keeps (state_of entry js full node published) → full1 ≡ full → new ≡ js → p ≡ node → IsFault p e m f
    → IsFault node e m f × (state_of entry new full1 m published ≡ state_of entry js full m published) × Keeps (state_of entry new full1 m published)
halts entry node m p js new full full1 published e f k still same copy fault =
    let here : IsFault node e m f = subst (λ x. IsFault x e m f) copy fault in
    let is : state_of entry new full1 m published ≡ state_of entry js full m published = λ i. state_of entry (same i) (still i) m published in
    (here, is, subst Keeps (sym is) (keeps_fault (state_of entry js full node published) e m f here k))

pub not_shown : (entry node m n : Node) (js new : List JournalRecord) (full full1 : Bool) (published published1 : List Stamp) (e : Event) → Keeps (state_of entry js full node published) → full1 ≡ full → new ≡ js → is_halted node ≡ false
    → Follows node e m → has_installed node m ≡ true → n ≡ halt m → published1 ≡ published
    → ((x : Node) × Installs node e x × (state_of entry new full1 n published1 ≡ state_of entry js full (halt x) published)) × Keeps (state_of entry new full1 n published1)
not_shown entry node m n js new full full1 published published1 e k still same running r some halted unchanged =
    let some_o : has_installed node r.0.node ≡ true = ap (has_installed node) (sym r.2) ∙ some in
    let is : state_of entry new full1 n published1 ≡ state_of entry js full (halt m) published = λ i. state_of entry (same i) (still i) (halted i) (unchanged i) in
    let on : state_of entry js full (halt m) published ≡ state_of entry js full (halt r.0.node) published = λ i. state_of entry js full (halt (r.2 i)) published in
    ((m, (r, some), is), subst Keeps (sym (is ∙ on)) (keeps_unpublished (state_of entry js full node published) e r.0 running r.1 some_o k))
