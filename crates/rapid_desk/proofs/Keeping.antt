-- What a desk keeps, whatever a step does.
use Rattle.std.proofs.Common.{◌≡◌, ◌⊎◌, ℕ, ◌≤◌, ◌<◌, Bool, true, false, ◌||◌, List, [], ◌∷◌, ◌++◌, length, refl, sym, ap, ◌∙◌, subst, inl, inr, arith, length-append}
use Rattle.std.specs.Prelude.{Some, nat_lt}
use Rattle.rapid_model.specs.Configuration.{Configuration, Stamp, stamp, is_member}
use Rattle.rapid_model.specs.Process.{Process}
use Rattle.rapid_model.specs.Node.{Node, Phase, Joining, Member, Removed, Halted, Event, Outcome, configuration_of, has_installed, is_halted, is_halted_phase, halt, seed_node, joiner_node}
use Rattle.rapid_model.specs.NodeStep.{node_step}
use Rattle.rapid_model.specs.Journal.{with_event}
use Rattle.rapid_node.specs.Steps.{IsFault}
use Rattle.rapid_node.specs.declared.fault.NodeFault.{NodeFault}
use Rattle.rapid_node.specs.declared.fault.NodeFault.TheVariants as fault
use Rattle.rapid_desk.specs.Records.{added_by}
use Rattle.rapid_desk.specs.States.{DeskState, IsLive, IsDesk, is_journal_full, at_checkpoint}
use Rattle.rapid_desk.specs.Desks.{HeldValue, state_with, seed_state, joiner_state, no_installs_in, JoinsEmpty, Keeps}
use Rattle.rapid_desk.proofs.Ticking.{is_below, not_below, event_length}
use Rattle.rapid_desk.proofs.Moving.{Enters, went, enters_shows}
use Rattle.rapid_desk.proofs.Replaying.{replayed}

-- ---- a full journal

added_few : (s : DeskState) (e : Event) → added_by s.journal e ≤ 1 → nat_lt 65536 (length (with_event s.journal e)) ≡ true → length s.journal ≤ 65536 → length s.journal ≡ 65536
added_few s e few over within = let l = event_length s.journal e in let o = is_below _ _ over in omega (arith, l, few, o, within)

pub kept_full : (s : DeskState) (e : Event) → added_by s.journal e ≤ 1 → is_journal_full s e ≡ true → Keeps s → length s.journal ≡ 65536
kept_full s e few is k = by s.full refl
  where
    by : (b : Bool) → s.full ≡ b → length s.journal ≡ 65536
    by true full = k.full full
    by false not_full = added_few s e few (ap (λ b. b || nat_lt 65536 (length (with_event s.journal e))) (sym not_full) ∙ is) k.few

desk_full : (s : DeskState) → IsDesk s → IsDesk (record s { full = true })
desk_full s (inl live) = inl record { replayed = live.replayed; published = live.published }
desk_full s (inr ended) = inr record { halted = ended.halted; published = ended.published }

pub keeps_full : (s : DeskState) → length s.journal ≡ 65536 → Keeps s → Keeps (record s { full = true })
keeps_full s full k = record { desk = desk_full s k.desk; joins = k.joins; few = k.few; full = λ _. full }

-- ---- a node that has halted

desk_halted : (s : DeskState) → IsDesk s → is_halted s.node ≡ false → IsDesk (record s { node = halt s.node })
desk_halted s (inl live) not_yet = inr record { halted = refl; published = inl (sym live.published) }
desk_halted s (inr ended) not_yet = let wrong : true ≡ false = sym ended.halted ∙ not_yet in cc

keeps_halted : (s : DeskState) → is_halted s.node ≡ false → Keeps s → Keeps (record s { node = halt s.node })
keeps_halted s not_yet k = record { desk = desk_halted s k.desk not_yet; joins = tt; few = k.few; full = k.full }

with_node : (s : DeskState) (m n : Node) → n ≡ m → Keeps (record s { node = m }) → Keeps (record s { node = n })
with_node s m n is k = subst (λ x. Keeps (record s { node = x })) (sym is) k

pub keeps_fault : (s : DeskState) (e : Event) (m : Node) (f : NodeFault) → IsFault s.node e m f → Keeps s → Keeps (record s { node = m })
keeps_fault s e m fault.Halted is k = with_node s s.node m is.1 k
keeps_fault s e m fault.OutOfMemory is k = with_node s (halt s.node) m is.1 (keeps_halted s is.0 k)
keeps_fault s e m fault.HistoryFull is k = with_node s (halt s.node) m is.2 (keeps_halted s is.0 k)

-- ---- a step that installs nothing

live_of : (s : DeskState) → IsDesk s → is_halted s.node ≡ false → IsLive s
live_of s (inl live) not_yet = live
live_of s (inr ended) not_yet = let wrong : true ≡ false = sym ended.halted ∙ not_yet in cc

same_installed : (n : Node) (e : Event) (o : Outcome) → JoinsEmpty n → node_step n e ≡ Some o → has_installed n o.node ≡ false → o.node.installed ≡ n.installed
same_installed n e o h is none = by (went n e o h is).1
  where
    by : ((o.node.installed ≡ n.installed) ⊎ Enters n.installed o.node) → o.node.installed ≡ n.installed
    by (inl same) = same
    by (inr new) = let l = ap length new.grew in let a = length-append n.installed (stamp new.config ∷ []) in let f = not_below _ _ none in absurd (omega (arith, f, l, a))

pub live_more : (s : DeskState) (e : Event) (o : Outcome) → is_halted s.node ≡ false → node_step s.node e ≡ Some o → has_installed s.node o.node ≡ false → Keeps s → IsLive (record s { journal = with_event s.journal e; node = o.node })
live_more s e o running is none k =
    let live = live_of s k.desk running in record {
      replayed = replayed s.entry s.journal s.node e o live.replayed is;
      published = live.published ∙ sym (same_installed s.node e o k.joins is none);
    }

pub keeps_more : (s : DeskState) (e : Event) (o : Outcome) → length (with_event s.journal e) ≤ 65536 → s.full ≡ false → is_halted s.node ≡ false → node_step s.node e ≡ Some o → has_installed s.node o.node ≡ false → Keeps s → Keeps (record s { journal = with_event s.journal e; node = o.node })
keeps_more s e o few open_ running is none k = record {
  desk = inl (live_more s e o running is none k);
  joins = (went s.node e o k.joins is).0;
  few = few;
  full = λ yes. let wrong : true ≡ false = sym yes ∙ open_ in cc;
}

-- ---- a step that installs

pub enters : (n : Node) (e : Event) (o : Outcome) → JoinsEmpty n → node_step n e ≡ Some o → has_installed n o.node ≡ true → Enters n.installed o.node
enters n e o h is some = by (went n e o h is).1
  where
    by : ((o.node.installed ≡ n.installed) ⊎ Enters n.installed o.node) → Enters n.installed o.node
    by (inl same) = let l = ap length same in let f = is_below _ _ some in absurd (omega (arith, f, l))
    by (inr new) = new

pub keeps_unpublished : (s : DeskState) (e : Event) (o : Outcome) → is_halted s.node ≡ false → node_step s.node e ≡ Some o → has_installed s.node o.node ≡ true → Keeps s → Keeps (record s { node = halt o.node })
keeps_unpublished s e o running is some k =
    let live = live_of s k.desk running in
    let new = enters s.node e o k.joins is some in record {
      desk = inr record { halted = refl; published = inr (stamp new.config, new.grew ∙ ap (λ l. l ++ stamp new.config ∷ []) (sym live.published)) };
      joins = tt;
      few = k.few;
      full = k.full;
    }

some_is : (x y : Configuration) → Some x ≡ Some y → x ≡ y
some_is x y h = cc

pub live_entered : (s : DeskState) (e : Event) (o : Outcome) (c : Configuration) → is_halted s.node ≡ false → node_step s.node e ≡ Some o → has_installed s.node o.node ≡ true → configuration_of o.node ≡ Some c → Keeps s
    → IsLive (record { entry = o.node; journal = []; full = s.full; node = o.node; published = s.published ++ stamp c ∷ [] })
live_entered s e o c running is some shows k =
    let live = live_of s k.desk running in
    let new = enters s.node e o k.joins is some in
    let same : new.config ≡ c = some_is new.config c (sym (enters_shows s.node.installed o.node new) ∙ shows) in record {
      replayed = refl;
      published = ap (λ x. s.published ++ stamp x ∷ []) (sym same) ∙ ap (λ l. l ++ stamp new.config ∷ []) live.published ∙ sym new.grew;
    }

pub keeps_entered : (s : DeskState) (e : Event) (o : Outcome) (c : Configuration) → s.full ≡ false → is_halted s.node ≡ false → node_step s.node e ≡ Some o → has_installed s.node o.node ≡ true → configuration_of o.node ≡ Some c → Keeps s
    → Keeps (record { entry = o.node; journal = []; full = s.full; node = o.node; published = s.published ++ stamp c ∷ [] })
keeps_entered s e o c open_ running is some shows k = record {
  desk = inl (live_entered s e o c running is some shows k);
  joins = (went s.node e o k.joins is).0;
  few = omega arith;
  full = λ yes. let wrong : true ≡ false = sym yes ∙ open_ in cc;
}

-- the list has room for what a step installs
pub has_room : (s : DeskState) (e : Event) (o : Outcome) → is_halted s.node ≡ false → node_step s.node e ≡ Some o → has_installed s.node o.node ≡ true → Keeps s → length s.published < 65536
has_room s e o running is some k =
    let live = live_of s k.desk running in
    let new = enters s.node e o k.joins is some in
    subst (λ l. length l < 65536) (sym live.published) new.room

-- ---- a checkpoint

desk_checked : (s : DeskState) → IsDesk s → IsDesk (at_checkpoint s)
desk_checked s (inl live) = inl record { replayed = refl; published = live.published }
desk_checked s (inr ended) = inr record { halted = ended.halted; published = ended.published }

keeps_checked : (s : DeskState) → s.full ≡ false → Keeps s → Keeps (at_checkpoint s)
keeps_checked s open_ k = record {
  desk = desk_checked s k.desk;
  joins = k.joins;
  few = omega arith;
  full = λ yes. let wrong : true ≡ false = sym yes ∙ open_ in cc;
}

pub checked_is : (h g : HeldValue) (published : List Stamp) → g.entry ≡ h.node → g.journal ≡ [] → g.full ≡ h.full → g.node ≡ h.node → state_with g published ≡ at_checkpoint (state_with h published)
checked_is h g published entry journal full node = λ i. record { entry = entry i; journal = journal i; full = full i; node = node i; published = published }

pub keeps_checkpoint : (h g : HeldValue) (published : List Stamp) → h.full ≡ false → g.entry ≡ h.node → g.journal ≡ [] → g.full ≡ h.full → g.node ≡ h.node → Keeps (state_with h published) → Keeps (state_with g published)
keeps_checkpoint h g published open_ entry journal full node k = subst Keeps (sym (checked_is h g published entry journal full node)) (keeps_checked (state_with h published) open_ k)

-- ---- a node that joins

joins_in : (p : Phase) (installed published : List Stamp) → published ≡ installed → no_installs_in p installed → no_installs_in p published
joins_in p installed published is none = subst (no_installs_in p) (sym is) none

halted_in : (p : Phase) (published : List Stamp) → is_halted_phase p ≡ true → no_installs_in p published
halted_in (Joining j) published h = let wrong : false ≡ true = h in cc
halted_in (Member m) published h = tt
halted_in (Removed c) published h = tt
halted_in (Halted shown) published h = tt

-- while a node joins nothing is published
pub joining_shows : (s : DeskState) → Keeps s → no_installs_in s.node.phase s.published
joining_shows s k = by k.desk
  where
    by : IsDesk s → no_installs_in s.node.phase s.published
    by (inl live) = joins_in s.node.phase s.node.installed s.published live.published k.joins
    by (inr ended) = halted_in s.node.phase s.published ended.halted

-- ---- a desk at first

pub keeps_seed : (c : Configuration) (me : Process) → is_member c me ≡ true → Keeps (seed_state c me)
keeps_seed c me is = record {
  desk = inl record { replayed = refl; published = refl };
  joins = tt;
  few = omega arith;
  full = λ yes. let wrong : false ≡ true = yes in cc;
}

pub keeps_joiner : (me : Process) (seed : List ℕ) → Keeps (joiner_state me seed)
keeps_joiner me seed = record {
  desk = inl record { replayed = refl; published = refl };
  joins = refl;
  few = omega arith;
  full = λ yes. let wrong : false ≡ true = yes in cc;
}

-- what is held at first
pub seed_is : (h : HeldValue) (published : List Stamp) (c : Configuration) (me : Process) (n : Node) → n ≡ seed_node c me → (h.entry ≡ n) × (h.journal ≡ []) × (h.full ≡ false) × (h.node ≡ n) → published ≡ stamp c ∷ [] → state_with h published ≡ seed_state c me
seed_is h published c me n node held shown =
    λ i. record { entry = (held.0 ∙ node) i; journal = held.1 i; full = held.2 i; node = (held.3 ∙ node) i; published = shown i }

pub joiner_is : (h : HeldValue) (published : List Stamp) (me : Process) (seed : List ℕ) (n : Node) → n ≡ joiner_node me seed → (h.entry ≡ n) × (h.journal ≡ []) × (h.full ≡ false) × (h.node ≡ n) → published ≡ [] → state_with h published ≡ joiner_state me seed
joiner_is h published me seed n node held shown =
    λ i. record { entry = (held.0 ∙ node) i; journal = held.1 i; full = held.2 i; node = (held.3 ∙ node) i; published = shown i }

pub keeps_seed_held : (h : HeldValue) (published : List Stamp) (c : Configuration) (me : Process) (n : Node) → is_member c me ≡ true → n ≡ seed_node c me → (h.entry ≡ n) × (h.journal ≡ []) × (h.full ≡ false) × (h.node ≡ n) → published ≡ stamp c ∷ [] → Keeps (state_with h published)
keeps_seed_held h published c me n is node held shown = subst Keeps (sym (seed_is h published c me n node held shown)) (keeps_seed c me is)

pub keeps_joiner_held : (h : HeldValue) (published : List Stamp) (me : Process) (seed : List ℕ) (n : Node) → n ≡ joiner_node me seed → (h.entry ≡ n) × (h.journal ≡ []) × (h.full ≡ false) × (h.node ≡ n) → published ≡ [] → Keeps (state_with h published)
keeps_joiner_held h published me seed n node held shown = subst Keeps (sym (joiner_is h published me seed n node held shown)) (keeps_joiner me seed)
