-- Clauses of public calls cite this file.
-- What contracts see of a desk, and of its steps.
use Rattle.std.specs.Prelude.{◌≡◌, ◌≢◌, ◌⊎◌, ℕ, ◌+◌, ◌≤◌, ◌<◌, ◌||◌, Bool, true, false, List, [], ◌∷◌, ◌++◌, length, map, Option, Some, None, MatchOption}
use Rattle.std.specs.List.{AllZip}
use Rattle.atomic_table.specs.Seated.{TableId}
use Rattle.rapid_model.specs.Bytes.{ConfigurationId}
use Rattle.rapid_model.specs.Process.{Process}
use Rattle.rapid_model.specs.Configuration.{Configuration, Stamp, stamp}
use Rattle.rapid_model.specs.Node as model
use Rattle.rapid_model.specs.NodeStep.{node_step}
use Rattle.rapid_model.specs.Journal.{JournalRecord, is_full_for}
use Rattle.rapid_model.specs.Limits.{most_entries, most_views, most_subscriptions, most_waiting_views}
use Rattle.rapid_node.specs.Steps.{IsFault}
use Rattle.rapid_view.specs.Seen.{Publishing, last_height}
use Rattle.rapid_view.specs.declared.error.ViewError.{ViewError}
use Rattle.rapid_view.specs.declared.error.ViewError.TheVariants as view
use Rattle.rapid_desk.specs.States.{DeskState, IsDesk, is_journal_full, next_entry, next_journal}
use Rattle.rapid_desk.specs.Notices.{Served, Offered, state_of as mark_of, height_from, IsNextFrom}
use Rattle.rapid_desk.specs.declared.notice.Notice.{Notice}
use Rattle.rapid_desk.specs.declared.notice.State.TheVariants as mark
use Rattle.rapid_desk.specs.declared.error.DeskError.{DeskError}
use Rattle.rapid_desk.specs.declared.error.DeskError.TheVariants.{JournalFull, OutOfMemory, Node, TooManySubscribers, BadCapacity, Unpublished}

-- The stamps that a writer has published, none if there is no writer yet.
abbrev pub seen_by : Option Publishing → List Stamp
seen_by None = []
seen_by (Some w) = w.seen

-- The cell that a writer writes, none if there is no writer yet.
abbrev pub cell_of : Option Publishing → Option TableId
cell_of None = None
cell_of (Some w) = Some w.cell

-- Nothing is published yet.
abbrev pub is_blank : List Stamp → Bool
is_blank [] = true
is_blank (s ∷ stamps) = false

-- What a desk has published, whether its seats are still to be taken, how many they are, and the cell of what it
-- publishes.
pub record BoardValue : Type 0 where
  pub published : List Stamp
  pub seats : Bool
  pub count : ℕ
  -- none until something is published
  pub cell : Option TableId

-- A desk: what it holds of its node, whether its seats are still to be taken, how many they are, the cell of what it
-- publishes, and whom it serves.
pub record DeskValue : Type 0 where
  pub state : DeskState
  pub seats : Bool
  pub count : ℕ
  -- none until something is published
  pub cell : Option TableId
  -- the subscriptions that it serves, by age
  pub subscriptions : List Served

-- What subscribers get of a step: the node's view if it installed something, else nothing.
abbrev pub Announced : Bool → Option Configuration → List Served → List Served → Type 0
Announced true (Some c) old new = AllZip (Offered c) old new
Announced true None old new = new ≡ old
Announced false shown old new = new ≡ old

-- The queues of subscriptions, in order.
abbrev pub queues_of : List Served → List TableId
queues_of subscriptions = map (λ (s : Served). s.queue) subscriptions

-- The height of the last view that is published, if there is one.
abbrev pub shown_height : List Stamp → Option ℕ
shown_height [] = None
shown_height (s ∷ stamps) = Some (last_height (s ∷ stamps))

-- A view of this height may be published next.
abbrev pub IsNextShown : List Stamp → ℕ → Type 0
IsNextShown published height = MatchOption (shown_height published) (Unit {0}) (λ last. height ≡ last + 1)

-- Each subscription to which nothing but changes was put is told all up to this height.
abbrev pub Follow : Option ℕ → List Served → Type 0
Follow shown [] = Unit {0}
Follow shown (s ∷ subscriptions) = (mark_of s.put ≡ mark.Open → height_from s.since s.put ≡ shown) × Follow shown subscriptions

-- For each subscription to which nothing but changes was put, a view of this height is the next.
abbrev pub Await : ℕ → List Served → Type 0
Await height [] = Unit {0}
Await height (s ∷ subscriptions) = (mark_of s.put ≡ mark.Open → IsNextFrom s.since s.put height) × Await height subscriptions

-- Each subscription has its mark: nothing more comes.
abbrev pub AreMarked : List Served → Type 0
AreMarked [] = Unit {0}
AreMarked (s ∷ subscriptions) = (mark_of s.put ≢ mark.Open) × AreMarked subscriptions

-- Why a view of this height was not published.
abbrev pub NotPublished : List Stamp → ℕ → ViewError → Type 0
NotPublished published height view.NotNext = height ≢ last_height published + 1
NotPublished published height view.CellFull = length published ≡ most_views
NotPublished published height view.NoPlace = published ≡ []
NotPublished published height view.OutOfMemory = Unit {0}
NotPublished published height (view.Behind s) = ⊥

-- What is held, by its parts.
abbrev pub state_of : model.Node → List JournalRecord → Bool → model.Node → List Stamp → DeskState
state_of entry journal full n published =
    record { entry = entry; journal = journal; full = full; node = n; published = published }

-- A node that joins has installed nothing.
abbrev pub no_installs_in : model.Phase → List Stamp → Type 0
no_installs_in (model.Joining j) installed = installed ≡ []
no_installs_in (model.Member s) installed = Unit {0}
no_installs_in (model.Removed c) installed = Unit {0}
no_installs_in (model.Halted shown) installed = Unit {0}

abbrev pub JoinsEmpty : model.Node → Type 0
JoinsEmpty n = no_installs_in n.phase n.installed

-- What a desk keeps.
pub record Keeps (s : DeskState) : Type 0 where
  pub desk : IsDesk s
  pub joins : JoinsEmpty s.node
  pub few : length s.journal ≤ most_entries
  pub full : s.full ≡ true → length s.journal ≡ most_entries

-- The desk after a step that went well: what is installed is published, and the journal has the event, or begins anew
-- if a configuration was entered.
pub record Advances (old : DeskState) (event : model.Event) (new : DeskState) : Type 0 where
  pub entry : new.entry ≡ next_entry old new.node (model.configuration_of new.node)
  pub journal : new.journal ≡ next_journal old event new.node
  pub published : new.published ≡ new.node.installed
  pub taken : (is_journal_full old event ≡ false) × (new.full ≡ false)

-- The event needs a record more than a journal may have, or one was refused so before.
abbrev pub is_refused : Bool → List JournalRecord → model.Event → Bool
is_refused full journal event = full || is_full_for journal event

-- What a desk holds beside what it has published; `next` is the node that the last step made.
pub record HeldValue : Type 0 where
  pub entry : model.Node
  pub journal : List JournalRecord
  pub full : Bool
  pub node : model.Node
  pub next : model.Node

-- What is held with what is published.
abbrev pub state_with : HeldValue → List Stamp → DeskState
state_with h published = state_of h.entry h.journal h.full h.node published

-- Why an event was not tried, or what it did to the node, and what is held then.
abbrev pub NotTaken : HeldValue → model.Event → HeldValue → DeskError → Type 0
NotTaken old event new JournalFull = (is_refused old.full old.journal event ≡ true) × (new.full ≡ true) × (new.node ≡ old.node)
NotTaken old event new OutOfMemory = (is_refused old.full old.journal event ≡ false) × (new.full ≡ old.full) × (new.node ≡ old.node)
NotTaken old event new (Node fault) = (is_refused old.full old.journal event ≡ false) × (new.full ≡ old.full) × IsFault old.node event new.node fault
NotTaken old event new TooManySubscribers = ⊥
NotTaken old event new BadCapacity = ⊥
NotTaken old event new Unpublished = ⊥

-- Why an edge that went down was not tried, whichever it is, and what is held then.
abbrev pub TakesNoEdge : HeldValue → HeldValue → DeskError → Type 0
TakesNoEdge old new error = (id : ConfigurationId) (ring : ℕ) (subject : Process) → NotTaken old (model.EdgeDown id ring subject) new error

-- Only the room for an event was asked.
abbrev pub HasNoRoom : Bool → List JournalRecord → model.Event → Bool → DeskError → Type 0
HasNoRoom full journal event new JournalFull = (is_refused full journal event ≡ true) × (new ≡ true)
HasNoRoom full journal event new OutOfMemory = (is_refused full journal event ≡ false) × (new ≡ full)
HasNoRoom full journal event new (Node fault) = ⊥
HasNoRoom full journal event new TooManySubscribers = ⊥
HasNoRoom full journal event new BadCapacity = ⊥
HasNoRoom full journal event new Unpublished = ⊥

-- The event makes this node of the old one.
abbrev pub Follows : model.Node → model.Event → model.Node → Type 0
Follows old event new = (o : model.Outcome) × (node_step old event ≡ Some o) × (new ≡ o.node)

-- A configuration is installed in this step.
abbrev pub Installs : model.Node → model.Event → model.Node → Type 0
Installs old event new = Follows old event new × (model.has_installed old new ≡ true)

-- The step was made: the journal takes the event, the node had not halted, and the next node is what the event makes of
-- it.
abbrev pub Tried : HeldValue → model.Event → Type 0
Tried held event = (is_refused held.full held.journal event ≡ false) × (model.is_halted held.node ≡ false) × Follows held.node event held.next

-- The node's view, if it has one, is published after what was.
abbrev pub Grown : Option Configuration → List Stamp → List Stamp → Type 0
Grown None old new = ⊥
Grown (Some c) old new = (new ≡ old ++ stamp c ∷ []) × IsNextShown old c.height

-- What is published after a step: what was, and the node's view if it installed something.
abbrev pub Shown : Bool → Option Configuration → List Stamp → List Stamp → Type 0
Shown true shown old new = Grown shown old new
Shown false shown old new = new ≡ old

-- Why the next node was not taken in at a new entry, and what is held then.
abbrev pub NotEntered : HeldValue → HeldValue → DeskError → Type 0
NotEntered old new OutOfMemory = new ≡ old
NotEntered old new Unpublished = (new.entry ≡ old.entry) × (new.journal ≡ old.journal) × (new.full ≡ old.full) × (new.node ≡ model.halt old.next)
NotEntered old new JournalFull = ⊥
NotEntered old new (Node fault) = ⊥
NotEntered old new TooManySubscribers = ⊥
NotEntered old new BadCapacity = ⊥

-- Why an event was refused, and what the desk is then.
abbrev pub Refused : DeskState → model.Event → DeskState → DeskError → Type 0
Refused old event new JournalFull = (is_journal_full old event ≡ true) × (length old.journal ≡ most_entries)
    × (new ≡ record old { full = true })
Refused old event new OutOfMemory = (is_journal_full old event ≡ false) × (new ≡ old)
Refused old event new (Node fault) = (is_journal_full old event ≡ false) × IsFault old.node event new.node fault × (new ≡ record old { node = new.node })
Refused old event new Unpublished = (is_journal_full old event ≡ false) × (length old.published < most_views)
    × ((n : model.Node) × Installs old.node event n × (new ≡ record old { node = model.halt n }))
Refused old event new TooManySubscribers = ⊥
Refused old event new BadCapacity = ⊥

-- Why an edge that went down was refused, whichever it is, and what the desk is then.
abbrev pub RefusesEdge : DeskState → DeskState → DeskError → Type 0
RefusesEdge old new error = (id : ConfigurationId) (ring : ℕ) (subject : Process) → Refused old (model.EdgeDown id ring subject) new error

-- The number of an error.
abbrev pub code_of : DeskError → ℕ
code_of JournalFull = 1
code_of OutOfMemory = 2
code_of (Node fault) = 3
code_of TooManySubscribers = 4
code_of BadCapacity = 5
code_of Unpublished = 6

-- The desk of a founder, at first.
abbrev pub seed_state : Configuration → Process → DeskState
seed_state c me =
    record { entry = model.seed_node c me; journal = []; full = false; node = model.seed_node c me; published = stamp c ∷ [] }

-- The desk of a process that joins, at first.
abbrev pub joiner_state : Process → List ℕ → DeskState
joiner_state me seed = record { entry = model.joiner_node me seed; journal = []; full = false; node = model.joiner_node me seed; published = [] }

-- Why there is no subscription of this capacity at a desk that serves this many.
abbrev pub NotSubscribed : ℕ → ℕ → DeskError → Type 0
NotSubscribed capacity n BadCapacity = (capacity ≡ 0) ⊎ (most_waiting_views < capacity)
NotSubscribed capacity n TooManySubscribers = (0 < capacity) × (capacity ≤ most_waiting_views) × (most_subscriptions ≤ n)
NotSubscribed capacity n OutOfMemory = (0 < capacity) × (capacity ≤ most_waiting_views) × (n < most_subscriptions)
NotSubscribed capacity n JournalFull = ⊥
NotSubscribed capacity n (Node fault) = ⊥
NotSubscribed capacity n Unpublished = ⊥

-- Why there is no checkpoint.
abbrev pub NoCheckpoint : Bool → DeskError → Type 0
NoCheckpoint full JournalFull = full ≡ true
NoCheckpoint full OutOfMemory = full ≡ false
NoCheckpoint full (Node fault) = ⊥
NoCheckpoint full TooManySubscribers = ⊥
NoCheckpoint full BadCapacity = ⊥
NoCheckpoint full Unpublished = ⊥

-- A subscription of which this is known to be taken.
abbrev pub with_known : List Notice → Served → Served
with_known taken s = record { queue = s.queue; since = s.since; capacity = s.capacity; put = s.put; known = taken }
