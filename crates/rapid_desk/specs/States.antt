-- Clauses of public calls cite this file.
-- What a desk holds of its node, and what holds of it whenever its lock is free.
use Rattle.std.specs.Prelude.{◌≡◌, ◌⊎◌, ◌||◌, Bool, List, [], ◌∷◌, ◌++◌, if◌then◌else◌, IsTrue, Option, Some, None}
use Rattle.rapid_model.specs.Configuration.{Configuration, Stamp}
use Rattle.rapid_model.specs.Node.{Node, Event, is_halted, has_installed}
use Rattle.rapid_model.specs.Journal.{JournalRecord, Entered, node_at, after_events, journal_events, with_event, is_full_for}

-- What a desk holds of its node.
pub record DeskState : Type 0 where
  -- the node where the journal begins: at the configuration entered last, or at a checkpoint after that
  pub entry : Node
  pub journal : List JournalRecord
  -- an event was refused because the journal is full, as all are from then on
  pub full : Bool
  pub node : Node
  pub published : List Stamp

-- The event is refused because the journal is full.
abbrev pub is_journal_full : DeskState → Event → Bool
is_journal_full d e = d.full || is_full_for d.journal e

-- The node is the replay of the journal from its entry, and what it installed is published.
pub record IsLive (d : DeskState) : Type 0 where
  pub replayed : after_events d.entry (journal_events d.journal) ≡ Some d.node
  pub published : d.published ≡ d.node.installed

-- The node has halted, and all that it installed is published, but perhaps for the last.
pub record HasEnded (d : DeskState) : Type 0 where
  pub halted : IsTrue (is_halted d.node)
  pub published : (d.node.installed ≡ d.published) ⊎ ((last : Stamp) × (d.node.installed ≡ d.published ++ last ∷ []))

-- What holds whenever the lock is free.
abbrev pub IsDesk : DeskState → Type 0
IsDesk d = IsLive d ⊎ HasEnded d

-- The entry after a step: the node as it enters a configuration, if one was installed.
abbrev pub next_entry : DeskState → Node → Option Configuration → Node
next_entry d new None = d.entry
next_entry d new (Some c) = if has_installed d.node new then node_at (Entered c new.me new.installed new.decisions) else d.entry

-- The journal after a step: empty if something was installed.
abbrev pub next_journal : DeskState → Event → Node → List JournalRecord
next_journal d e new = if has_installed d.node new then [] else with_event d.journal e

-- After a checkpoint the journal begins at the node as it is. Nothing else changes.
abbrev pub at_checkpoint : DeskState → DeskState
at_checkpoint d = record { entry = d.node; journal = []; full = d.full; node = d.node; published = d.published }
