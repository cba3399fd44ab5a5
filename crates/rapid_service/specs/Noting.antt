-- Clauses of public calls cite this file.
-- The notes that wait in a service to be reported.
use Rattle.std.specs.Prelude.{◌≡◌, ◌⊎◌, ℕ, ◌+◌, ◌^◌, ◌<◌, List, [], ◌∷◌, ◌++◌, length, map, if◌then◌else◌, Option, None, Some, IsSomeAnd}
use Rattle.rapid_model.specs.Bytes.{Text}
use Rattle.rapid_model.specs.Configuration.{Configuration}
use Rattle.rapid_model.specs.Message as model
use Rattle.rapid_model.specs.Process.{Process, same_bytes}
use Rattle.rapid_lines.specs.Asking.{note_at, answer_at}
use Rattle.rapid_lines.specs.declared.asking.Asking.{Asking}
use Rattle.rapid_lines.specs.declared.note.Answer.{Answer}
use Rattle.rapid_lines.specs.declared.note.Answer.TheVariants.{Safe, InUse, Changed, TooMany}
use Rattle.rapid_node.specs.declared.phase.Phase.{Phase}
use Rattle.rapid_node.specs.declared.phase.Phase.TheVariants as phase
use Rattle.rapid_lines.specs.declared.note.Note.{Note}
use Rattle.rapid_lines.specs.declared.note.Note.TheVariants as note
use Rattle.rapid_service.specs.declared.present.Present.{Present}

-- The same notes wait. Or the node is removed, and behind them waits that it is no member from the height of its
-- present view on.
abbrev pub NotesRemoval : Phase → Option Present → List Note → List Note → Type 0
NotesRemoval now present old new =
    (new ≡ old) ⊎ ((now ≡ phase.Removed) × IsSomeAnd present (λ p. new ≡ old ++ note.Removed p.view.height ∷ []))

-- The same notes wait. Or the node is removed, and behind them waits that it is no member from this height on.
abbrev pub NotesRemovalAt : Phase → ℕ → List Note → List Note → Type 0
NotesRemovalAt now height old new = (new ≡ old) ⊎ ((now ≡ phase.Removed) × (new ≡ old ++ note.Removed height ∷ []))

-- The same notes wait, and behind them at most notes that the node is no member from a height on.
abbrev pub AddsRemovals : List Note → List Note → Type 0
AddsRemovals old new = (heights : List ℕ) × (new ≡ old ++ map note.Removed heights)

-- The same notes wait. Or, behind them, what is to be reported of these questions at their next tick.
abbrev pub NotesQuestion : Option Asking → List Note → List Note → Type 0
NotesQuestion None old new = new ≡ old
NotesQuestion (Some a) old new = (new ≡ old) ⊎ ((n : Note) × (a.ticks + 1 < 2 ^ 64 → note_at a.seed (a.ticks + 1) a.answer ≡ Some n) × (new ≡ old ++ n ∷ []))

-- The questions behind a step in which this was installed, if anything was: who has a view asks no more.
abbrev pub asking_after : Option Configuration → Option Asking → Option Asking
asking_after None asking = asking
asking_after (Some view) asking = None

-- One tick more was counted.
abbrev pub AskedOnce : Option Asking → Option Asking → Type 0
AskedOnce None new = new ≡ None
AskedOnce (Some a) new = IsSomeAnd new (λ b. (b.seed ≡ a.seed) × (a.ticks + 1 < 2 ^ 64 → (b.ticks ≡ a.ticks + 1) × (b.answer ≡ answer_at (a.ticks + 1) a.answer)))

-- What a host's answer is called.
abbrev pub answered_by : model.Answer → Answer
answered_by (model.Safe id os) = Safe
answered_by model.EndpointInUse = InUse
answered_by model.ConfigurationChanged = Changed
answered_by model.TooManyJoiners = TooMany

-- The answer to the last question of a process, once it heard this: a reply to it is the answer, and all else is none.
abbrev pub answer_behind : Process → model.Body → Answer → Answer
answer_behind me (model.Reply joiner answer) last = if same_bytes joiner me then answered_by answer else last
answer_behind me body last = last

-- The questions of a process, once it heard a message.
abbrev pub heard : Process → model.Message → Option Asking → Option Asking
heard me message None = None
heard me message (Some a) = Some (record a { answer = answer_behind me message.body a.answer })

-- No line was added, and the questions stay. Or a view was entered, whose line was added, and none is asked any more.
abbrev pub AsksOrNone : Text → Option Asking → Text → Option Asking → Type 0
AsksOrNone lines old more new = ((more ≡ lines) × (new ≡ old)) ⊎ ((length lines < length more) × (new ≡ None))
