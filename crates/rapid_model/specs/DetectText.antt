-- What `detect` prints: the state of a run, which lines are refused, and the output of an input.
use Rattle.std.specs.Prelude.{ℕ, ◌+◌, Bool, true, false, not, ◌==◌, List, [], ◌∷◌, ◌++◌, length, flat_map, codes, decimal, nat_lt, if◌then◌else◌, Option, Some, None, is_some}
use Rattle.std.specs.Option.{option_map}
use Rattle.rapid_model.specs.Limits.{most_joiners, most_edge_lines, most_batch_lines}
use Rattle.rapid_model.specs.Bytes.{Line, Word, Text}
use Rattle.rapid_model.specs.Cut.{Cut}
use Rattle.rapid_model.specs.Configuration.{Params}
use Rattle.rapid_model.specs.Reading.{are_params}
use Rattle.rapid_model.specs.Alert.{Alert, Kind}
use Rattle.rapid_model.specs.Ring.{Observers}
use Rattle.rapid_model.specs.Detector.{Detector, empty_detector, batch_cut, after_batch}
use Rattle.rapid_model.specs.Table as table
use Rattle.rapid_model.specs.Table.{Table, TableFault, empty_table, table_observers, add_fault, after_add, after_joiner}
use Rattle.rapid_model.specs.Lines.{line_feed, space, lines, line_words}
use Rattle.rapid_model.specs.Numbered.{number_of}
use Rattle.rapid_model.specs.DetectLine.{DetectLine, Watermarks, Joiner, Edge, Report, Batch, Place, command_named}

-- What a run keeps once `watermarks` was taken.
pub record Detection : Type 0 where
  pub table : Table
  -- how many joiner lines were taken
  pub joiner_lines : ℕ
  -- how many edge lines were taken
  pub edge_lines : ℕ
  -- a remove, join or batch line was taken
  pub is_reporting : Bool
  pub detector : Detector
  -- the alerts of the next batch, in order
  pub alerts : List Alert

-- The state of a run.
abbrev pub Run : Type 0
Run = Option Detection

-- Why a line is refused.
pub data DetectRefusal : Type 0 where
  BadLine : DetectRefusal
  NoWatermarks : DetectRefusal
  BadParams : DetectRefusal
  TooLate : DetectRefusal
  TooMany : DetectRefusal
  RingRange : DetectRefusal
  EdgeTwice : DetectRefusal

-- What a line asks for: nothing if it is skipped, and an unknown command if it is not in the grammar.
pub data Asked : Type 0 where
  Nothing : Asked
  Unknown : Asked
  Command : DetectLine → Asked

-- A command, if there is one.
abbrev pub asked_command : Option DetectLine → Asked
asked_command None = Unknown
asked_command (Some c) = Command c

-- What the words of a line ask for.
abbrev pub asked_words : Option (List Word) → Asked
asked_words None = Unknown
asked_words (Some []) = Nothing
asked_words (Some (name ∷ ws)) = asked_command (command_named name ws)

-- What a line asks for.
unfoldable pub asked : Line → Asked
asked line = asked_words (line_words line)

-- ---- refusals

-- A fault of the table, by its name.
abbrev pub table_refusal : TableFault → DetectRefusal
table_refusal table.TooMany = TooMany
table_refusal table.RingRange = RingRange
table_refusal table.EdgeTwice = EdgeTwice

-- Why a command is refused before `watermarks` was taken: the first that holds.
abbrev pub early_refusal : DetectLine → Option DetectRefusal
early_refusal (Watermarks params) = if are_params params then None else Some BadParams
early_refusal _ = Some NoWatermarks

-- Why a command is refused once `watermarks` was taken: the first that holds.
abbrev pub later_refusal : Detection → DetectLine → Option DetectRefusal
later_refusal d (Watermarks params) = Some BadLine
later_refusal d (Joiner p) = if d.is_reporting then Some TooLate else if nat_lt d.joiner_lines most_joiners then None else Some TooMany
later_refusal d (Edge x) =
    if d.is_reporting then Some TooLate
    else if not (nat_lt d.edge_lines most_edge_lines) then Some TooMany
    else option_map table_refusal (add_fault d.table x.ring x.subject)
later_refusal d (Report kind x) = if nat_lt (length d.alerts) most_batch_lines then None else Some TooMany
later_refusal d Batch = None

-- Why a command is refused, if it is.
abbrev pub refusal : Run → DetectLine → Option DetectRefusal
refusal None c = early_refusal c
refusal (Some d) c = later_refusal d c

-- ---- the state

-- A run that has taken `watermarks` alone.
abbrev pub marked : Params → Detection
marked params =
    record {
      table = empty_table params;
      joiner_lines = 0;
      edge_lines = 0;
      is_reporting = false;
      detector = empty_detector;
      alerts = [];
    }

-- Who observes whom in a run.
abbrev pub observers_in : Detection → Observers
observers_in d = table_observers d.table

-- The alert of a kind at a place, in the configuration of the table.
abbrev pub alert_at : Detection → Kind → Place → Alert
alert_at d kind x =
    record { observer = x.observer; subject = x.subject; ring = x.ring; kind = kind; config = (observers_in d).id }

-- The detector after its batch.
abbrev pub detector_after : Detection → Detector
detector_after d = after_batch (observers_in d) d.detector d.alerts

-- What a command that is taken leaves of what a run keeps.
abbrev pub later : Detection → DetectLine → Detection
later d (Watermarks params) = d
later d (Joiner p) = record d { table = after_joiner d.table p; joiner_lines = d.joiner_lines + 1 }
later d (Edge x) = record d { table = after_add d.table x.ring x.observer x.subject; edge_lines = d.edge_lines + 1 }
later d (Report kind x) = record d { is_reporting = true; alerts = d.alerts ++ alert_at d kind x ∷ [] }
later d Batch = record d { is_reporting = true; detector = detector_after d; alerts = [] }

-- The state after a command that is taken.
abbrev pub taking : Run → DetectLine → Run
taking None (Watermarks params) = Some (marked params)
taking None _ = None
taking (Some d) c = Some (later d c)

-- The state after a line: one that is refused or skipped leaves it.
unfoldable pub after : Run → Asked → Run
after s Nothing = s
after s Unknown = s
after s (Command c) = if is_some (refusal s c) then s else taking s c

-- ---- the output

-- The name of a refusal.
abbrev pub refusal_name : DetectRefusal → Text
refusal_name BadLine = codes "BadLine"
refusal_name NoWatermarks = codes "NoWatermarks"
refusal_name BadParams = codes "BadParams"
refusal_name TooLate = codes "TooLate"
refusal_name TooMany = codes "TooMany"
refusal_name RingRange = codes "RingRange"
refusal_name EdgeTwice = codes "EdgeTwice"

-- The line that a refused line prints.
abbrev pub refusal_line : DetectRefusal → Text
refusal_line r = codes "refused " ++ refusal_name r ++ line_feed ∷ []

-- A cut, or that there is none.
abbrev pub cut_text : Option Cut → Text
cut_text None = codes "none"
cut_text (Some v) = codes "cut" ++ flat_map (λ p. space ∷ decimal (number_of p)) v

-- How many alerts were skipped, if some were.
abbrev pub skipped_text : ℕ → Text
skipped_text n = if n == 0 then [] else codes " skipped " ++ decimal n

-- The line that a batch prints.
abbrev pub batch_line : Detection → Text
batch_line d = cut_text (batch_cut (observers_in d) d.detector d.alerts) ++ skipped_text (detector_after d).skipped ++ line_feed ∷ []

-- What a command that is taken prints: only a batch prints a line.
abbrev pub taken_text : Run → DetectLine → Text
taken_text (Some d) Batch = batch_line d
taken_text _ _ = []

-- What a command prints that is refused for this reason, or is taken.
abbrev pub command_text : Run → DetectLine → Option DetectRefusal → Text
command_text s c (Some r) = refusal_line r
command_text s c None = taken_text s c

-- What a line prints.
unfoldable pub printed : Run → Asked → Text
printed s Nothing = []
printed s Unknown = refusal_line BadLine
printed s (Command c) = command_text s c (refusal s c)

-- What these lines print, from a state on.
abbrev pub text_of_lines : Run → List Line → Text
text_of_lines s [] = []
text_of_lines s (line ∷ ls) = printed s (asked line) ++ text_of_lines (after s (asked line)) ls

-- The output of an input.
abbrev pub detect_text : Text → Text
detect_text input = text_of_lines None (lines input)
