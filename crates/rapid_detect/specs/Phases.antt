-- The state of a run as the definitions see it.
use Rattle.std.specs.Prelude.{◌≡◌, ℕ, Bool, true, false, List, Some, None}
use Rattle.rapid_model.specs.Alert as model
use Rattle.rapid_model.specs.Detector.{empty_detector}
use Rattle.rapid_model.specs.DetectText.{Run, Asked, after, printed}
use Rattle.rapid_detect.specs.Numbers.{alerts_of}
use Rattle.rapid_detect.specs.Replies.{reply_text}
use Rattle.rapid_detect.specs.declared.reply.DetectReply.{DetectReply}
use Rattle.rapid_detect.specs.declared.detect.DetectPhase.{DetectPhase}
use Rattle.rapid_detect.specs.declared.detect.DetectPhase.TheVariants.{Unmarked, Building, Reporting}
use Rattle.rapid_detect.specs.declared.detect.DetectRun.{DetectRun}

-- What a phase and the numbers of lines and the alerts beside it make.
abbrev pub run_by : DetectPhase → ℕ → ℕ → List model.Alert → Run
run_by Unmarked joiners edges alerts = None
run_by (Building t) joiners edges alerts =
    Some (record { table = t; joiner_lines = joiners; edge_lines = edges; is_reporting = false; detector = empty_detector; alerts = alerts })
run_by (Reporting d) joiners edges alerts =
    Some (record { table = d.table; joiner_lines = joiners; edge_lines = edges; is_reporting = true; detector = d.detector; alerts = alerts })

-- The state of a run.
abbrev pub run_of : DetectRun → Run
run_of r = run_by r.phase r.joiner_lines r.edge_lines (alerts_of r.alerts.items)

-- A run that has taken an alert or a batch.
abbrev pub reporting : Run → Run
reporting None = None
reporting (Some d) = Some (record d { is_reporting = true })

-- The phase is that in which the table is made.
abbrev pub is_building : DetectPhase → Bool
is_building Unmarked = false
is_building (Building t) = true
is_building (Reporting d) = false

-- The state after what a line asks for, and what it prints.
pub record Obeys (old new : DetectRun) (asked : Asked) (reply : DetectReply) : Type 0 where
  pub state : run_of new ≡ after (run_of old) asked
  pub text : reply_text reply ≡ printed (run_of old) asked
