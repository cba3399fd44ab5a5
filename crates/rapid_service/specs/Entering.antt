-- Clauses of public calls cite this file.
-- The views that a service enters.
use Rattle.std.specs.Prelude.{ℕ, ◌++◌, length, nat_lt, if◌then◌else◌, Option, Some, None}
use Rattle.std.specs.Option.{option_map}
use Rattle.rapid_model.specs.Bytes.{Text}
use Rattle.rapid_model.specs.Configuration.{Configuration}
use Rattle.rapid_model.specs.Node.{Node, configuration_of}
use Rattle.rapid_lines.specs.ViewText.{view_text}
use Rattle.rapid_service.specs.declared.present.Present.{Present}

-- What a service has of its views: the lines that wait to be printed, and the view in which it is, if there is one.
pub record Views : Type 0 where
  pub lines : Text
  pub view : Option Configuration

-- The configuration of the present view, if there is one.
abbrev pub view_in : Option Present → Option Configuration
view_in present = option_map (λ (p : Present). p.view) present

abbrev pub views_of : Text → Option Present → Views
views_of lines present = record { lines = lines; view = view_in present }

-- It entered a view: the line of the view waits behind those that waited.
abbrev pub after_view : Views → Configuration → Views
after_view w v = record { lines = w.lines ++ view_text v; view = Some v }

-- It entered this view, or stays where it is if there is none.
abbrev pub after_entering : Views → Option Configuration → Views
after_entering w None = w
after_entering w (Some v) = after_view w v

-- The configuration of a node that has installed more than this many; none of one that has not.
abbrev pub shown_since : ℕ → Node → Option Configuration
shown_since before new = if nat_lt before (length new.installed) then configuration_of new else None

-- What the node installed between these two states, if anything.
abbrev pub installed_by : Node → Node → Option Configuration
installed_by old new = shown_since (length old.installed) new
