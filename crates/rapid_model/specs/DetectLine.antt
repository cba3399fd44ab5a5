-- The commands of `detect`, and the lines that spell them.
use Rattle.std.specs.Prelude.{ℕ, List, [], ◌∷◌, bytes_eq, codes, if◌then◌else◌, Option, Some, None}
use Rattle.std.specs.Option.{option_and_then, option_map}
use Rattle.rapid_model.specs.Bytes.{Word}
use Rattle.rapid_model.specs.Process.{Process, same_bytes}
use Rattle.rapid_model.specs.Configuration.{Params}
use Rattle.rapid_model.specs.Alert.{Kind, Remove, Join}
use Rattle.rapid_model.specs.Lines.{number_up_to}
use Rattle.rapid_model.specs.Numbered.{named}

-- A ring, an observer and a subject.
pub record Place : Type 0 where
  pub ring : ℕ
  pub observer : Process
  pub subject : Process

-- What a line can ask for.
pub data DetectLine : Type 0 where
  Watermarks : Params → DetectLine
  Joiner : Process → DetectLine
  Edge : Place → DetectLine
  Report : Kind → Place → DetectLine
  Batch : DetectLine

-- Three numbers make parameters, which may be out of order.
abbrev pub marks : Option ℕ → Option ℕ → Option ℕ → Option Params
marks (Some k) (Some h) (Some l) = Some (record { k = k; h = h; l = l })
marks _ _ _ = None

-- K, H and L, each from 0 to 255.
abbrev pub marks_in : List Word → Option Params
marks_in (k ∷ h ∷ l ∷ []) = marks (number_up_to 255 k) (number_up_to 255 h) (number_up_to 255 l)
marks_in _ = None

-- A ring and two processes make a place.
abbrev pub place : Option ℕ → Option Process → Option Process → Option Place
place (Some k) (Some o) (Some s) = Some (record { ring = k; observer = o; subject = s })
place _ _ _ = None

-- A ring from 0 to 255, an observer and a subject.
abbrev pub place_in : List Word → Option Place
place_in (k ∷ o ∷ s ∷ []) = place (number_up_to 255 k) (named o) (named s)
place_in _ = None

-- One process.
abbrev pub process_in : List Word → Option Process
process_in (p ∷ []) = named p
process_in _ = None

-- An edge has an observer that is not its subject.
abbrev pub edge_at : Place → Option DetectLine
edge_at x = if same_bytes x.observer x.subject then None else Some (Edge x)

-- A batch has no words but its name.
abbrev pub batch_in : List Word → Option DetectLine
batch_in [] = Some Batch
batch_in _ = None

-- The command of a name and its words, if there is one.
abbrev pub command_named : Word → List Word → Option DetectLine
command_named name ws =
    if bytes_eq name (codes "watermarks") then option_map Watermarks (marks_in ws)
    else if bytes_eq name (codes "joiner") then option_map Joiner (process_in ws)
    else if bytes_eq name (codes "edge") then option_and_then edge_at (place_in ws)
    else if bytes_eq name (codes "remove") then option_map (Report Remove) (place_in ws)
    else if bytes_eq name (codes "join") then option_map (Report Join) (place_in ws)
    else if bytes_eq name (codes "batch") then batch_in ws
    else None
