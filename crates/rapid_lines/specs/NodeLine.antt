-- Clauses of public calls cite this file.
-- The lines of `node`.
use Rattle.std.specs.Prelude.{List, [], ◌∷◌, bytes_eq, codes, if◌then◌else◌, Option, Some, None}
use Rattle.std.specs.Option.{option_map}
use Rattle.rapid_model.specs.Bytes.{Line, Word}
use Rattle.rapid_model.specs.Lines.{line_words}
use Rattle.rapid_model.specs.SimLine.{count_in}
use Rattle.rapid_lines.specs.declared.command.Command.{Command}
use Rattle.rapid_lines.specs.declared.command.Command.TheVariants.{Ticks, View, Edges, Leave, Quit}
use Rattle.rapid_lines.specs.declared.command.Asked.{Asked}
use Rattle.rapid_lines.specs.declared.command.Asked.TheVariants.{Nothing, Unknown, Taken}

-- A command that has no words but its name.
abbrev pub alone : Command → List Word → Option Command
alone c [] = Some c
alone c _ = None

-- The command of a name and its words, if there is one: ticks are counted as those of a simulated node are.
abbrev pub command_named : Word → List Word → Option Command
command_named name ws =
    if bytes_eq name (codes "tick") then option_map Ticks (count_in ws)
    else if bytes_eq name (codes "view") then alone View ws
    else if bytes_eq name (codes "edges") then alone Edges ws
    else if bytes_eq name (codes "leave") then alone Leave ws
    else if bytes_eq name (codes "quit") then alone Quit ws
    else None

-- A command, if there is one.
abbrev pub asked_command : Option Command → Asked
asked_command None = Unknown
asked_command (Some c) = Taken c

-- What the words of a line ask for: an unknown command if the line is bad, and nothing if it is skipped.
abbrev pub asked_words : Option (List Word) → Asked
asked_words None = Unknown
asked_words (Some []) = Nothing
asked_words (Some (name ∷ ws)) = asked_command (command_named name ws)

-- What a line asks for.
unfoldable pub asked : Line → Asked
asked line = asked_words (line_words line)
