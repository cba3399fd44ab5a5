-- Clauses of public calls cite this file.
-- What the commands of the program print.
use Rattle.std.specs.Prelude.{◌≡◌, ◌*◌, ℕ, List, [], Option, IfSome}
use Rattle.std.specs.Io.KnownBytes.{Appends}
use Rattle.rapid_model.specs.DetectText.{detect_text}
use Rattle.rapid_cluster.specs.ClusterText.{IsReport}
use Rattle.rapid_cluster.specs.Written.{Ended}
use Rattle.rapid_text.specs.Underway.{AppendsFront}
use Rattle.rapid_text.specs.declared.fault.RunFault.{RunFault}
use Rattle.rapid_sim.specs.Wants.{SimPrints}
use Rattle.rapid_words.specs.declared.words.Invocation.{Invocation}
use Rattle.rapid_words.specs.declared.words.Invocation.TheVariants.{Detect, Sim, Cluster}

-- What a command may print for an input. `detect` prints one text. `sim` prints one text for each way in which it can
-- run out of memory, and one if it never does. `cluster` reads no input, and prints a report.
abbrev pub InvocationPrints : Invocation → List ℕ → List ℕ → Type 0
InvocationPrints Detect input text = text ≡ detect_text input
InvocationPrints Sim input text = (met : ℕ) × SimPrints input text met
InvocationPrints (Cluster s) input text = IsReport s.params s.nodes (s.workers * s.turns) text

-- What the input prints was written, and nothing else; of a cluster a report, whatever the input.
abbrev pub Wrote : Invocation → Option (List ℕ) → Option (List ℕ) → Option (List ℕ) → Type 0
Wrote Detect known old new = IfSome known (λ input. (text : List ℕ) × InvocationPrints Detect input text × Appends old new text)
Wrote Sim known old new = IfSome known (λ input. (text : List ℕ) × InvocationPrints Sim input text × Appends old new text)
Wrote (Cluster s) known old new = (text : List ℕ) × InvocationPrints (Cluster s) [] text × Appends old new text

-- A beginning of what the input prints was written, and nothing else; of a cluster what a fault leaves: a beginning of
-- a report, or nothing.
abbrev pub WroteFront : Invocation → Option (List ℕ) → Option (List ℕ) → Option (List ℕ) → Type 0
WroteFront Detect known old new = IfSome known (λ input. (text : List ℕ) × InvocationPrints Detect input text × AppendsFront old new text)
WroteFront Sim known old new = IfSome known (λ input. (text : List ℕ) × InvocationPrints Sim input text × AppendsFront old new text)
WroteFront (Cluster s) known old new = (fault : RunFault) × Ended s.params s.nodes (s.workers * s.turns) old new fault
