-- Clauses of public calls cite this file.
-- What members take.
use Rattle.rapid_model.specs.Process.{Process}
use Rattle.rapid_model.specs.Configuration.{Configuration}
use Rattle.rapid_model.specs.Message.{Body}
use Rattle.rapid_model.specs.World.{World}
use Rattle.rapid_model.specs.History.{Sent, Received}

-- What a member took was said by its sender.
abbrev pub ReceivedWereSaid : World → Type 0
ReceivedWereSaid w = (p : Process) (c : Configuration) (from : Process) (b : Body) → Received w p c from b → Sent w from b
