-- The lines of founders.
use Rattle.std.proofs.Common.{◌≡◌, List, [], ◌∷◌, ◌++◌, flat_map, map, refl, ap, None}
use Rattle.rapid_model.specs.Process.{Process, identifier}
use Rattle.rapid_model.specs.Configuration.{Configuration}
use Rattle.rapid_model.specs.World.{Installed}
use Rattle.rapid_model.specs.Run.{ReportInstalled, reports_of}
use Rattle.rapid_model.specs.SimText.{report_line, reports_text}

-- Each founder prints the configuration.
pub founding_lines : (c : Configuration) (ps : List Process)
    → reports_text (reports_of (map (λ p. record { who = p; at = None; act = Installed c }) ps)) ≡ flat_map (λ p. report_line (ReportInstalled (identifier p) c)) ps
founding_lines c [] = refl
founding_lines c (p ∷ ps) = ap (λ xs. report_line (ReportInstalled (identifier p) c) ++ xs) (founding_lines c ps)
