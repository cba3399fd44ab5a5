-- Clauses of public calls cite this file.
-- A detector with the table over which it detects.
use Rattle.std.specs.Prelude.{refl}
use Rattle.std.specs.Coded.{Coded, code_by, coded×}
use Rattle.rapid_model.specs.Detector.{Detector}
use Rattle.rapid_model.specs.Codes.{detector_code}

-- What a detector keeps, and its table.
pub record Watching (T : Type 0) : Type 0 where
  pub table : T
  pub detector : Detector

-- These are told apart by both parts.
abbrev pub watching_code : {T : Type 0} → Coded T → Coded (Watching T)
watching_code {T} code =
    code_by (T × Detector) (coded× code detector_code) (λ w. (w.table, w.detector)) (λ p. record { table = p.0; detector = p.1 }) (λ _. refl)
