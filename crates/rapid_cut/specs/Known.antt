-- The direct reports, and all that are known with some that they imply.
use Rattle.std.specs.Prelude.{List, map, refl}
use Rattle.std.specs.Coded.{Coded, code_by, coded×}
use Rattle.rapid_model.specs.Process.{Process}
use Rattle.rapid_model.specs.Reports.{Reports}
use Rattle.rapid_model.specs.Codes.{reports_code}
use Rattle.rapid_cut.specs.declared.mask.Masks.{Masks}
use Rattle.rapid_cut.specs.Masks.{reports_in}

-- The reports that are known.
pub record Known : Type 0 where
  pub direct : Reports
  pub all : Reports

-- These are told apart by both sets.
abbrev pub known_code : Coded Known
known_code = code_by (Reports × Reports) (coded× reports_code reports_code) (λ k. (k.direct, k.all)) (λ p. record { direct = p.0; all = p.1 }) (λ _. refl)

-- The reports of processes with masks.
abbrev pub known_in : List (Process × Masks) → Known
known_in es = record { direct = reports_in (map (λ e. (e.0, e.1.direct)) es); all = reports_in (map (λ e. (e.0, e.1.all)) es) }
