-- How kinds of alerts are told apart.
use Rattle.std.specs.Prelude.{◌≡◌, Bool, if◌then◌else◌, refl}
use Rattle.std.specs.Coded.{Coded, code_by, coded_bool}
use Rattle.rapid_model.specs.Alert.{Kind, Remove, Join, is_remove}

-- A kind is told by whether it is REMOVE.
pub kind_back : (k : Kind) → (if is_remove k then Remove else Join) ≡ k
kind_back Remove = refl
kind_back Join = refl

-- The code of kinds.
abbrev pub kind_code : Coded Kind
kind_code = code_by Bool coded_bool is_remove (λ b. if b then Remove else Join) kind_back
