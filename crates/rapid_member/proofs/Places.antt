-- A member has a place.
use Rattle.std.proofs.Common.{◌≡◌, true, false, sym, ap, ◌∙◌, None}
use Rattle.std.specs.Prelude.{is_some}
use Rattle.rapid_model.specs.Process.{Process, same_bytes}
use Rattle.rapid_model.specs.Configuration.{Configuration, is_member, position_of}
use Rattle.rapid_config.proofs.Places.{in_by_place}

pub has_place : (c : Configuration) (p : Process) → is_member c p ≡ true → position_of c p ≡ None → ⊥
has_place c p is none =
    let same : true ≡ false = sym is ∙ sym (in_by_place (same_bytes p) c.members) ∙ ap is_some none in
    cc
