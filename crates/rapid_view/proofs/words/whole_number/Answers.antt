use Rattle.std.proofs.Common.{◌+◌, ◌≤◌, length, refl, arith}
use Rattle.std.specs.Prelude.{slice_range}
use Rattle.std.proofs.lemmas.Nat.{be_bytes_8}
use Rattle.rapid_view.proofs.Parts.{range_length, range_fits}
use Rattle.rapid_view.proofs.words.whole_number.Goals as goal

pub returns-clause-bytes : goal.returns-clause-bytes
returns-clause-bytes c =
    let within : c.args.at + 8 ≤ length c.args.id.now = omega (arith, c.told-id) in
    be_bytes_8 (slice_range c.args.id.now c.args.at (c.args.at + 8)) _ (range_length _ _ within) (range_fits _ _ within c.fits-id) refl
