use Rattle.std.proofs.Common.{◌∷◌, ap, ◌∙◌}
use Rattle.sha2.specs.Sha256.{sha256}
use Rattle.rapid_model.specs.Ring.{ring_key}
use Rattle.rapid_rings.proofs.seats.ring_key.Goals as goal

pub returns : goal.returns
unfolding ring_key
returns c =
    let h1 = c.update.ensures _ c.new-hasher.ensures in
    let h2 = c.update-2.ensures _ h1 in
    c.finalize.ensures _ h2 ∙ ap (λ bytes. sha256 (c.args.ring ∷ bytes)) c.key_bytes.ensures.value
