use Rattle.std.proofs.Common.{ℕ, List, Option, ◌<◌, [], ◌∷◌, ◌++◌, length, ap, sym, ◌∙◌, arith}
use Rattle.rapid_model.specs.Configuration.{position_of}
use Rattle.rapid_rings.proofs.Lookups.{map_push, map_whole}
use Rattle.rapid_rings.proofs.places.places_in.Goals as goal

pub loop-process-preserved : goal.loop-process-preserved
loop-process-preserved c =
    let place = position_of c.args.configuration.now in
    let process = c.process-item.result in
    let below : c.loop-process.process-index < length c.args.processes.now = omega (arith, c.loop-process-test.true) in
    c.in_ok-push.ensures.items
    ∙ ap (λ p. c.loop-process.places.items ++ p ∷ []) c.place_near-place.ensures
    ∙ ap (λ (ps : List (Option ℕ)). ps ++ place process ∷ []) c.loop-process.invariant
    ∙ sym (map_push place c.args.processes.now c.loop-process.process-index process below c.process-item.is)

pub returns : goal.returns
returns c = c.loop-process.invariant ∙ map_whole (position_of c.args.configuration.now) c.args.processes.now c.loop-process.process-index c.loop-process-test.false
