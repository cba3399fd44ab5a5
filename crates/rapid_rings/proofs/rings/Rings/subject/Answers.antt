use Rattle.std.proofs.Common.{◌≡◌, List, Some, slice_get, ap, subst, ◌∙◌}
use Rattle.std.specs.List.{find}
use Rattle.std.specs.Option.{option_eq}
use Rattle.rapid_model.specs.Process.{Process, same_bytes}
use Rattle.rapid_model.specs.Ring.{ring_observer}
use Rattle.rapid_rings.specs.Seats.{HasRings}
use Rattle.rapid_rings.proofs.Lookups.{found_member, subject_there, subject_missing}
use Rattle.rapid_rings.proofs.rings.Rings.subject.Goals as goal

pub returns-in-Some : goal.returns-in-Some
returns-in-Some c observer at =
    let h = c.in-Some.ensures.lookup in
    let has : HasRings c.args.self.now c.deref.result.now = rw (c.deref.ensures.value, ← c.self.view_is) c.self.invariant in
    let members : c.members.result.now ≡ c.args.self.now.members = c.members.ensures.value ∙ ap (λ k. k.members) c.self.view_is in
    let found = c.subject.ensures observer (ap (λ (ms : List Process). slice_get ms c.args.place) members ∙ found_member c.args.self.now.members observer c.args.place at) in
    subject_there c.args.self.now c.deref.result.now c.from.result c.args.ring observer c.subject.result has c.from.ensures h.3.0
    (subst (λ (ms : List Process). c.subject.result ≡ find (λ m. option_eq same_bytes (ring_observer ms c.args.ring m) (Some observer)) ms) members found)

pub returns-in-None : goal.returns-in-None
returns-in-None c observer at =
    let has : HasRings c.args.self.now c.deref.result.now = rw (c.deref.ensures.value, ← c.self.view_is) c.self.invariant in
    subject_missing c.args.self.now c.deref.result.now c.from.result c.args.ring observer has c.from.ensures c.in-None.ensures.lookup.3
