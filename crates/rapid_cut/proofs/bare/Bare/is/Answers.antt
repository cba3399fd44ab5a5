use Rattle.std.proofs.Common.{◌≡◌, ◌&&◌, ℕ, List, [], ◌∷◌, ap, ◌∙◌}
use Rattle.rapid_model.specs.Process.{identifier, endpoint, tags_bytes_of, same_bytes}
use Rattle.rapid_endpoint.specs.Joined.{and_then_second, and_else_first}
use Rattle.rapid_cut.proofs.Untagged.{told_by_parts}
use Rattle.rapid_cut.proofs.bare.Bare.is.Goals.{then-eq, else-eq}
use Rattle.rapid_cut.proofs.bare.Bare.is.Goals as goal

pub returns-then-eq-2 : goal.returns-then-eq-2
returns-then-eq-2 c =
    let p = c.args.process.now in
    let id = c.self.inside.id in
    let place = c.self.inside.endpoint in
    let first : c.eq.result ≡ same_bytes (identifier p) id = c.eq.ensures ∙ ap (λ (xs : List ℕ). same_bytes xs id) c.id.ensures in
    let both : c.if-eq.value ≡ (same_bytes (identifier p) id && same_bytes (endpoint p) place) =
    elim c.if-eq.branch [
      | then-eq w ↦
          w.value-is ∙ w.eq-then-eq.ensures ∙ ap (λ (xs : List ℕ). same_bytes xs place) w.endpoint.ensures
          ∙ and_then_second c.eq.result (same_bytes (identifier p) id) (same_bytes (endpoint p) place) first w.if-eq.true
      | else-eq w ↦ w.value-is ∙ and_else_first c.eq.result (same_bytes (identifier p) id) (same_bytes (endpoint p) place) first w.if-eq.false
    ] in
    c.has_no_tags.ensures
    ∙ and_then_second c.if-eq.value (same_bytes (identifier p) id && same_bytes (endpoint p) place) (same_bytes (tags_bytes_of p) (0 ∷ [])) both c.if-eq-2.true
    ∙ told_by_parts p id place c.self.invariant.0 c.self.invariant.1 ∙ ap (same_bytes p) c.self.view_is

pub returns-else-eq-2 : goal.returns-else-eq-2
returns-else-eq-2 c =
    let p = c.args.process.now in
    let id = c.self.inside.id in
    let place = c.self.inside.endpoint in
    let first : c.eq.result ≡ same_bytes (identifier p) id = c.eq.ensures ∙ ap (λ (xs : List ℕ). same_bytes xs id) c.id.ensures in
    let both : c.if-eq.value ≡ (same_bytes (identifier p) id && same_bytes (endpoint p) place) =
    elim c.if-eq.branch [
      | then-eq w ↦
          w.value-is ∙ w.eq-then-eq.ensures ∙ ap (λ (xs : List ℕ). same_bytes xs place) w.endpoint.ensures
          ∙ and_then_second c.eq.result (same_bytes (identifier p) id) (same_bytes (endpoint p) place) first w.if-eq.true
      | else-eq w ↦ w.value-is ∙ and_else_first c.eq.result (same_bytes (identifier p) id) (same_bytes (endpoint p) place) first w.if-eq.false
    ] in
    and_else_first c.if-eq.value (same_bytes (identifier p) id && same_bytes (endpoint p) place) (same_bytes (tags_bytes_of p) (0 ∷ [])) both c.if-eq-2.false
    ∙ told_by_parts p id place c.self.invariant.0 c.self.invariant.1 ∙ ap (same_bytes p) c.self.view_is
