use Rattle.std.proofs.Common.{◌≡◌, ◌∙◌, Bool, true, false, not, ◌&&◌, ap, sym, refl}
use Rattle.rapid_model.specs.Process.{Process, same_bytes, identifier, endpoint, tags_bytes_of}
use Rattle.rapid_endpoint.proofs.Parts.{by_parts}
use Rattle.rapid_endpoint.proofs.shared_process.SharedProcess.is.Goals as goal

flip : (b : Bool) (c : Bool) → c ≡ not b → c ≡ true → b ≡ false
flip false c e h = refl
flip true c e h = (let no : true ≡ false = sym h ∙ e in cc)

unflip : (b : Bool) (c : Bool) → c ≡ not b → c ≡ false → b ≡ true
unflip true c e h = refl
unflip false c e h = (let no : false ≡ true = sym h ∙ e in cc)

pub returns-then-ne : goal.returns-then-ne
returns-then-ne c =
    let k = c.args.self.now in
    let p = c.args.process.now in
    let apart : same_bytes (identifier k) (identifier p) ≡ false =
    (λ i. same_bytes (sym (c.self.invariant ∙ ap identifier c.self.view_is) i) (sym c.id.ensures i)) ∙ flip _ _ c.ne.ensures c.if-ne.true in
    ap (λ b. (b && same_bytes (endpoint k) (endpoint p)) && same_bytes (tags_bytes_of k) (tags_bytes_of p)) (sym apart) ∙ sym (by_parts k p)

pub returns-then-not-has_same_endpoint : goal.returns-then-not-has_same_endpoint
returns-then-not-has_same_endpoint c =
    let k = c.args.self.now in
    let p = c.args.process.now in
    let same : same_bytes (identifier k) (identifier p) ≡ true =
    (λ i. same_bytes (sym (c.self.invariant ∙ ap identifier c.self.view_is) i) (sym c.id.ensures i)) ∙ unflip _ _ c.ne.ensures c.if-ne.false in
    let apart : same_bytes (endpoint k) (endpoint p) ≡ false =
    ap (λ (q : Process). same_bytes (endpoint q) (endpoint p)) (sym (c.deref.ensures ∙ c.self.view_is)) ∙ sym c.has_same_endpoint.ensures ∙ c.if-not-has_same_endpoint.true in
    (λ i. (sym same i && sym apart i) && same_bytes (tags_bytes_of k) (tags_bytes_of p)) ∙ sym (by_parts k p)

pub returns : goal.returns
returns c =
    let k = c.args.self.now in
    let p = c.args.process.now in
    let same : same_bytes (identifier k) (identifier p) ≡ true =
    (λ i. same_bytes (sym (c.self.invariant ∙ ap identifier c.self.view_is) i) (sym c.id.ensures i)) ∙ unflip _ _ c.ne.ensures c.if-ne.false in
    let near : same_bytes (endpoint k) (endpoint p) ≡ true =
    ap (λ (q : Process). same_bytes (endpoint q) (endpoint p)) (sym (c.deref.ensures ∙ c.self.view_is)) ∙ sym c.has_same_endpoint.ensures ∙ c.if-not-has_same_endpoint.false in
    c.eq.ensures
    ∙ (λ i. same_bytes ((c.tags.ensures ∙ ap tags_bytes_of (c.deref-2.ensures ∙ c.self.view_is)) i) (c.tags-2.ensures i))
    ∙ (λ i. (sym same i && sym near i) && same_bytes (tags_bytes_of k) (tags_bytes_of p)) ∙ sym (by_parts k p)
