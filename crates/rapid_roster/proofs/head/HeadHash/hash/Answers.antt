use Rattle.std.proofs.Common.{◌≡◌, ◌∙◌, take, drop, sym, ap}
use Rattle.rapid_endpoint.specs.Joined.{first_part, second_part}
use Rattle.rapid_roster.proofs.head.HeadHash.hash.Goals as goal

pub returns : goal.returns
returns g c =
    let id = c.self.inside.id in
    let endpoint = c.self.inside.endpoint in
    let front : c.bytes.result ≡ take 16 c.args.self.now = c.bytes.ensures.value ∙ sym (first_part 16 id endpoint c.self.invariant) ∙ ap (take 16) c.self.view_is in
    let behind : c.to_bytes.result ≡ drop 16 c.args.self.now = c.to_bytes.ensures.value ∙ sym (second_part 16 id endpoint c.self.invariant) ∙ ap (drop 16) c.self.view_is in
    c.write-2.ensures ∙ ap (λ s. g.H.Hasher.write s c.to_bytes.result) c.write.ensures ∙ (λ i. g.H.Hasher.write (g.H.Hasher.write c.args.state.now (front i)) (behind i))
