use Rattle.std.proofs.Common.{◌≡◌, ℕ, ◌∙◌, ap, ◌++◌, ◌<◌, arith, slice_index_or}
use Rattle.std.specs.Int.{w16, to_be_bytes}
use Rattle.rapid_endpoint.proofs.Fronts.{front_of_bytes}
use Rattle.rapid_endpoint.proofs.key.Key.read.Goals as goal

pub returns-clause-front : goal.returns-clause-front
returns-clause-front c =
    let id = c.in_ok-id.ensures.cases in let address = c.in_ok-address.ensures.cases in let port = c.in_ok-port.ensures.cases in
    let whole : c.new-endpoint.result ≡ c.in_ok-address.address.now ++ to_be_bytes w16 c.from_be_bytes.result = c.new-endpoint.ensures in
    c.new-2.ensures
    ∙ (λ i. c.new.ensures i ++ (whole ∙ ap (λ (n : ℕ). c.in_ok-address.address.now ++ to_be_bytes w16 n) c.from_be_bytes.ensures) i)
    ∙ front_of_bytes c.args.bytes.now c.in_ok-id.id.now c.in_ok-address.address.now c.in_ok-port.port.now c.in_ok-id.rest.now c.in_ok-address.rest.now
    (λ i. let h : slice_index_or c.args.bytes.now i 0 < 256 = omega (arith, c.type_inv.bytes i) in h)
    (omega (arith, id.2, address.2, port.2)) id.0 id.1 address.0 address.1 port.0
