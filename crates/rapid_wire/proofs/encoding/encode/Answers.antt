use Rattle.std.proofs.Common.{ℕ, List, [], ◌∷◌, ◌++◌, ap, ◌∙◌, arith}
use Rattle.rapid_model.specs.Frame.{payload}
use Rattle.rapid_wire.proofs.Joined.{length_fits}
use Rattle.rapid_wire.proofs.encoding.encode.Goals as goal

pub overflow_cast-length : goal.overflow_cast-length
overflow_cast-length c =
    let m = c.args.message.now in
    let whole = c.in_ok-put_payload.ensures in
    let zeros = c.in_ok-extend_from_slice.ensures.items in
    let empty = c.in_ok-frame.ensures.items in
    let n = length_fits m c.put_payload.new.out.items c.len-length.result c.tell_message.ensures
    (whole ∙ ap (λ (x : List ℕ). x ++ payload m) (zeros ∙ ap (λ (x : List ℕ). x ++ (0 ∷ 0 ∷ 0 ∷ 0 ∷ [])) empty)) (let ok = c.put_payload.new.out.ok.0 in omega (arith, ok, c.len-length.ensures)) in
    omega (arith, n)
