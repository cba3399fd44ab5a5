-- A process by its parts.
use Rattle.std.proofs.Common.{◌≡◌, ◌&&◌, ◌++◌, drop, sym, ap, ◌∙◌}
use Rattle.std.specs.Cmp.{both_ways}
use Rattle.std.proofs.lemmas.Bool.{and_parts, and_from}
use Rattle.std.proofs.lemmas.List.{take-append-drop, drop-drop}
use Rattle.rapid_model.specs.Process.{Process, same_bytes, identifier, endpoint, tags_bytes_of}
use Rattle.rapid_model.proofs.Orders.{same_bytes_decides}

joined : (p : Process) → p ≡ identifier p ++ (endpoint p ++ tags_bytes_of p)
joined p =
    sym (take-append-drop 16 p) ∙ ap (λ l. identifier p ++ l) (sym (take-append-drop 6 (drop 16 p)) ∙ ap (λ l. endpoint p ++ l) (drop-drop 6 16 p))

-- processes are the same if all their parts are
pub by_parts : (p q : Process) → same_bytes q p ≡ ((same_bytes (identifier p) (identifier q) && same_bytes (endpoint p) (endpoint q)) && same_bytes (tags_bytes_of p) (tags_bytes_of q))
by_parts p q =
    both_ways _ _
    (λ h.
    let e = sym ((same_bytes_decides q p).0 h) in
    and_from _ _ (and_from _ _ ((same_bytes_decides (identifier p) (identifier q)).1 (ap identifier e)) ((same_bytes_decides (endpoint p) (endpoint q)).1 (ap endpoint e)))
    ((same_bytes_decides (tags_bytes_of p) (tags_bytes_of q)).1 (ap tags_bytes_of e)))
    (λ h.
    let a = and_parts _ _ h in
    let b = and_parts _ _ a.0 in
    let i = (same_bytes_decides (identifier p) (identifier q)).0 b.0 in
    let n = (same_bytes_decides (endpoint p) (endpoint q)).0 b.1 in
    let t = (same_bytes_decides (tags_bytes_of p) (tags_bytes_of q)).0 a.1 in
    (same_bytes_decides q p).1 (joined q ∙ (λ j. sym i j ++ (sym n j ++ sym t j)) ∙ sym (joined p)))
