-- A process compared with bytes.
use Rattle.std.proofs.Common.{◌≡◌, ℕ, ◌≤◌, Bool, true, List, ◌++◌, length, take, drop, sym, ap, ◌∙◌, append_assoc, length-append, arith}
use Rattle.std.specs.Prelude.{Result, Ok}
use Rattle.std.proofs.lemmas.List.{take-append-drop, take-append-le, drop-append-le}
use Rattle.std.proofs.Math.Seq.{drop-append_seam}
use Rattle.rapid_model.specs.Tags.{TagsFault}
use Rattle.rapid_model.specs.Process.{Process, IsProcess, process_at}
use Rattle.rapid_model.proofs.Processes.{process_read, process_taken}

-- what stands behind a beginning is what is left without it
begins : (bytes front rest : List ℕ) → bytes ≡ front ++ rest → bytes ≡ front ++ drop (length front) bytes
begins bytes front rest e = e ∙ ap (λ l. front ++ l) (sym (drop-append_seam front rest) ∙ ap (drop (length front)) (sym e))

-- bytes that begin with its key and its tags begin with a process
spelt_when : (p bytes : List ℕ) → IsProcess p → take 22 bytes ≡ take 22 p → drop 22 bytes ≡ drop 22 p ++ drop (length (drop 22 p)) (drop 22 bytes)
    → process_at bytes ≡ Ok (p, drop (length p) bytes)
spelt_when p bytes h key tags =
    let rest = drop (length (drop 22 p)) (drop 22 bytes) in
    let given : List ℕ → Result (Process × List ℕ) TagsFault = λ r. Ok (p, r) in
    let whole : bytes ≡ p ++ rest =
    sym (take-append-drop 22 bytes)
    ∙ (λ i. key i ++ tags i)
    ∙ sym (append_assoc (take 22 p) (drop 22 p) rest)
    ∙ ap (λ l. l ++ rest) (take-append-drop 22 p) in
    let after : drop (length p) bytes ≡ rest = ap (drop (length p)) whole ∙ drop-append_seam p rest in
    ap process_at whole ∙ process_read p rest h ∙ ap given (sym after)

-- if a process is in front of the bytes, they have room for its key
pub has_room : (p bytes rest : List ℕ) → IsProcess p → process_at bytes ≡ Ok (p, rest) → 22 ≤ length bytes
has_room p bytes rest h e =
    let whole = ap length (process_taken bytes (p, rest) e).spelt in
    let parts = length-append p rest in
    omega (arith, h.long, whole, parts)

-- they are no shorter than it
pub no_longer : (p bytes rest : List ℕ) → process_at bytes ≡ Ok (p, rest) → length p ≤ length bytes
no_longer p bytes rest e =
    let whole = ap length (process_taken bytes (p, rest) e).spelt in
    let parts = length-append p rest in
    omega (arith, whole, parts)

-- and begin with it
pub has_key : (p bytes rest : List ℕ) → IsProcess p → process_at bytes ≡ Ok (p, rest) → take 22 bytes ≡ take 22 p
has_key p bytes rest h e = ap (take 22) (process_taken bytes (p, rest) e).spelt ∙ take-append-le 22 p rest h.long

has_tags : (p bytes rest : List ℕ) → IsProcess p → process_at bytes ≡ Ok (p, rest) → drop 22 bytes ≡ drop 22 p ++ drop (length (drop 22 p)) (drop 22 bytes)
has_tags p bytes rest h e =
    begins (drop 22 bytes) (drop 22 p) rest (ap (drop 22) (process_taken bytes (p, rest) e).spelt ∙ drop-append-le 22 p rest h.long)

-- behind its key, what its tags say decides
pub tags_decide : (p bytes key behind tags : List ℕ) (r : Bool) → IsProcess p → key ≡ take 22 bytes → key ≡ take 22 p → behind ≡ drop 22 bytes → tags ≡ drop 22 p
    → (r ≡ true → behind ≡ tags ++ drop (length tags) behind) × (behind ≡ tags ++ drop (length tags) behind → r ≡ true)
    → (r ≡ true → process_at bytes ≡ Ok (p, drop (length p) bytes)) × (process_at bytes ≡ Ok (p, drop (length p) bytes) → r ≡ true)
tags_decide p bytes key behind tags r h a b d t both =
    let same : tags ++ drop (length tags) behind ≡ drop 22 p ++ drop (length (drop 22 p)) (drop 22 bytes) = λ i. t i ++ drop (length (t i)) (d i) in (
      λ e. spelt_when p bytes h (sym a ∙ b) (sym d ∙ both.0 e ∙ same),
      λ e. both.1 (d ∙ has_tags p bytes (drop (length p) bytes) h e ∙ sym same),
    )
