-- Processes without tags.
use Rattle.std.proofs.Common.{◌≡◌, ◌≢◌, ℕ, zero, suc, Bool, true, false, ◌≤◌, ◌<◌, List, [], ◌∷◌, ◌++◌, length, length-append, append_assoc, take, drop, nat_eq, eqb-true, true≢false, get_or, refl, sym, ap, ◌∙◌, arith}
use Rattle.std.specs.Prelude.{All, Result, Ok}
use Rattle.std.specs.Cmp.{both_ways}
use Rattle.std.proofs.lemmas.List.{take-append-drop, drop-drop}
use Rattle.rapid_model.specs.Tags.{TagsFault}
use Rattle.rapid_model.specs.Process.{Process, IsProcess, process_at, same_bytes, tags_bytes_of}
use Rattle.rapid_model.proofs.Processes.{process_read}
use Rattle.rapid_model.proofs.Orders.{same_bytes_decides}
use Rattle.rapid_endpoint.specs.Joined.{first_part, second_part}
use Rattle.rapid_endpoint.specs.Keys.{IsKey}
use Rattle.rapid_endpoint.proofs.Keys.{is_process}

-- one byte, which is 0
pub only_zero : (xs : List ℕ) → 1 ≤ length xs → length xs < 2 → nat_eq (get_or xs 0 0) 0 ≡ true → xs ≡ 0 ∷ []
only_zero [] a b h = absurd (omega (arith, a))
only_zero (x ∷ []) a b h = ap (λ (n : ℕ). n ∷ []) (eqb-true x 0 h)
only_zero (x ∷ y ∷ ys) a b h = absurd (omega (arith, b))

-- two processes without tags are the same if their fronts are
pub same_fronts : (p a b : List ℕ) → length a ≡ 22 → length b ≡ 22 → p ≡ a ++ 0 ∷ [] → same_bytes a b ≡ same_bytes p (b ++ 0 ∷ [])
same_fronts p a b l m e =
    both_ways _ _
    (λ h. (same_bytes_decides p (b ++ 0 ∷ [])).1 (e ∙ ap (λ (x : List ℕ). x ++ 0 ∷ []) ((same_bytes_decides a b).0 h)))
    (λ h.
    let both : a ++ 0 ∷ [] ≡ b ++ 0 ∷ [] = sym e ∙ (same_bytes_decides p (b ++ 0 ∷ [])).0 h in
    (same_bytes_decides a b).1 (sym (first_part 22 a (0 ∷ []) l) ∙ ap (take 22) both ∙ first_part 22 b (0 ∷ []) m))

-- a process with tags is none without
pub apart : (p : Process) (b : List ℕ) → length b ≡ 22 → tags_bytes_of p ≢ 0 ∷ [] → false ≡ same_bytes p (b ++ 0 ∷ [])
apart p b m others = from (same_bytes p (b ++ 0 ∷ [])) refl
  where
    from : (r : Bool) → same_bytes p (b ++ 0 ∷ []) ≡ r → false ≡ same_bytes p (b ++ 0 ∷ [])
    from false h = sym h
    from true h = absurd (others (ap tags_bytes_of ((same_bytes_decides p (b ++ 0 ∷ [])).0 h) ∙ second_part 22 b (0 ∷ []) m))

-- a byte that is not 0 is not that one byte
pub not_zero : (xs : List ℕ) → nat_eq (get_or xs 0 0) 0 ≡ false → xs ≢ 0 ∷ []
not_zero xs h e = true≢false (sym (ap (λ (ys : List ℕ). nat_eq (get_or ys 0 0) 0) e) ∙ h)

zero_is_byte : All (λ b. b < 256) (0 ∷ [])
zero_is_byte zero d l = omega arith
zero_is_byte (suc k) d l = absurd (omega (arith, l))

-- an identifier, an endpoint and no tags are a process
pub untagged_is_process : (key : List ℕ) → IsKey key → IsProcess (key ++ 0 ∷ [])
untagged_is_process key h = is_process key (0 ∷ []) h zero_is_byte (record { few = omega arith; tags = refl; ascending = refl; spelt = refl })

-- an identifier, an endpoint and no tags in front of bytes are a process
pub in_front : (bytes key behind : List ℕ) → IsKey key → key ≡ take 22 bytes → behind ≡ drop 22 bytes → behind ≡ 0 ∷ drop 1 behind
    → (process_at bytes ≡ Ok (key ++ 0 ∷ [], drop 23 bytes)) × (23 ≤ length bytes)
in_front bytes key behind h front rest first =
    let given : List ℕ → Result (Process × List ℕ) TagsFault = λ r. Ok (key ++ 0 ∷ [], r) in
    let whole : bytes ≡ (key ++ 0 ∷ []) ++ drop 1 behind =
    sym (take-append-drop 22 bytes) ∙ (λ i. sym front i ++ (sym rest ∙ first) i) ∙ sym (append_assoc key (0 ∷ []) (drop 1 behind)) in
    let after : drop 1 behind ≡ drop 23 bytes = ap (drop 1) rest ∙ drop-drop 1 22 bytes in (
      ap process_at whole ∙ process_read (key ++ 0 ∷ []) (drop 1 behind) (untagged_is_process key h) ∙ ap given after,
      (let all = ap length whole in let parts = length-append (key ++ 0 ∷ []) (drop 1 behind) in let own = length-append key (0 ∷ []) in omega (arith, all, parts, own, h.length)),
    )
