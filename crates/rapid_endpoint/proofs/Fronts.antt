-- The process in front of bytes.
use Rattle.std.proofs.Common.{◌≡◌, ℕ, zero, suc, ◌<◌, ◌≤◌, List, [], ◌∷◌, ◌++◌, length, take, drop, get_or, refl, ap, sym, ◌∙◌, arith, length-take, length-drop}
use Rattle.std.specs.Int.{w16, to_be_bytes, from_be_bytes}
use Rattle.std.proofs.lemmas.Nat.{be_bytes_2}
use Rattle.std.proofs.Math.Seq.{take-add}

bytes_of_take : (n : ℕ) (bs : List ℕ) → ((i : ℕ) → get_or bs i 0 < 256) → (i : ℕ) → get_or (take n bs) i 0 < 256
bytes_of_take zero bs h i = omega arith
bytes_of_take (suc n) [] h i = omega arith
bytes_of_take (suc n) (b ∷ bs) h zero = h 0
bytes_of_take (suc n) (b ∷ bs) h (suc i) = bytes_of_take n bs (λ k. h (suc k)) i

bytes_of_drop : (n : ℕ) (bs : List ℕ) → ((i : ℕ) → get_or bs i 0 < 256) → (i : ℕ) → get_or (drop n bs) i 0 < 256
bytes_of_drop zero bs h i = h i
bytes_of_drop (suc n) [] h i = h i
bytes_of_drop (suc n) (b ∷ bs) h i = bytes_of_drop n bs (λ k. h (suc k)) i

-- The identifier, the address and the port, one after another, are the first 22 bytes.
pub front_of_bytes : (bs id address port rest last : List ℕ) → ((i : ℕ) → get_or bs i 0 < 256) → 22 ≤ length bs
    → id ≡ take 16 bs → rest ≡ drop 16 bs → address ≡ take 4 rest → last ≡ drop 4 rest → port ≡ take 2 last
    → id ++ (address ++ to_be_bytes w16 (from_be_bytes w16 port)) ≡ take 22 bs
front_of_bytes bs id address port rest last small long e f g h k =
    let place : port ≡ take 2 (drop 4 (drop 16 bs)) = k ∙ ap (take 2) (h ∙ ap (drop 4) f) in
    let two : length port ≡ 2 =
    ap (λ (l : List ℕ). length l) place ∙ simp (length-take, length-drop) (omega arith) in
    let fits : (i : ℕ) → get_or port i 0 < 256 =
    λ i. rw place (bytes_of_take 2 (drop 4 (drop 16 bs)) (bytes_of_drop 4 (drop 16 bs) (bytes_of_drop 16 bs small)) i) in
    (λ i. e i ++ ((g ∙ ap (take 4) f) i ++ (be_bytes_2 port (from_be_bytes w16 port) two fits refl ∙ place) i))
    ∙ ap (λ (l : List ℕ). take 16 bs ++ l) (sym (take-add 4 2 (drop 16 bs)))
    ∙ sym (take-add 16 6 bs)
