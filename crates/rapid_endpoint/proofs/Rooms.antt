-- Bytes in fixed room, and more behind those that are used.
use Rattle.std.proofs.Common.{◌≡◌, ℕ, ◌+◌, ◌-◌, ◌≤◌, max, List, ◌++◌, length, take, drop, sym, ap, subst, ◌∙◌, append_assoc, length-append, length-drop, arith}
use Rattle.std.specs.Prelude.{replicate}
use Rattle.std.proofs.lemmas.List.{length-take-le, drop-drop, drop-replicate, length-replicate, replicate-append-replicate}
use Rattle.std.proofs.Math.Seq.{take-append_seam, drop-append_seam}
use Rattle.rapid_endpoint.specs.Room.{IsRoom, used_length}

drop_at : (n : ℕ) (xs ys : List ℕ) → length xs ≡ n → drop n (xs ++ ys) ≡ ys
drop_at n xs ys e = subst (λ k. drop k (xs ++ ys) ≡ ys) e (drop-append_seam xs ys)

pub room_more : (used k : ℕ) (bytes more : List ℕ) → IsRoom used bytes → used + length more ≤ 521 → k ≡ length more
    → IsRoom (used + length more) (take used bytes ++ (more ++ drop k (drop used bytes)))
room_more used k bytes more h fits e =
    let front = used_length used bytes h in
    let tail = drop k (drop used bytes) in
    let long : length tail ≡ 521 - used - k =
    length-drop k (drop used bytes) ∙ ap (λ n. n - k) (length-drop used bytes ∙ ap (λ n. n - used) h.whole) in
    let all : length (take used bytes ++ (more ++ tail)) ≡ length (take used bytes) + (length more + length tail) =
    length-append (take used bytes) (more ++ tail)
    ∙ ap (λ n. length (take used bytes) + n) (length-append more tail) in
    let start : length (take used bytes ++ more) ≡ used + length more =
    length-append (take used bytes) more ∙ ap (λ n. n + length more) front in
    let rest : 521 - used - k ≡ 521 - (used + length more) = omega (arith, e) in
    record {
      whole = omega (arith, all, front, long, fits, e);
      within = fits;
      zeros = ap (drop (used + length more)) (sym (append_assoc (take used bytes) more tail))
          ∙ drop_at (used + length more) (take used bytes ++ more) tail start
          ∙ ap (drop k) h.zeros ∙ drop-replicate k (521 - used) 0 ∙ ap (λ n. replicate n 0) rest;
    }

-- bytes in room that was clear
pub room_of : (bytes : List ℕ) → length bytes ≤ 521 → IsRoom (length bytes) (bytes ++ drop (length bytes) (replicate 521 0))
room_of bytes fits =
    let n = length bytes in
    let tail = drop n (replicate 521 0) in
    let long : length tail ≡ 521 - n = length-drop n (replicate 521 0) ∙ ap (λ k. k - n) (length-replicate {A = ℕ} 521 0) in
    let all = length-append bytes tail in
    record {
      whole = omega (arith, all, long, fits);
      within = fits;
      zeros = drop-append_seam bytes tail ∙ drop-replicate n 521 0;
    }

-- what is left of room from a place behind all that was used is clear
clear_from : (used m : ℕ) (bytes : List ℕ) → IsRoom used bytes → used ≤ m → drop m bytes ≡ replicate (521 - m) 0
clear_from used m bytes h l =
    let there : used + (m - used) ≡ m = omega (arith, l) in
    let rest : 521 - used - (m - used) ≡ 521 - m = omega (arith, l) in
    ap (λ k. drop k bytes) (sym there) ∙ sym (drop-drop (m - used) used bytes) ∙ ap (drop (m - used)) h.zeros
    ∙ drop-replicate (m - used) (521 - used) 0 ∙ ap (λ k. replicate k 0) rest

-- other bytes in room, with zeros over what was used behind them
abbrev pub over : List ℕ → List ℕ → List ℕ
over bytes more = more ++ drop (length more) bytes

replaced : (used m : ℕ) (bytes more zeros : List ℕ) → IsRoom used bytes → length more ≤ 521 → m ≡ max (length more) used
    → zeros ≡ replicate (length (take (m - length more) (drop (length more) (over bytes more)))) 0
    → IsRoom (length more) (take (length more) (over bytes more) ++ (zeros ++ drop (m - length more) (drop (length more) (over bytes more))))
replaced used m bytes more zeros h fits e z =
    let n = length more in
    let behind = drop n bytes in
    let within = h.within in
    let above : n ≤ m = omega (arith, e) in
    let beyond : used ≤ m = omega (arith, e) in
    let most : m ≤ 521 = omega (arith, e, fits, within) in
    let there : n + (m - n) ≡ m = omega (arith, above) in
    let room : length behind ≡ 521 - n = length-drop n bytes ∙ ap (λ k. k - n) h.whole in
    let part : length (take (m - n) (drop n (over bytes more))) ≡ m - n =
    ap (λ l. length (take (m - n) l)) (drop-append_seam more behind) ∙ length-take-le (m - n) behind (omega (arith, room, above, most)) in
    let left : drop (m - n) behind ≡ replicate (521 - m) 0 =
    drop-drop (m - n) n bytes ∙ ap (λ k. drop k bytes) there ∙ clear_from used m bytes h beyond in
    let sum : (m - n) + (521 - m) ≡ 521 - n = omega (arith, above, most) in
    let clear : zeros ++ drop (m - n) behind ≡ replicate (521 - n) 0 =
    (λ i. (z ∙ ap (λ k. replicate k 0) part) i ++ left i) ∙ replicate-append-replicate (m - n) (521 - m) 0 ∙ ap (λ k. replicate k 0) sum in
    let all : take n (over bytes more) ++ (zeros ++ drop (m - n) (drop n (over bytes more))) ≡ more ++ replicate (521 - n) 0 =
    (λ i. take-append_seam more behind i ++ (zeros ++ drop (m - n) (drop-append_seam more behind i)))
    ∙ ap (λ l. more ++ l) clear in
    let long = length-append more (replicate (521 - n) 0) in
    let zero = length-replicate {A = ℕ} (521 - n) 0 in
    subst (IsRoom n) (sym all)
    (record { whole = omega (arith, long, zero, fits); within = fits; zeros = drop-append_seam more (replicate (521 - n) 0) })

-- the same, where the bytes were written as a slice
pub room_replaced : (used m : ℕ) (bytes more new zeros : List ℕ) → IsRoom used bytes → length more ≤ 521
    → m ≡ max (length more) used → new ≡ more
    → zeros ≡ replicate (length (take (m - length more) (drop (length more) (new ++ drop (length more) bytes)))) 0
    → IsRoom (length more) (take (length more) (new ++ drop (length more) bytes) ++ (zeros ++ drop (m - length more) (drop (length more) (new ++ drop (length more) bytes))))
room_replaced used m bytes more new zeros h fits e is =
    let n = length more in
    subst (λ l. zeros ≡ replicate (length (take (m - n) (drop n (l ++ drop n bytes)))) 0
    → IsRoom n (take n (l ++ drop n bytes) ++ (zeros ++ drop (m - n) (drop n (l ++ drop n bytes)))))
    (sym is) (replaced used m bytes more zeros h fits e)
