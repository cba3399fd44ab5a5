-- The word of an edge, and how one more result changes it.
use Rattle.std.proofs.Common.{◌≡◌, ℕ, zero, suc, ◌+◌, ◌*◌, ◌/◌, ◌%◌, ◌^◌, ◌<◌, ◌≤◌, ◌==◌, min, Bool, true, false, cond, not, ◌||◌, List, [], ◌∷◌, ◌++◌, length, take, drop, count_ones, arith, refl, sym, ap, ap₂, ◌∙◌, nat_le, pow_mono}
use Rattle.std.specs.Prelude.{if◌then◌else◌}
use Rattle.std.proofs.lemmas.List.{length-take}
use Rattle.std.proofs.lemmas.Simd.{ones-mask_l, ones-mask_l_cons, mask_l-lt}
use lib.Lanes.{mask_l}
use mir.Val.{bool_byte}
use Rattle.rapid_model.specs.Edge.{Edge, fresh_edge, failures, next_window, probed, edge_after}
use Rattle.rapid_monitor.specs.ProbeWord.{window_bits, edge_word, word_after, is_down_word, newest_ok}
use Rattle.rapid_monitor.specs.BoardRule.{is_down_after, IsDown}
use Rattle.rapid_monitor.proofs.Windows.{edge_after-append, failures-cons, length_take}

-- ---- a window as bits

bits_are : (window : List Bool) → window_bits window ≡ mask_l window
bits_are [] = refl
bits_are (x ∷ window) = ap (λ n. cond x 1 0 + 2 * n) (bits_are window)

ones_are : (window : List Bool) → count_ones (mask_l window) ≡ failures window
ones_are [] = ones-mask_l (λ b. b) []
ones_are (x ∷ window) = ones-mask_l_cons x window ∙ ap (λ n. cond x 1 0 + n) (ones_are window) ∙ sym (failures-cons x window)

-- the failures of a window are its bits that are set
pub ones_of : (window : List Bool) → count_ones (window_bits window) ≡ failures window
ones_of window = ap count_ones (bits_are window) ∙ ones_are window

few_bits : (window : List Bool) → length window ≤ 10 → window_bits window < 1024
few_bits window few =
    let below : mask_l window < 2 ^ length window = mask_l-lt window in
    let most : 2 ^ length window ≤ 2 ^ 10 = pow_mono few in
    let is = bits_are window in
    omega (arith, below, most, is)

abbrev raised : ℕ → ℕ → ℕ
raised zero m = m
raised (suc n) m = 2 * raised n m

raised_zero : (n : ℕ) → raised n 0 ≡ 0
raised_zero zero = refl
raised_zero (suc n) = let h = raised_zero n in omega (arith, h)

-- the bits of a window are those of its first results and, raised, those of the others
cut : (n : ℕ) (window : List Bool) → window_bits window ≡ window_bits (take n window) + raised n (window_bits (drop n window))
cut zero window = omega arith
cut (suc n) [] = let h = raised_zero n in omega (arith, h)
cut (suc n) (x ∷ window) = let h = cut n window in omega (arith, h)

slides : (x : Bool) (window : List Bool) → (2 * window_bits window + cond x 1 0) % 1024 ≡ window_bits (take 10 (x ∷ window))
slides x window =
    let all : window_bits (x ∷ window) ≡ window_bits (take 10 (x ∷ window)) + raised 10 (window_bits (drop 10 (x ∷ window))) = cut 10 (x ∷ window) in
    let few = few_bits (take 10 (x ∷ window)) (length_take 10 (x ∷ window)) in
    omega (arith, all, few)

-- ---- the parts of a word

pub record Parts (word bits count : ℕ) (down : Bool) : Type 0 where
  pub bits_are : word % 1024 ≡ bits
  pub count_is : word / 1024 % 16 ≡ count
  pub down_is : nat_le 16384 word ≡ down

parts : (bits count : ℕ) (down : Bool) → bits < 1024 → count ≤ 10 → Parts (bits + 1024 * count + (if down then 16384 else 0)) bits count down
parts bits count true few most = record { bits_are = omega (arith, few, most); count_is = omega (arith, few, most); down_is = grind (arith, few, most) }
parts bits count false few most = record { bits_are = omega (arith, few, most); count_is = omega (arith, few, most); down_is = grind (arith, few, most) }

few_after : (e : Edge) (oks : List Bool) → length e.window ≤ 10 → length (edge_after e oks).window ≤ 10
few_after e [] few = few
few_after e (ok ∷ oks) few = few_after (probed e ok) oks (length_take 10 (not ok ∷ e.window))

parts_after : (oks : List Bool) → let e = edge_after fresh_edge oks in Parts (word_after oks) (window_bits e.window) (length e.window) e.is_down
unfolding word_after
parts_after oks =
    let e = edge_after fresh_edge oks in
    let few = few_after fresh_edge oks (omega arith) in
    parts (window_bits e.window) (length e.window) e.is_down (few_bits e.window few) few

-- a word says whether its edge is down
pub down_of : (oks : List Bool) → is_down_word (word_after oks) ≡ is_down_after oks
down_of oks = (parts_after oks).down_is

-- ---- one more result

-- the word after one more result, by the bits of the word before
pub next_is :
    (oks : List Bool) (ok : Bool) {word failed window count ones : ℕ} {down : Bool} →
    word ≡ word_after oks → failed ≡ bool_byte (not ok) → window ≡ (2 * (word % 1024) + failed) % 1024 → count ≡ min (word / 1024 % 16 + 1) 10 → ones ≡ count_ones window →
    down ≡ (is_down_word word || nat_le 4 ones) → window + 1024 * count + (if down then 16384 else 0) ≡ word_after (oks ++ ok ∷ [])
unfolding word_after
next_is oks ok {word} {failed} {window} {count} {ones} {down} word_is failed_is window_is count_is ones_is down_is =
    let e = edge_after fresh_edge oks in
    let before = parts_after oks in
    let next : List Bool = take 10 (not ok ∷ e.window) in
    let bits : window ≡ window_bits next = window_is ∙ ap₂ (λ (n m : ℕ). (2 * (n % 1024) + m) % 1024) word_is (failed_is ∙ byte_is (not ok)) ∙ ap (λ n. (2 * n + cond (not ok) 1 0) % 1024) before.bits_are ∙ slides (not ok) e.window in
    let few = few_after fresh_edge oks (omega arith) in
    let long : length next ≡ min 10 (length (not ok ∷ e.window)) = length-take 10 (not ok ∷ e.window) in
    let counted : count ≡ length next = let w = ap (λ n. n / 1024 % 16) word_is in let b = before.count_is in omega (arith, count_is, w, b, long, few) in
    let fell : nat_le 4 ones ≡ nat_le 4 (failures next) = ap (λ n. nat_le 4 n) (ones_is ∙ ap count_ones bits ∙ ones_of next) in
    let downs : down ≡ (probed e ok).is_down = down_is ∙ ap₂ (λ (a b : Bool). a || b) (ap is_down_word word_is ∙ before.down_is) fell in
    (λ i. bits i + 1024 * counted i + (if downs i then 16384 else 0)) ∙ ap edge_word (sym (edge_after-append fresh_edge oks ok))
  where
    byte_is : (b : Bool) → bool_byte b ≡ cond b 1 0
    byte_is true = refl
    byte_is false = refl

odd : (ok : Bool) (bits count : ℕ) (down : Bool) → ((cond (not ok) 1 0 + 2 * bits + 1024 * count + (if down then 16384 else 0)) % 2 == 0) ≡ ok
odd true bits count true = grind arith
odd true bits count false = grind arith
odd false bits count true = grind arith
odd false bits count false = grind arith

-- the newest result of a word is the last
pub newest_is : (oks : List Bool) (ok : Bool) → newest_ok (word_after (oks ++ ok ∷ [])) ≡ ok
unfolding word_after
newest_is oks ok =
    let e = edge_after fresh_edge oks in
    ap (λ (x : Edge). newest_ok (edge_word x)) (edge_after-append fresh_edge oks ok) ∙ odd ok (window_bits (take 9 e.window)) (length (take 10 (not ok ∷ e.window))) (probed e ok).is_down

-- an edge that is down stays so
pub still_down : (oks : List Bool) (ok : Bool) → IsDown oks → IsDown (oks ++ ok ∷ [])
still_down oks ok down =
    ap (λ (x : Edge). x.is_down) (edge_after-append fresh_edge oks ok) ∙ ap (λ b. b || nat_le 4 (failures (next_window (edge_after fresh_edge oks).window ok))) down

-- ---- the store of a word

-- the word of one more result says which result that is
pub stored_word : (before found : List Bool) (ok : Bool) (next : ℕ) → found ≡ before → next ≡ word_after (before ++ ok ∷ []) → next ≡ word_after (found ++ newest_ok next ∷ [])
stored_word before found ok next same is =
    let newest : newest_ok next ≡ ok = ap newest_ok is ∙ newest_is before ok in
    is ∙ (λ i. word_after (sym same i ++ sym newest i ∷ []))

pub stored_results : (before found after : List Bool) (ok : Bool) (next : ℕ) → found ≡ before → next ≡ word_after (before ++ ok ∷ []) → after ≡ found ++ newest_ok next ∷ [] → after ≡ before ++ ok ∷ []
stored_results before found after ok next same is more =
    let newest : newest_ok next ≡ ok = ap newest_ok is ∙ newest_is before ok in
    more ∙ (λ i. same i ++ newest i ∷ [])
