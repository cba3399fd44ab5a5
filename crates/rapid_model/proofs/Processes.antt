-- A process is read where its bytes stand, what is read is one, and none begins another.
use Rattle.std.proofs.Common.{◌≡◌, ℕ, zero, suc, ◌-◌, ◌≤◌, false, cond, List, [], ◌∷◌, ◌++◌, length, take, drop, refl, sym, ap, subst, ◌∙◌, append_assoc, length-append, arith}
use Rattle.std.specs.Prelude.{All, nat_lt, Result, Ok, Err}
use Rattle.std.specs.List.{concat}
use Rattle.std.proofs.lemmas.Bool.{le-ltb, ltb-false}
use Rattle.std.proofs.lemmas.List.{take-append-drop, length-take-le, drop-append-le}
use Rattle.std.proofs.Math.Seq.{take-append_seam, drop-append_seam}
use Rattle.rapid_model.specs.Tags.{TagsFault, Truncated, AreTags, tags_of, after_tags}
use Rattle.rapid_model.specs.Process.{Process, IsProcess, before_rest, process_at}
use Rattle.rapid_model.specs.Reading.{ProcessesRead, and_others, goes_on, processes_at}
use Rattle.rapid_model.proofs.Tags.{passed, ok_is, spelt_tags_are_read, read_tags_are_spelt}

-- ---- parts of lists

-- the first part, and what is behind it
pub front : (n : ℕ) (xs ys : List ℕ) → length xs ≡ n → take n (xs ++ ys) ≡ xs
front n xs ys e = subst (λ k. take k (xs ++ ys) ≡ xs) e (take-append_seam xs ys)

pub behind : (n : ℕ) (xs ys : List ℕ) → length xs ≡ n → drop n (xs ++ ys) ≡ ys
behind n xs ys e = subst (λ k. drop k (xs ++ ys) ≡ ys) e (drop-append_seam xs ys)

-- what stands in front of a rest
pub all_before : (xs ys : List ℕ) → take (length (xs ++ ys) - length ys) (xs ++ ys) ≡ xs
all_before xs ys =
    let e = length-append xs ys in
    front (length (xs ++ ys) - length ys) xs ys (omega (arith, e))

-- ---- one process

pub process_read : (p rest : List ℕ) → IsProcess p → process_at (p ++ rest) ≡ Ok (p, rest)
unfolding process_at
process_read p rest h =
    let all = length-append p rest in
    let enough : nat_lt (length (p ++ rest)) 22 ≡ false = le-ltb (length (p ++ rest)) 22 (omega (arith, all, h.long)) in
    let tags : after_tags (drop 22 (p ++ rest)) ≡ Ok rest =
    ap after_tags (drop-append-le 22 p rest h.long) ∙ spelt_tags_are_read (tags_of (drop 22 p)) (drop 22 p) rest h.tags in
    let given : List ℕ → Result (Process × List ℕ) TagsFault = λ u. Ok (u, rest) in
    (λ i. cond (enough i) (Err Truncated) (before_rest (p ++ rest) (tags i))) ∙ ap given (all_before p rest)

-- what stands before a rest that was read
rest_ok : (bytes : List ℕ) (r : Result (List ℕ) TagsFault) (x : Process × List ℕ) → before_rest bytes r ≡ Ok x
    → (rest : List ℕ) × (r ≡ Ok rest) × ((take (length bytes - length rest) bytes, rest) ≡ x)
rest_ok bytes (Ok rest) x h = (rest, refl, ok_is (take (length bytes - length rest) bytes, rest) x h)
rest_ok bytes (Err e) x h = absurd cc

-- The bytes are those of a process and a rest.
pub record IsRead (bytes : List ℕ) (x : Process × List ℕ) : Type 0 where
  pub spelt : bytes ≡ x.0 ++ x.1
  pub long : 22 ≤ length x.0
  pub tags : AreTags (tags_of (drop 22 x.0)) (drop 22 x.0)

pub process_taken : (bytes : List ℕ) (x : Process × List ℕ) → process_at bytes ≡ Ok x → IsRead bytes x
unfolding process_at
process_taken bytes x h =
    let one = passed (nat_lt (length bytes) 22) Truncated (before_rest bytes (after_tags (drop 22 bytes))) x h in
    let enough : 22 ≤ length bytes = ltb-false (length bytes) 22 one.0 in
    let two = rest_ok bytes (after_tags (drop 22 bytes)) x one.1 in
    let rest = two.0 in
    let three = read_tags_are_spelt (drop 22 bytes) rest two.1 in
    let key = take 22 bytes in
    let p : List ℕ = key ++ three.0 in
    let key_long : length key ≡ 22 = length-take-le 22 bytes enough in
    let whole : bytes ≡ p ++ rest =
    sym (take-append-drop 22 bytes) ∙ ap (λ l. key ++ l) three.2 ∙ sym (append_assoc key three.0 rest) in
    let taken : take (length bytes - length rest) bytes ≡ p =
    ap (λ l. take (length l - length rest) l) whole ∙ all_before p rest in
    let tags : drop 22 p ≡ three.0 = behind 22 key three.0 key_long in
    let all = length-append key three.0 in
    let is_read : IsRead bytes (p, rest) =
    record {
      spelt = whole;
      long = omega (arith, all, key_long);
      tags = subst (λ t. AreTags (tags_of t) t) (sym tags) three.1;
    } in
    subst (λ (z : Process × List ℕ). IsRead bytes z) ((λ i. (sym taken i, rest)) ∙ two.2) is_read

-- no process begins another
pub process_tell : (p q x y : List ℕ) → IsProcess p → IsProcess q → p ++ x ≡ q ++ y → (p ≡ q) × (x ≡ y)
process_tell p q x y h k e =
    let one : Process × List ℕ = (p, x) in
    let two : Process × List ℕ = (q, y) in
    let same = ok_is one two (sym (process_read p x h) ∙ ap process_at e ∙ process_read q y k) in
    (ap (λ z. z.0) same, ap (λ z. z.1) same)

-- ---- processes one after another

pub processes_read : (ps : List Process) (rest : List ℕ) → All IsProcess ps → processes_at (length ps) (concat ps ++ rest) ≡ Ok (ps, rest)
unfolding processes_at
processes_read [] rest h = refl
processes_read (p ∷ ps) rest h =
    let one = process_read p (concat ps ++ rest) (h 0 p (omega arith)) in
    let more = processes_read ps rest (λ k d m. h (suc k) d (omega (arith, m))) in
    ap (λ bytes. goes_on (process_at bytes) (λ q after. and_others q (processes_at (length ps) after))) (append_assoc p (concat ps) rest)
    ∙ ap (λ r. goes_on r (λ q after. and_others q (processes_at (length ps) after))) one
    ∙ ap (and_others p) more

-- what a step gives
step_ok : (r : Result (Process × List ℕ) TagsFault) (f : Process → List ℕ → ProcessesRead) (x : List Process × List ℕ)
    → goes_on r f ≡ Ok x → (y : Process × List ℕ) × (r ≡ Ok y) × (f y.0 y.1 ≡ Ok x)
step_ok (Ok y) f x h = (y, refl, h)
step_ok (Err e) f x h = absurd cc

others_ok : (p : Process) (r : ProcessesRead) (x : List Process × List ℕ) → and_others p r ≡ Ok x
    → (y : List Process × List ℕ) × (r ≡ Ok y) × ((p ∷ y.0, y.1) ≡ x)
others_ok p (Ok y) x h = (y, refl, ok_is (p ∷ y.0, y.1) x h)
others_ok p (Err e) x h = absurd cc

-- The bytes are those of so many processes and a rest.
pub record AreRead (n : ℕ) (bytes : List ℕ) (x : List Process × List ℕ) : Type 0 where
  pub spelt : bytes ≡ concat x.0 ++ x.1
  pub count : length x.0 ≡ n

pub processes_taken : (n : ℕ) (bytes : List ℕ) (x : List Process × List ℕ) → processes_at n bytes ≡ Ok x → AreRead n bytes x
unfolding processes_at
processes_taken zero bytes x h =
    let none : List Process × List ℕ = ([], bytes) in
    subst (λ (z : List Process × List ℕ). AreRead zero bytes z) (ok_is none x h) (record { spelt = refl; count = refl })
processes_taken (suc n) bytes x h =
    let one = step_ok (process_at bytes) (λ p rest. and_others p (processes_at n rest)) x h in
    let p = one.0.0 in
    let first = process_taken bytes one.0 one.1 in
    let two = others_ok p (processes_at n one.0.1) x one.2 in
    let more = processes_taken n one.0.1 two.0 two.1 in
    let all : List Process × List ℕ = (p ∷ two.0.0, two.0.1) in
    let are : AreRead (suc n) bytes all =
    record {
      spelt = first.spelt ∙ ap (λ l. p ++ l) more.spelt ∙ sym (append_assoc p (concat two.0.0) two.0.1);
      count = ap suc more.count;
    } in
    subst (λ (z : List Process × List ℕ). AreRead (suc n) bytes z) two.2 are
