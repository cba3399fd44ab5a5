-- Processes that are all of some bytes.
use Rattle.std.proofs.Common.{◌≡◌, ℕ, zero, suc, ◌+◌, ◌-◌, ◌≤◌, ◌<◌, List, [], ◌∷◌, ◌++◌, length, take, drop, get_or, refl, sym, ap, subst, ◌∙◌, append_assoc, append-nil, arith}
use Rattle.std.specs.Prelude.{All, Bool, nat_eq, ◌&&◌, Decides, Result, Ok, Err}
use Rattle.std.specs.List.{concat}
use Rattle.std.specs.Cmp.{both_ways}
use Rattle.std.specs.Cmp.Lexicographic.{lists_total}
use Rattle.std.specs.FinSet.{slice_cmp-IsAntisymmetric}
use Rattle.std.proofs.lemmas.Bool.{eqb-true, eq-eqb}
use Rattle.std.proofs.lemmas.List.{take_more}
use Rattle.std.proofs.lemmas.List.Elements.{All-nil, All-cons, All-take, All-drop}
use Rattle.std.proofs.Math.Seq.{take-append_seam, drop-append_seam}
use Rattle.rapid_model.specs.Tags.{TagsFault, is_below, ascend_from}
use Rattle.rapid_model.specs.Process.{Process, IsProcess, process_at}
use Rattle.rapid_model.specs.Reading.{ProcessesRead, and_others, goes_on, processes_at, read_in}
use Rattle.rapid_model.proofs.Orders.{processes_total, processes_exact, tie_decides}
use Rattle.rapid_model.proofs.Tags.{ok_is}
use Rattle.rapid_model.proofs.Processes.{process_taken, processes_read, processes_taken}
use Rattle.rapid_endpoint.specs.Ends.{AreAll}
use Rattle.rapid_endpoint.specs.ProcessesIn.{from_first, processes_in, same_processes}
use Rattle.rapid_endpoint.proofs.Keys.{all_behind}

-- ---- the bytes of a list

concat_push : (ps : List Process) (p : Process) → concat (ps ++ p ∷ []) ≡ concat ps ++ p
concat_push [] p = append-nil p
concat_push (q ∷ ps) p = ap (λ x. q ++ x) (concat_push ps p) ∙ sym (append_assoc q (concat ps) p)

-- one process more
pub concat_more : (ps : List Process) (i : ℕ) (d : Process) → i < length ps
    → concat (take i ps) ++ get_or ps i d ≡ concat (take (i + 1) ps)
concat_more ps i d l = sym (ap concat (take_more ps i d l) ∙ concat_push (take i ps) (get_or ps i d))

-- what is spelt of processes is all of its bytes
pub spelt_are_all : (ps : List Process) (bytes : List ℕ) → All IsProcess ps → bytes ≡ concat ps
    → processes_at (length ps) bytes ≡ Ok (ps, [])
spelt_are_all ps bytes h e =
    ap (processes_at (length ps)) (e ∙ sym (append-nil (concat ps))) ∙ processes_read ps [] h

-- ---- what was read, as the list of what can be read

then_is : (n : ℕ) (p : Process) (bytes : List ℕ) (r : ProcessesRead) (x : List Process × List ℕ)
    → ((y : List Process × List ℕ) → r ≡ Ok y → processes_in n bytes ≡ y.0) → and_others p r ≡ Ok x
    → p ∷ processes_in n bytes ≡ x.0
then_is n p bytes (Ok y) x more h = ap (λ l. p ∷ l) (more y refl) ∙ ap (λ z. z.0) (ok_is (p ∷ y.0, y.1) x h)
then_is n p bytes (Err e) x more h = absurd cc

first_is : (n : ℕ) (r : Result (Process × List ℕ) TagsFault) (x : List Process × List ℕ)
    → ((bytes : List ℕ) (y : List Process × List ℕ) → processes_at n bytes ≡ Ok y → processes_in n bytes ≡ y.0)
    → goes_on r (λ p rest. and_others p (processes_at n rest)) ≡ Ok x
    → from_first r (λ p rest. p ∷ processes_in n rest) ≡ x.0
first_is n (Ok y) x more h = then_is n y.0 y.1 (processes_at n y.1) x (more y.1) h
first_is n (Err e) x more h = absurd cc

pub in_is : (n : ℕ) (bytes : List ℕ) (x : List Process × List ℕ) → processes_at n bytes ≡ Ok x → processes_in n bytes ≡ x.0
unfolding processes_at
in_is zero bytes x h =
    let none : List Process × List ℕ = ([], bytes) in
    ap (λ (z : List Process × List ℕ). z.0) (ok_is none x h)
in_is (suc n) bytes x h = first_is n (process_at bytes) x (in_is n) h

-- ---- processes that are all of the bytes

pub all_in : (n : ℕ) (bytes : List ℕ) → AreAll (processes_at n bytes) → processes_in n bytes ≡ read_in (processes_at n bytes)
all_in n bytes all = in_is n bytes (all.0, []) all.1 ∙ sym (ap read_in all.1)

pub count_is : (n : ℕ) (bytes : List ℕ) → AreAll (processes_at n bytes) → n ≡ length (read_in (processes_at n bytes))
count_is n bytes all =
    sym (ap (λ r. length (read_in r)) all.1 ∙ (processes_taken n bytes (all.0, []) all.1).count)

pub bytes_are : (n : ℕ) (bytes : List ℕ) → AreAll (processes_at n bytes) → bytes ≡ concat (read_in (processes_at n bytes))
bytes_are n bytes all =
    (processes_taken n bytes (all.0, []) all.1).spelt ∙ append-nil (concat all.0) ∙ sym (ap (λ r. concat (read_in r)) all.1)

-- ---- each that can be read is a process

all_bytes : (bytes xs ys : List ℕ) → All (λ b. b < 256) bytes → bytes ≡ xs ++ ys → All (λ b. b < 256) xs × All (λ b. b < 256) ys
all_bytes bytes xs ys h e =
    let all = subst (All (λ b. b < 256)) e h in (
      subst (All (λ b. b < 256)) (take-append_seam xs ys) (All-take (λ b. b < 256) (length xs) (xs ++ ys) all),
      subst (All (λ b. b < 256)) (drop-append_seam xs ys) (All-drop (λ b. b < 256) (length xs) (xs ++ ys) all),
    )

each_is : (n : ℕ) (bytes : List ℕ) (r : Result (Process × List ℕ) TagsFault) → All (λ b. b < 256) bytes
    → process_at bytes ≡ r → ((rest : List ℕ) → All (λ b. b < 256) rest → All IsProcess (processes_in n rest))
    → All IsProcess (from_first r (λ p rest. p ∷ processes_in n rest))
each_is n bytes (Ok x) h e more =
    let taken = process_taken bytes x e in
    let small = all_bytes bytes x.0 x.1 h taken.spelt in
    All-cons IsProcess x.0 (processes_in n x.1) (record { long = taken.long; bytes = small.0; tags = taken.tags }) (more x.1 small.1)
each_is n bytes (Err e) h _ more = All-nil IsProcess

pub in_are_processes : (n : ℕ) (bytes : List ℕ) → All (λ b. b < 256) bytes → All IsProcess (processes_in n bytes)
in_are_processes zero bytes h = All-nil IsProcess
in_are_processes (suc n) bytes h = each_is n bytes (process_at bytes) h refl (in_are_processes n)

pub are_processes : (n : ℕ) (bytes : List ℕ) → AreAll (processes_at n bytes) → All (λ b. b < 256) bytes
    → All IsProcess (read_in (processes_at n bytes))
are_processes n bytes all h = subst (All IsProcess) (all_in n bytes all) (in_are_processes n bytes h)

-- ---- one process further

-- the first, and the others behind it
pub next_in : (n k : ℕ) (bytes : List ℕ) (p : Process) → 0 < n → process_at bytes ≡ Ok (p, drop k bytes)
    → processes_in n bytes ≡ p ∷ processes_in (n - 1) (take (length bytes - k) (drop k bytes))
next_in zero k bytes p h e = absurd (omega (arith, h))
next_in (suc n) k bytes p h e =
    let one_less : suc n - 1 ≡ n = omega arith in
    ap (λ r. from_first r (λ q rest. q ∷ processes_in n rest)) e
    ∙ (λ i. p ∷ processes_in (sym one_less i) (sym (all_behind k bytes) i))

pub none_in : (n : ℕ) (bytes : List ℕ) (e : TagsFault) → process_at bytes ≡ Err e → processes_in n bytes ≡ []
none_in zero bytes e h = refl
none_in (suc n) bytes e h = ap (λ r. from_first r (λ q rest. q ∷ processes_in n rest)) h

first_more : (n : ℕ) (r : Result (Process × List ℕ) TagsFault) → ((bytes : List ℕ) → length (processes_in n bytes) ≤ n)
    → length (from_first r (λ p rest. p ∷ processes_in n rest)) ≤ suc n
first_more n (Ok x) more = omega (arith, more x.1)
first_more n (Err e) more = omega arith

-- no more of them than are asked for
pub no_more_in : (n : ℕ) (bytes : List ℕ) → length (processes_in n bytes) ≤ n
no_more_in zero bytes = omega arith
no_more_in (suc n) bytes = first_more n (process_at bytes) (no_more_in n)

-- the test of order, one further
pub ascend_further : (n i : ℕ) (bytes rest : List ℕ) (before p : Process) (b below : Bool) → i < n → process_at bytes ≡ Ok (p, rest)
    → is_below before p ≡ below → ascend_from before (processes_in (n - i) bytes) ≡ b
    → (below && ascend_from p (processes_in (n - (i + 1)) rest)) ≡ b
ascend_further n i bytes rest before p b below l e is so_far =
    let left = n - (i + 1) in
    let k : n - i ≡ suc left = omega arith in
    let all : processes_in (n - i) bytes ≡ p ∷ processes_in left rest =
    ap (λ m. processes_in m bytes) k ∙ ap (λ r. from_first r (λ q after. q ∷ processes_in left after)) e in
    ap (λ c. c && ascend_from p (processes_in left rest)) (sym is) ∙ sym (ap (ascend_from before) all) ∙ so_far

-- ---- two lists

-- what is decided is whether numbers and bytes are the same
pub same_lists : (m n : ℕ) (a b : List ℕ) (r : Bool) → AreAll (processes_at m a) → AreAll (processes_at n b)
    → Decides r ((m ≡ n) × (a ≡ b)) → r ≡ same_processes (read_in (processes_at m a)) (read_in (processes_at n b))
same_lists m n a b r h k d =
    let v = read_in (processes_at m a) in
    let w = read_in (processes_at n b) in
    let same = tie_decides (lists_total processes_total) (slice_cmp-IsAntisymmetric processes_exact) v w in
    both_ways r (same_processes v w)
    (λ t. let p = d.0 t in same.1 (λ i. read_in (processes_at (p.0 i) (p.1 i))))
    (λ t. let e = same.0 t in
    d.1 (count_is m a h ∙ ap length e ∙ sym (count_is n b k), bytes_are m a h ∙ ap concat e ∙ sym (bytes_are n b k)))

-- lists of other lengths are not the same
pub other_lengths : (v w : List Process) (m n : ℕ) → m ≡ length v → n ≡ length w → (m ≡ n → ⊥) → nat_eq m n ≡ same_processes v w
other_lengths v w m n e f h =
    let same = tie_decides (lists_total processes_total) (slice_cmp-IsAntisymmetric processes_exact) v w in
    both_ways (nat_eq m n) (same_processes v w) (λ t. absurd (h (eqb-true m n t)))
    (λ t. eq-eqb m n (e ∙ ap length (same.0 t) ∙ sym f))
