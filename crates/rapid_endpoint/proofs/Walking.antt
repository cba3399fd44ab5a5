-- Processes that are read one after another, in a loop.
use Rattle.std.proofs.Common.{◌≡◌, ℕ, zero, suc, ◌-◌, ◌+◌, ◌≤◌, ◌<◌, List, [], ◌∷◌, ◌++◌, length, drop, refl, sym, ap, ◌∙◌, append_assoc, append-nil, arith}
use Rattle.std.specs.Prelude.{Ok, Err}
use Rattle.rapid_model.specs.Tags.{TagsFault}
use Rattle.rapid_model.specs.Process.{Process, process_at}
use Rattle.rapid_model.specs.Reading.{ProcessesRead, and_others, goes_on, processes_at}
use Rattle.rapid_endpoint.specs.Ends.{AreAll}

-- What is read behind these.
abbrev pub behind : List Process → ProcessesRead → ProcessesRead
behind qs (Ok x) = Ok (qs ++ x.0, x.1)
behind qs (Err e) = Err e

-- So many of the processes that are to be read stand before a place.
pub record Walked (count start i at : ℕ) (bytes : List ℕ) (qs : List Process) : Type 0 where
  pub within : at ≤ length bytes
  pub rest : processes_at count (drop start bytes) ≡ behind qs (processes_at (count - i) (drop at bytes))

abbrev some_read : List Process × List ℕ → ProcessesRead
some_read x = Ok x

behind_none : (r : ProcessesRead) → r ≡ behind [] r
behind_none (Ok x) = refl
behind_none (Err e) = refl

behind_one : (qs : List Process) (p : Process) (r : ProcessesRead) → behind qs (and_others p r) ≡ behind (qs ++ p ∷ []) r
behind_one qs p (Ok x) = λ i. Ok (sym (append_assoc qs (p ∷ []) x.0) i, x.1)
behind_one qs p (Err e) = refl

pub begun : (count start : ℕ) (bytes : List ℕ) → start ≤ length bytes → Walked count start 0 start bytes []
begun count start bytes l =
    let k : count - 0 ≡ count = omega arith in
    record { within = l; rest = behind_none _ ∙ ap (λ n. behind [] (processes_at n (drop start bytes))) (sym k) }

-- the next one
next_is : (n : ℕ) (bytes : List ℕ) → processes_at (suc n) bytes ≡ goes_on (process_at bytes) (λ p rest. and_others p (processes_at n rest))
unfolding processes_at
next_is n bytes = refl

none_is : (bytes : List ℕ) → processes_at zero bytes ≡ Ok ([], bytes)
unfolding processes_at
none_is bytes = refl

one_further : (count i : ℕ) (bytes : List ℕ) → i < count
    → processes_at (count - i) bytes ≡ goes_on (process_at bytes) (λ p rest. and_others p (processes_at (count - (i + 1)) rest))
one_further count i bytes l =
    let k : count - i ≡ suc (count - (i + 1)) = omega arith in
    ap (λ n. processes_at n bytes) k ∙ next_is (count - (i + 1)) bytes

pub step : (count start i at next : ℕ) (bytes : List ℕ) (qs : List Process) (p : Process) → Walked count start i at bytes qs → i < count
    → process_at (drop at bytes) ≡ Ok (p, drop next bytes) → next ≤ length bytes
    → Walked count start (i + 1) next bytes (qs ++ p ∷ [])
step count start i at next bytes qs p w l e n =
    record {
      within = n;
      rest =
          w.rest
          ∙ ap (behind qs) (one_further count i (drop at bytes) l ∙ ap (λ r. goes_on r (λ q rest. and_others q (processes_at (count - (i + 1)) rest))) e)
          ∙ behind_one qs p (processes_at (count - (i + 1)) (drop next bytes));
    }

pub stopped : (count start i at : ℕ) (bytes : List ℕ) (qs : List Process) (e : TagsFault) → Walked count start i at bytes qs → i < count
    → process_at (drop at bytes) ≡ Err e → processes_at count (drop start bytes) ≡ Err e
stopped count start i at bytes qs e w l h =
    w.rest ∙ ap (behind qs) (one_further count i (drop at bytes) l ∙ ap (λ r. goes_on r (λ q rest. and_others q (processes_at (count - (i + 1)) rest))) h)

-- if all are read the loop does not stop
pub not_stopped : (count start i at : ℕ) (bytes : List ℕ) (qs : List Process) (e : TagsFault) → Walked count start i at bytes qs → i < count
    → process_at (drop at bytes) ≡ Err e → AreAll (processes_at count (drop start bytes)) → ⊥
not_stopped count start i at bytes qs e w l h all = apart (all.0, []) e (sym all.1 ∙ stopped count start i at bytes qs e w l h)
  where
    apart : (x : List Process × List ℕ) (e : TagsFault) → some_read x ≡ Err e → ⊥
    apart x e h = cc

pub ended : (count start i at : ℕ) (bytes : List ℕ) (qs : List Process) → Walked count start i at bytes qs → count ≤ i
    → processes_at count (drop start bytes) ≡ Ok (qs, drop at bytes)
ended count start i at bytes qs w l =
    let k : count - i ≡ 0 = omega arith in
    w.rest ∙ ap (behind qs) (ap (λ n. processes_at n (drop at bytes)) k ∙ none_is (drop at bytes)) ∙ (λ i. Ok (append-nil qs i, drop at bytes))
