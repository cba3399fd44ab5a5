-- The bytes of processes that are found one by one.
use Rattle.std.proofs.Common.{◌≡◌, ◌≤◌, ℕ, ◌+◌, ◌<◌, List, [], ◌∷◌, ◌++◌, length, take, get_or, sym, ap, subst, ◌∙◌, append-nil, arith, cond}
use Rattle.std.specs.Prelude.{All, Bool, true, false, filter, Ok}
use Rattle.std.specs.List.{concat}
use Rattle.std.proofs.lemmas.List.{length_push, take_all}
use Rattle.std.proofs.lemmas.List.Elements.{All-push, filter_more}
use Rattle.std.proofs.lemmas.List.Folds.{concat-append}
use Rattle.rapid_model.specs.Process.{Process, IsProcess}
use Rattle.rapid_model.specs.Reading.{ProcessesRead, processes_at}
use Rattle.rapid_endpoint.proofs.Listed.{spelt_are_all}

-- These are the bytes of these processes, of which there are so many.
pub record AreSpelt (ps : List Process) (bytes : List ℕ) (count : ℕ) : Type 0 where
  pub bytes_are : bytes ≡ concat ps
  pub count_is : count ≡ length ps
  pub valid : All IsProcess ps

-- one more
one_spelt : (ps : List Process) (bytes more : List ℕ) (count next : ℕ) (p : Process) → more ≡ bytes ++ p → next ≡ count + 1 → AreSpelt ps bytes count → IsProcess p
    → AreSpelt (ps ++ p ∷ []) more next
one_spelt ps bytes more count next p e n are h =
    record {
      bytes_are = e ∙ ap (λ (b : List ℕ). b ++ p) are.bytes_are ∙ sym (concat-append ps (p ∷ []) ∙ ap (λ (b : List ℕ). concat ps ++ b) (append-nil p));
      count_is = omega (arith, n, length_push ps p, are.count_is);
      valid = All-push IsProcess ps p are.valid h;
    }

-- the process at the next place is found
pub found_spelt : (f : Process → Bool) (ps : List Process) (i : ℕ) (p : Process) (bytes more : List ℕ) (count next : ℕ) → i < length ps → p ≡ get_or ps i p → f p ≡ true → IsProcess p
    → more ≡ bytes ++ p → next ≡ count + 1 → AreSpelt (filter f (take i ps)) bytes count → AreSpelt (filter f (take (i + 1) ps)) more next
found_spelt f ps i p bytes more count next l is found h e n are =
    subst (λ (l : List Process). AreSpelt l more next)
    (sym (filter_more f ps i p l ∙ ap (λ (q : Process). filter f (take i ps) ++ cond (f q) (q ∷ []) []) (sym is) ∙ ap (λ (b : Bool). filter f (take i ps) ++ cond b (p ∷ []) []) found))
    (one_spelt (filter f (take i ps)) bytes more count next p e n are h)

-- it is not found
pub passed_spelt : (f : Process → Bool) (ps : List Process) (i : ℕ) (p : Process) (bytes : List ℕ) (count : ℕ) → i < length ps → p ≡ get_or ps i p → f p ≡ false
    → AreSpelt (filter f (take i ps)) bytes count → AreSpelt (filter f (take (i + 1) ps)) bytes count
passed_spelt f ps i p bytes count l is passed are =
    subst (λ (l : List Process). AreSpelt l bytes count)
    (sym
    (filter_more f ps i p l ∙ ap (λ (q : Process). filter f (take i ps) ++ cond (f q) (q ∷ []) []) (sym is)
    ∙ ap (λ (b : Bool). filter f (take i ps) ++ cond b (p ∷ []) []) passed ∙ append-nil (filter f (take i ps))))
    are

-- all that were found are read of the bytes, and nothing follows
pub spelt_read : (f : Process → Bool) (ps : List Process) (i : ℕ) (bytes : List ℕ) (count : ℕ) → length ps ≤ i → AreSpelt (filter f (take i ps)) bytes count
    → processes_at count bytes ≡ Ok (filter f ps, [])
spelt_read f ps i bytes count l are =
    ap (λ (n : ℕ). processes_at n bytes) are.count_is ∙ spelt_are_all (filter f (take i ps)) bytes are.valid are.bytes_are
    ∙ ap (λ (qs : List Process). let r : ProcessesRead = Ok (filter f qs, []) in r) (take_all i ps l)
