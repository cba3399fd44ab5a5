-- Processes that are read as a list, by where they end.
use Rattle.std.proofs.Common.{◌≡◌, ℕ, zero, suc, ◌<◌, ◌≤◌, Bool, true, false, cond, eqb, List, [], ◌∷◌, length, drop, Option, Some, None, refl, ap, ◌∙◌, arith, length-drop}
use Rattle.std.specs.Prelude.{Result, Ok, Err}
use Rattle.std.specs.Result.{result_ok}
use Rattle.std.proofs.lemmas.List.{drop_all}
use Rattle.rapid_model.specs.Tags.{TagsFault}
use Rattle.rapid_model.specs.Process as model
use Rattle.rapid_model.specs.Process.{Process}
use Rattle.rapid_model.specs.Reading.{ProcessesRead, and_others, goes_on, processes_at, read_in}
use Rattle.rapid_endpoint.specs.Ends.{AreAll}
use Rattle.rapid_wire.specs.Reading.{◌>>=◌, many, all_of, number_at, process_at, is_cut, cut_at}

-- ---- many processes are those that stand one after another

in_front : (p : Process) (r : ProcessesRead) → (result_ok r >>= λ y. Some (p ∷ y.0, y.1)) ≡ result_ok (and_others p r)
in_front p (Ok y) = refl
in_front p (Err e) = refl

one_more : (n : ℕ) (r : Result (Process × List ℕ) TagsFault) → ((bytes : List ℕ) → many n process_at bytes ≡ result_ok (processes_at n bytes))
    → (result_ok r >>= λ x. many n process_at x.1 >>= λ y. Some (x.0 ∷ y.0, y.1)) ≡ result_ok (goes_on r (λ p rest. and_others p (processes_at n rest)))
one_more n (Ok x) h = ap (λ o. o >>= λ y. Some (x.0 ∷ y.0, y.1)) (h x.1) ∙ in_front x.0 (processes_at n x.1)
one_more n (Err e) h = refl

many_are : (n : ℕ) (bytes : List ℕ) → many n process_at bytes ≡ result_ok (processes_at n bytes)
unfolding many process_at processes_at
many_are zero bytes = refl
many_are (suc n) bytes = one_more n (model.process_at bytes) (many_are n)

-- ---- just so many

-- they end with the bytes
pub all_read : (n end : ℕ) (bytes : List ℕ) (ps : List Process) → processes_at n bytes ≡ Ok (ps, drop end bytes) → length bytes ≤ end → AreAll (processes_at n bytes)
all_read n end bytes ps h l = let given : List ℕ → ProcessesRead = λ rest. Ok (ps, rest) in (ps, h ∙ ap given (drop_all end bytes l))

some_left : (n : ℕ) (bytes rest : List ℕ) (ps : List Process) → many n process_at bytes ≡ Some (ps, rest) → eqb (length rest) 0 ≡ false → all_of (many n process_at) bytes ≡ None
some_left n bytes rest ps h e = rw (h, e) refl

-- they end before the bytes do
pub not_all_read : (n end : ℕ) (bytes : List ℕ) (ps : List Process) → processes_at n bytes ≡ Ok (ps, drop end bytes) → end < length bytes → all_of (many n process_at) bytes ≡ None
not_all_read n end bytes ps h l =
    let left = length-drop end bytes in
    some_left n bytes (drop end bytes) ps (many_are n bytes ∙ ap result_ok h) (grind (arith, left, l))

-- they are not there
pub none_read : (n : ℕ) (bytes : List ℕ) (e : TagsFault) → processes_at n bytes ≡ Err e → all_of (many n process_at) bytes ≡ None
none_read n bytes e h = let none = many_are n bytes ∙ ap result_ok h in rw none refl

-- ---- cuts

alone : (b : Bool) (x : List Process × List ℕ) → eqb (length x.1) 0 ≡ true → ((cond b (Some x) None) >>= λ y. cond (eqb (length y.1) 0) (Some y.0) None) ≡ cond b (Some x.0) None
alone true x h = rw h refl
alone false x h = refl

-- bytes that are just so many processes are a cut if these are one
pub cut_announced : (bytes rest : List ℕ) (n : ℕ) → number_at bytes ≡ Some (n, rest) → AreAll (processes_at n rest)
    → all_of cut_at bytes ≡ cond (is_cut (read_in (processes_at n rest))) (Some (read_in (processes_at n rest))) None
unfolding cut_at
cut_announced bytes rest n e h =
    let m : many n process_at rest ≡ Some (h.0, []) = many_are n rest ∙ ap result_ok h.1 in
    let ps : read_in (processes_at n rest) ≡ h.0 = ap read_in h.1 in
    rw (e, m, ps) (alone (is_cut h.0) (h.0, []) refl)

still_none : (b : Bool) (x : List Process × List ℕ) → cond (eqb (length x.1) 0) (Some x.0) None ≡ None → ((cond b (Some x) None) >>= λ y. cond (eqb (length y.1) 0) (Some y.0) None) ≡ None
still_none true x h = h
still_none false x h = refl

none_alone : (o : Option (List Process × List ℕ)) → (o >>= λ x. cond (eqb (length x.1) 0) (Some x.0) None) ≡ None
    → ((o >>= λ x. cond (is_cut x.0) (Some x) None) >>= λ x. cond (eqb (length x.1) 0) (Some x.0) None) ≡ None
none_alone None h = refl
none_alone (Some x) h = still_none (is_cut x.0) x h

-- other bytes are no cut
pub no_cut_announced : (bytes rest : List ℕ) (n : ℕ) → number_at bytes ≡ Some (n, rest) → all_of (many n process_at) rest ≡ None → all_of cut_at bytes ≡ None
unfolding cut_at
no_cut_announced bytes rest n e h = rw e (none_alone (many n process_at rest) h)
