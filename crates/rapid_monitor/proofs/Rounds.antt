-- What a round makes of the seats of a book, and what a sink is told of it.
use Rattle.std.proofs.Common.{◌≡◌, ℕ, zero, suc, ◌+◌, add-one, ◌<◌, ◌≤◌, Bool, List, [], ◌∷◌, ◌++◌, length, take, drop, get_or, set, arith, refl, ap, ap₂, sym, subst, ◌∙◌}
use Rattle.std.specs.Prelude.{if◌then◌else◌}
use Rattle.rapid_model.specs.Process.{Process}
use Rattle.rapid_monitor.specs.Boards.{Owned}
use Rattle.rapid_monitor.specs.Probes.{judged, all_judged, goes_down, told_of, all_told}
use Rattle.rapid_monitor.specs.declared.probe_book.Probing.{Probing}

-- the seats after the first answers of a round
abbrev pub judged_to : ℕ → List Owned → List Probing → List Owned
judged_to n seats probings = all_judged (take n seats) (take n probings) ++ drop n seats

one_more : (i : ℕ) (seats : List Owned) (probings : List Probing) (s : Owned) (p : Probing) → i < length seats → i < length probings →
    set (judged_to i seats probings) i (judged (get_or (judged_to i seats probings) i s) (get_or probings i p).answered) ≡ judged_to (suc i) seats probings
one_more i [] probings s p l m = absurd (omega arith)
one_more i (x ∷ seats) [] s p l m = absurd (omega arith)
one_more zero (x ∷ seats) (y ∷ probings) s p l m = refl
one_more (suc i) (x ∷ seats) (y ∷ probings) s p l m = ap (λ (ys : List Owned). judged x y.answered ∷ ys) (one_more i seats probings s p (omega arith) (omega arith))

-- one more seat has taken its answer
pub judged_next : (i : ℕ) (seats now : List Owned) (probings : List Probing) (s after : Owned) (p : Probing) → length seats ≡ length probings → i < length probings →
    now ≡ judged_to i seats probings → s ≡ get_or now i s → p ≡ get_or probings i p → after ≡ judged s p.answered → set now i after ≡ judged_to (i + 1) seats probings
judged_next i seats now probings s after p many l is at asked h =
    ap₂ (λ (ys : List Owned) (y : Owned). set ys i y) is (h ∙ ap₂ (λ (x : Owned) (q : Probing). judged x q.answered) (at ∙ ap (λ (ys : List Owned). get_or ys i s) is) asked)
    ∙ subst (λ n. set (judged_to i seats probings) i (judged (get_or (judged_to i seats probings) i s) (get_or probings i p).answered) ≡ judged_to n seats probings) (sym (add-one i))
    (one_more i seats probings s p (omega (arith, many, l)) l)

whole : (n : ℕ) (seats : List Owned) (probings : List Probing) → length seats ≡ length probings → length seats ≤ n → judged_to n seats probings ≡ all_judged seats probings
whole zero [] probings many l = refl
whole (suc n) [] probings many l = refl
whole zero (x ∷ seats) probings many l = absurd (omega arith)
whole (suc n) (x ∷ seats) [] many l = absurd (omega arith)
whole (suc n) (x ∷ seats) (y ∷ probings) many l = ap (λ (ys : List Owned). judged x y.answered ∷ ys) (whole n seats probings (omega arith) (omega arith))

-- all seats have taken theirs
pub judged_all : (n : ℕ) (seats now : List Owned) (probings : List Probing) → length seats ≡ length probings → n ≡ length probings → now ≡ judged_to n seats probings → now ≡ all_judged seats probings
judged_all n seats now probings many l is = is ∙ whole n seats probings many (omega (arith, many, l))

-- a seat whose turn has not come is as it was
untouched : (i : ℕ) (seats : List Owned) (probings : List Probing) (s : Owned) → i < length seats → i < length probings → get_or (judged_to i seats probings) i s ≡ get_or seats i s
untouched i [] probings s l m = absurd (omega arith)
untouched i (x ∷ seats) [] s l m = absurd (omega arith)
untouched zero (x ∷ seats) (y ∷ probings) s l m = refl
untouched (suc i) (x ∷ seats) (y ∷ probings) s l m = untouched i seats probings s (omega arith) (omega arith)

-- what a sink is after it was told of the first edges of a round
abbrev pub told_to : {X : Type 0} → (X → ℕ → Process → X) → (X → ℕ → Process → X) → ℕ → X → List Owned → List Probing → X
told_to probed went_down n x seats probings = all_told probed went_down x (take n seats) (take n probings)

told_more : {X : Type 0} (probed went_down : X → ℕ → Process → X) (i : ℕ) (x : X) (seats : List Owned) (probings : List Probing) (s : Owned) (p : Probing) → i < length seats → i < length probings →
    told_of probed went_down (told_to probed went_down i x seats probings) (get_or seats i s) (get_or probings i p) ≡ told_to probed went_down (suc i) x seats probings
told_more f g i x [] probings s p l m = absurd (omega arith)
told_more f g i x (t ∷ seats) [] s p l m = absurd (omega arith)
told_more f g zero x (t ∷ seats) (y ∷ probings) s p l m = refl
told_more f g (suc i) x (t ∷ seats) (y ∷ probings) s p l m = told_more f g i (told_of f g x t y) seats probings s p (omega arith) (omega arith)

-- a sink is told of one more edge
pub told_next : {X : Type 0} (probed went_down : X → ℕ → Process → X) (i : ℕ) (x now after : X) (seats at : List Owned) (probings : List Probing) (s : Owned) (p : Probing) (down : Bool) →
    length seats ≡ length probings → i < length probings → at ≡ judged_to i seats probings → s ≡ get_or at i s → p ≡ get_or probings i p → down ≡ goes_down s p.answered →
    now ≡ told_to probed went_down i x seats probings → after ≡ probed (if down then went_down now p.ring p.subject else now) p.ring p.subject →
    after ≡ told_to probed went_down (i + 1) x seats probings
told_next f g i x now after seats at probings s p down many l at_is seat_is probing_is down_is now_is after_is =
    let seat : s ≡ get_or seats i s = seat_is ∙ ap (λ (ys : List Owned). get_or ys i s) at_is ∙ untouched i seats probings s (omega (arith, many, l)) l in
    after_is
    ∙ ap (λ (b : Bool). f (if b then g now p.ring p.subject else now) p.ring p.subject) down_is
    ∙ ap (λ y. told_of f g y s p) now_is
    ∙ ap₂ (λ (a : Owned) (q : Probing). told_of f g (told_to f g i x seats probings) a q) seat probing_is
    ∙ subst (λ n. told_of f g (told_to f g i x seats probings) (get_or seats i s) (get_or probings i p) ≡ told_to f g n x seats probings) (sym (add-one i))
    (told_more f g i x seats probings s p (omega (arith, many, l)) l)

told_whole : {X : Type 0} (probed went_down : X → ℕ → Process → X) (n : ℕ) (x : X) (seats : List Owned) (probings : List Probing) → length seats ≡ length probings → length seats ≤ n →
    told_to probed went_down n x seats probings ≡ all_told probed went_down x seats probings
told_whole f g zero x [] probings many l = refl
told_whole f g (suc n) x [] probings many l = refl
told_whole f g zero x (t ∷ seats) probings many l = absurd (omega arith)
told_whole f g (suc n) x (t ∷ seats) [] many l = absurd (omega arith)
told_whole f g (suc n) x (t ∷ seats) (y ∷ probings) many l = told_whole f g n (told_of f g x t y) seats probings (omega arith) (omega arith)

-- a sink was told of all edges
pub told_all : {X : Type 0} (probed went_down : X → ℕ → Process → X) (n : ℕ) (x now : X) (seats : List Owned) (probings : List Probing) → length seats ≡ length probings → n ≡ length probings →
    now ≡ told_to probed went_down n x seats probings → now ≡ all_told probed went_down x seats probings
told_all f g n x now seats probings many l is = is ∙ told_whole f g n x seats probings many (omega (arith, many, l))
