-- What acknowledgements and rounds make of a book of probes.
use Rattle.std.proofs.Common.{◌≡◌, ℕ, zero, suc, ◌+◌, add-one, ◌<◌, Bool, true, List, [], ◌∷◌, ◌++◌, map, length, take, drop, get_or, set, arith, refl, ap, ap₂, sym, subst, ◌∙◌}
use Rattle.rapid_model.specs.Process.{Process}
use Rattle.rapid_monitor.specs.Probes.{BookValue, watched_when, book_when, probing_when, round_when, heard, unheard, asked}
use Rattle.rapid_monitor.specs.declared.probe_book.Watched.{Watched}
use Rattle.rapid_monitor.specs.declared.probe_book.Probing.{Probing}

changed : {X : Type 0} (f : X → X) (i : ℕ) (xs : List X) (d : X) → i < length xs →
    set (map f (take i xs) ++ drop i xs) i (f (get_or (map f (take i xs) ++ drop i xs) i d)) ≡ map f (take (suc i) xs) ++ drop (suc i) xs
changed f i [] d l = absurd (omega arith)
changed f zero (x ∷ xs) d l = refl
changed f (suc i) (x ∷ xs) d l = ap (λ ys. f x ∷ ys) (changed f i xs d (omega arith))

-- one more element of a list is changed
pub changed_next : {X : Type 0} (f : X → X) (i : ℕ) (xs now : List X) (x y : X) → i < length xs → now ≡ map f (take i xs) ++ drop i xs → x ≡ get_or now i x → y ≡ f x →
    set now i y ≡ map f (take (i + 1) xs) ++ drop (i + 1) xs
changed_next f i xs now x y l e g h =
    ap₂ (λ ys z. set ys i z) e (h ∙ ap f (g ∙ ap (λ ys. get_or ys i x) e))
    ∙ subst (λ n. set (map f (take i xs) ++ drop i xs) i (f (get_or (map f (take i xs) ++ drop i xs) i x)) ≡ map f (take n xs) ++ drop n xs) (sym (add-one i)) (changed f i xs x l)

-- all elements are changed
pub changed_all : {X : Type 0} (f : X → X) (xs now : List X) (n : ℕ) → n ≡ length xs → now ≡ map f (take n xs) ++ drop n xs → now ≡ map f xs
changed_all f [] now zero l e = e
changed_all f [] now (suc n) l e = absurd (omega arith)
changed_all f (x ∷ xs) now zero l e = absurd (omega arith)
changed_all f (x ∷ xs) now (suc n) l e = e ∙ ap (λ ys. f x ∷ ys) (changed_all f xs (map f (take n xs) ++ drop n xs) n (omega arith) refl)

heard_when : (p : Process) (acks : List Process) (subjects : List (ℕ × Process)) → map (heard p) (map (watched_when acks) subjects) ≡ map (watched_when (p ∷ acks)) subjects
heard_when p acks [] = refl
heard_when p acks (x ∷ xs) = ap (λ es. watched_when (p ∷ acks) x ∷ es) (heard_when p acks xs)

unheard_when : (acks : List Process) (subjects : List (ℕ × Process)) → map unheard (map (watched_when acks) subjects) ≡ map (watched_when []) subjects
unheard_when acks [] = refl
unheard_when acks (x ∷ xs) = ap (λ es. watched_when [] x ∷ es) (unheard_when acks xs)

asked_when : (begun : Bool) (acks : List Process) (subjects : List (ℕ × Process)) → map (asked begun) (map (watched_when acks) subjects) ≡ map (probing_when begun acks) subjects
asked_when begun acks [] = refl
asked_when begun acks (x ∷ xs) = ap (λ es. probing_when begun acks x ∷ es) (asked_when begun acks xs)

-- a process has acknowledged
pub heard_book : (p : Process) (subjects : List (ℕ × Process)) (begun : Bool) (acks : List Process) (old new : List Watched) (b : Bool) → record { edges = old; begun = b } ≡ book_when subjects begun acks →
    new ≡ map (heard p) old → record { edges = new; begun = b } ≡ book_when subjects begun (p ∷ acks)
heard_book p subjects begun acks old new b is e =
    ap₂ (λ (es : List Watched) (x : Bool). record { edges = es; begun = x }) (e ∙ ap (λ (v : BookValue). map (heard p) v.edges) is ∙ heard_when p acks subjects) (ap (λ (v : BookValue). v.begun) is)

-- a round begins
pub unheard_book : (subjects : List (ℕ × Process)) (begun : Bool) (acks : List Process) (old new : List Watched) (b : Bool) → record { edges = old; begun = b } ≡ book_when subjects begun acks →
    new ≡ map unheard old → record { edges = new; begun = true } ≡ book_when subjects true []
unheard_book subjects begun acks old new b is e =
    ap (λ (es : List Watched). record { edges = es; begun = true }) (e ∙ ap (λ (v : BookValue). map unheard v.edges) is ∙ unheard_when acks subjects)

-- what it answers
pub asked_book : (subjects : List (ℕ × Process)) (begun : Bool) (acks : List Process) (old : List Watched) (b : Bool) (answers : List Probing) → record { edges = old; begun = b } ≡ book_when subjects begun acks →
    answers ≡ map (asked b) old → answers ≡ round_when subjects begun acks
asked_book subjects begun acks old b answers is e =
    e ∙ ap (λ (v : BookValue). map (asked v.begun) v.edges) is ∙ asked_when begun acks subjects
