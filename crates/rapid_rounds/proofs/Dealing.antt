-- The seats that are dealt to the parts.
use Rattle.std.proofs.Common.{◌≡◌, ◌≢◌, ℕ, zero, suc, ◌+◌, add-one, ◌<◌, ◌≤◌, ◌==◌, Bool, true, false, List, [], ◌∷◌, ◌++◌, length, set, drop, get_or, append_assoc, append-nil, Option, None, ne_eqb, arith, refl, ap, ap₂, sym, ◌∙◌}
use Rattle.std.specs.Prelude.{◌%◌, min, zip, flat_map, option_to_list, if◌then◌else◌}
use Rattle.std.proofs.lemmas.Bool.{eqb-true}
use Rattle.rapid_model.specs.Process.{Process}
use Rattle.rapid_monitor.specs.Boards.{Owned}
use Rattle.rapid_rounds.specs.Edges.{dealt_seat, dealt_seats}

module _ {K V Y : Type 0} (g : K × V → List Y) where
  next_rest : (i : ℕ) (ks : List K) (vs : List V) (k : K) (v w : V) → i < length ks → i < length vs →
      flat_map g (drop i (zip ks vs)) ≡ g (get_or ks i k, get_or vs i v) ++ flat_map g (drop (suc i) (zip ks (set vs i w)))
  next_rest i [] vs k v w l m = absurd (omega arith)
  next_rest i (x ∷ ks) [] k v w l m = absurd (omega arith)
  next_rest zero (x ∷ ks) (y ∷ vs) k v w l m = refl
  next_rest (suc i) (x ∷ ks) (y ∷ vs) k v w l m = next_rest i ks vs k v w (omega arith) (omega arith)

  -- What stands at the next place was taken, and another value put there.
  pub taken_next : (i : ℕ) (ks : List K) (vs : List V) (k : K) (v w : V) (own after taken whole : List Y) → i < length ks → i < length vs → k ≡ get_or ks i k → v ≡ get_or vs i v →
      own ++ flat_map g (drop i (zip ks vs)) ≡ whole → after ≡ own ++ taken → taken ≡ g (k, v) → after ++ flat_map g (drop (i + 1) (zip ks (set vs i w))) ≡ whole
  taken_next i ks vs k v w own after taken whole l m at beside so_far more is =
      let rest = flat_map g (drop (suc i) (zip ks (set vs i w))) in
      ap₂ (λ (ys : List Y) n. ys ++ flat_map g (drop n (zip ks (set vs i w)))) (more ∙ ap (λ (ys : List Y). own ++ ys) is) (add-one i)
      ∙ append_assoc own (g (k, v)) rest
      ∙ ap₂ (λ (x : K) (y : V). own ++ (g (x, y) ++ rest)) at beside
      ∙ ap (λ (ys : List Y). own ++ ys) (sym (next_rest i ks vs k v w l m))
      ∙ so_far

  no_rest : (n : ℕ) (ks : List K) (vs : List V) → min (length ks) (length vs) ≤ n → flat_map g (drop n (zip ks vs)) ≡ []
  no_rest zero [] vs l = refl
  no_rest (suc n) [] vs l = refl
  no_rest zero (x ∷ ks) [] l = refl
  no_rest (suc n) (x ∷ ks) [] l = refl
  no_rest zero (x ∷ ks) (y ∷ vs) l = absurd (omega arith)
  no_rest (suc n) (x ∷ ks) (y ∷ vs) l = no_rest n ks vs (omega arith)

  -- All was taken.
  pub taken_all : (n : ℕ) (ks : List K) (vs : List V) (own whole : List Y) → min (length ks) (length vs) ≤ n → own ++ flat_map g (drop n (zip ks vs)) ≡ whole → own ≡ whole
  taken_all n ks vs own whole l is = sym (append-nil own) ∙ ap (λ (ys : List Y). own ++ ys) (sym (no_rest n ks vs l)) ∙ is

  same_beside : (i : ℕ) (ks : List K) (vs : List V) (k : K) (v w : V) → i < length ks → i < length vs → g (get_or ks i k, w) ≡ g (get_or ks i k, get_or vs i v) →
      flat_map g (zip ks (set vs i w)) ≡ flat_map g (zip ks vs)
  same_beside i [] vs k v w l m same = absurd (omega arith)
  same_beside i (x ∷ ks) [] k v w l m same = absurd (omega arith)
  same_beside zero (x ∷ ks) (y ∷ vs) k v w l m same = ap (λ (ys : List Y). ys ++ flat_map g (zip ks vs)) same
  same_beside (suc i) (x ∷ ks) (y ∷ vs) k v w l m same = ap (λ (ys : List Y). g (x, y) ++ ys) (same_beside i ks vs k v w (omega arith) (omega arith) same)

other_at : (n part q : ℕ) (o w : Option Owned) (b : Bool) → (n == part) ≡ b → q ≢ part → w ≡ (if b then None else o) →
    option_to_list (if n == q then w else None) ≡ option_to_list (if n == q then o else None)
other_at n part q o w true e apart is =
    let no : (n == q) ≡ false = ne_eqb n q (λ h. apart (sym h ∙ eqb-true n part e)) in
    ap (λ b. option_to_list (if b then w else None)) no ∙ sym (ap (λ b. option_to_list (if b then o else None)) no)
other_at n part q o w false e apart is = ap (λ (x : Option Owned). option_to_list (if n == q then x else None)) is

other_part : (parts part q : ℕ) (e : ℕ × Process) (o w : Option Owned) → q ≢ part → w ≡ (if e.0 % parts == part then None else o) → dealt_seat parts q (e, w) ≡ dealt_seat parts q (e, o)
other_part parts part q e o w apart is = other_at (e.0 % parts) part q o w (e.0 % parts == part) refl apart is

-- A part that takes a seat leaves the others theirs.
pub left_for_others : (parts part q i : ℕ) (edges : List (ℕ × Process)) (seats : List (Option Owned)) (e : ℕ × Process) (o w : Option Owned) → i < length edges → i < length seats →
    e ≡ get_or edges i e → o ≡ get_or seats i o → q ≢ part → w ≡ (if e.0 % parts == part then None else o) → dealt_seats edges (set seats i w) parts q ≡ dealt_seats edges seats parts q
left_for_others parts part q i edges seats e o w l m at beside apart is =
    same_beside (dealt_seat parts q) i edges seats e o w l m
    (ap (λ x. dealt_seat parts q (x, w)) (sym at) ∙ other_part parts part q e o w apart is ∙ ap₂ (λ x y. dealt_seat parts q (x, y)) at beside)
