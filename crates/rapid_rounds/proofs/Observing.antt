-- What is said of observed edges, and who looks at them.
use Rattle.std.proofs.Common.{◌≡◌, ◌≢◌, ℕ, zero, suc, ◌+◌, add-one, ◌<◌, ◌≤◌, ◌==◌, Bool, true, false, List, [], ◌∷◌, ◌++◌, length, map, take, get_or, Option, Some, None, inl, inr, arith, refl, ap, ap₂, sym, subst, ◌∙◌}
use Rattle.std.specs.Prelude.{IsTrue, if◌then◌else◌}
use Rattle.std.proofs.Math.Seq.{get_or-append_seam}
use Rattle.std.proofs.lemmas.Bool.{eqb-true, eqb-false, false≢true}
use Rattle.std.proofs.lemmas.List.{get_or_append_left, length-append, length-map}
use Rattle.rapid_monitor.specs.BoardRule.{IsIn}
use Rattle.rapid_monitor.specs.Boards.{Watching}
use Rattle.rapid_rounds.specs.Edges.{SameBoard, KnowsDown, Answered, AllAnswered, down_of}
use Rattle.rapid_rounds.specs.declared.edge_state.EdgeState.{EdgeState}

-- The same board is looked at as at the beginning.
pub still_same : (a b c : Option Watching) → SameBoard a b → SameBoard b c → SameBoard a c
still_same None b c p q = subst (λ x. SameBoard x c) p q
still_same (Some x) None c p q = absurd p
still_same (Some x) (Some y) None p q = absurd q
still_same (Some x) (Some y) (Some z) p q = (q.0 ∙ p.0, q.1 ∙ p.1)

pub same_itself : (a : Option Watching) → SameBoard a a
same_itself None = refl
same_itself (Some x) = (refl, refl)

-- A list with one more behind.
pub one_behind : {X A : Type 0} (f : X → A) (xs : List X) (x : X) → map f (xs ++ x ∷ []) ≡ map f xs ++ f x ∷ []
one_behind f [] x = refl
one_behind f (y ∷ xs) x = ap (λ ys. f y ∷ ys) (one_behind f xs x)

one_more : {X : Type 0} (i : ℕ) (xs : List X) (x : X) → i < length xs → x ≡ get_or xs i x → take i xs ++ x ∷ [] ≡ take (suc i) xs
one_more i [] x l is = absurd (omega arith)
one_more zero (y ∷ xs) x l is = ap (λ z. z ∷ []) is
one_more (suc i) (y ∷ xs) x l is = ap (λ ys. y ∷ ys) (one_more i xs x (omega arith) is)

-- One more is said, of the next edge.
pub said_next : {X Y : Type 0} (g : Y → X) (i : ℕ) (xs : List X) (x : X) (ys after : List Y) (y : Y) → i < length xs → x ≡ get_or xs i x →
    map g ys ≡ take i xs → after ≡ ys ++ y ∷ [] → g y ≡ x → map g after ≡ take (i + 1) xs
said_next g i xs x ys after y l is so_far behind same =
    ap (map g) behind ∙ one_behind g ys y ∙ ap₂ (λ zs z. zs ++ z ∷ []) so_far same
    ∙ subst (λ n. take i xs ++ x ∷ [] ≡ take n xs) (sym (add-one i)) (one_more i xs x l is)

whole : {X : Type 0} (n : ℕ) (xs : List X) → length xs ≤ n → take n xs ≡ xs
whole zero [] l = refl
whole (suc n) [] l = refl
whole zero (x ∷ xs) l = absurd (omega arith)
whole (suc n) (x ∷ xs) l = ap (λ ys. x ∷ ys) (whole n xs (omega arith))

-- It is said of all edges.
pub said_all : {X Y : Type 0} (g : Y → X) (n : ℕ) (xs : List X) (ys : List Y) → length xs ≤ n → map g ys ≡ take n xs → map g ys ≡ xs
said_all g n xs ys l is = is ∙ whole n xs l

-- Without a watcher no edge is down.
pub unwatched : (edge : ℕ) → Answered None None edge false
unwatched edge = record { down = λ h. absurd (false≢true h); known = λ h. absurd h; others = λ other apart h. h; kept = λ other h. h }

-- Nor is one that its board does not have.
pub not_on_board : (b : Watching) (edge : ℕ) → b.edges ≤ edge → Answered (Some b) (Some b) edge false
not_on_board b edge l = record { down = λ h. absurd (false≢true h); known = λ h. let m = h.0 in absurd (omega (arith, l, m)); others = λ other apart h. h; kept = λ other h. h }

-- What an answer of a board says.
pub known_by : (old new : Watching) (edge : ℕ) (r : Bool) → edge < old.edges → new.edges ≡ old.edges → new.known ≡ (if r then edge ∷ old.known else old.known) →
    (IsIn edge old.known → IsTrue r) → Answered (Some old) (Some new) edge r
known_by old new edge true l same is again =
    record {
      down = λ _. (subst (λ n. edge < n) (sym same) l, subst (IsIn edge) (sym is) (inl refl));
      known = λ _. refl;
      others = λ other apart h. (subst (λ n. other < n) same h.0, other_of other old.known apart (subst (IsIn other) is h.1));
      kept = λ other h. (subst (λ n. other < n) (sym same) h.0, subst (IsIn other) (sym is) (inr h.1));
    }
  where
    other_of : (other : ℕ) (known : List ℕ) → other ≢ edge → IsIn other (edge ∷ known) → IsIn other known
    other_of other known apart (inl e) = absurd (apart e)
    other_of other known apart (inr h) = h
known_by old new edge false l same is again =
    record {
      down = λ h. absurd (false≢true h);
      known = λ h. absurd (false≢true (again (subst (IsIn edge) is h.1)));
      others = λ other apart h. (subst (λ n. other < n) same h.0, subst (IsIn other) is h.1);
      kept = λ other h. (subst (λ n. other < n) (sym same) h.0, subst (IsIn other) (sym is) h.1);
    }

module _ (a b c : Option Watching) (downs : List Bool) (d : Bool) (so_far : AllAnswered a b downs) (one : Answered b c (length downs) d) where
  at_end : (edge : ℕ) → edge ≡ length downs → get_or (downs ++ d ∷ []) edge false ≡ d
  at_end edge at = ap (λ n. get_or (downs ++ d ∷ []) n false) at ∙ get_or-append_seam downs d [] false

  down_by : (edge : ℕ) (q : Bool) → (edge == length downs) ≡ q → edge < length (downs ++ d ∷ []) → get_or (downs ++ d ∷ []) edge false ≡ true → KnowsDown c edge
  down_by edge true e l is = let at = eqb-true edge (length downs) e in subst (KnowsDown c) (sym at) (one.down (sym (at_end edge at) ∙ is))
  down_by edge false e l is =
      let apart = eqb-false edge (length downs) e in let long = length-append downs (d ∷ []) in let below : edge < length downs = omega (arith, l, long, apart) in
      one.kept edge (so_far.down edge below (sym (get_or_append_left downs (d ∷ []) false edge below) ∙ is))

  known_as : (edge : ℕ) (q : Bool) → (edge == length downs) ≡ q → edge < length (downs ++ d ∷ []) → KnowsDown c edge → get_or (downs ++ d ∷ []) edge false ≡ true
  known_as edge true e l h = let at = eqb-true edge (length downs) e in at_end edge at ∙ one.known (subst (KnowsDown c) at h)
  known_as edge false e l h =
      let apart = eqb-false edge (length downs) e in let long = length-append downs (d ∷ []) in let below : edge < length downs = omega (arith, l, long, apart) in
      get_or_append_left downs (d ∷ []) false edge below ∙ so_far.known edge below (one.others edge apart h)

  one_more_answer : AllAnswered a c (downs ++ d ∷ [])
  one_more_answer =
      record {
        down = λ edge. down_by edge (edge == length downs) refl;
        known = λ edge. known_as edge (edge == length downs) refl;
        kept = λ edge h. one.kept edge (so_far.kept edge h);
      }

-- One more is asked for, and answered.
pub answered_next : (i : ℕ) (a b c : Option Watching) (states after : List EdgeState) (s : EdgeState) (d : Bool) → length states ≡ i → AllAnswered a b (map down_of states) →
    Answered b c i d → s.is_down ≡ d → after ≡ states ++ s ∷ [] → AllAnswered a c (map down_of after)
answered_next i a b c states after s d count so_far one is behind =
    let long : i ≡ length (map down_of states) = sym (length-map states down_of ∙ count) in
    subst (AllAnswered a c) (sym (ap (map down_of) behind ∙ one_behind down_of states s ∙ ap (λ x. map down_of states ++ x ∷ []) is))
    (one_more_answer a b c (map down_of states) d so_far (subst (λ n. Answered b c n d) long one))

-- Nobody was asked.
pub nothing_asked : (a : Option Watching) → AllAnswered a a []
nothing_asked a = record { down = λ edge l. absurd (omega (arith, l)); known = λ edge l. absurd (omega (arith, l)); kept = λ edge h. h }
