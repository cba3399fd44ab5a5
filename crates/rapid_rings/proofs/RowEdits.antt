-- One more name, one more joiner and one more edge in the rows of a table.
use Rattle.std.proofs.Common.{◌≡◌, ℕ, zero, suc, ◌+◌, ◌<◌, Bool, true, false, not, ◌&&◌, ◌||◌, cond, List, [], ◌∷◌, ◌++◌, length, get_or, set, refl, sym, ap, subst, ◌∙◌, Option, Some, None, slice_get, arith}
use Rattle.std.specs.Prelude.{replicate}
use Rattle.std.specs.Option.{option_and_then}
use Rattle.std.specs.Ordering.{nat_cmp, is_eq}
use Rattle.std.specs.FinSet as finset
use Rattle.std.specs.FinMap as finmap
use Rattle.std.proofs.lemmas.List.{get_or-set_same, get_or-set_other, length-append}
use Rattle.std.proofs.lemmas.List.Elements.{All-push, All-get_or}
use Rattle.std.proofs.lemmas.Option.{slice_get_within, get_or_from_slice_get}
use Rattle.rapid_model.specs.Limits.{most_rings}
use Rattle.rapid_model.specs.Process.{Process, same_bytes, is_in}
use Rattle.rapid_model.proofs.Orders.{processes_total, processes_exact, reports_total, reports_exact, same_bytes_decides}
use Rattle.rapid_model.proofs.Logic.{not_both}
use Rattle.rapid_config.proofs.Places.{in_by_place}
use Rattle.rapid_roster.specs.Once.{StandOnce}
use Rattle.rapid_roster.proofs.Indexing.{is_there}
use Rattle.rapid_rings.specs.declared.row.Row.{Row}
use Rattle.rapid_rings.specs.Rows.{Rows, blank, place_in, row_in, row_says, is_observed_in, is_unobserved_in, observer_by, joiners_of, edges_of, AreCells, AreRows, SaySame, AddsJoiner, AddsEdge}
use Rattle.rapid_rings.proofs.Lookups.{found_member}
use Rattle.rapid_rings.proofs.Sets.{if_true}
use Rattle.rapid_rings.proofs.RowLookups.{row_for, row_is, none_for, has_joiner, has_edge, same_edge, same_ring, is_ring}

-- ---- equal look-ups

same_joiners : (x y : Rows) → StandOnce x.names → StandOnce y.names → ((q : Process) → row_says (λ r. r.is_joiner) (row_in y q) ≡ row_says (λ r. r.is_joiner) (row_in x q)) → joiners_of y ≡ joiners_of x
same_joiners x y once after h = finset.same_set processes_total processes_exact _ _ (λ q. has_joiner y q after ∙ h q ∙ sym (has_joiner x q once))

same_edges : (x y : Rows) → StandOnce x.names → StandOnce y.names → ((q : Process) (k : ℕ) → option_and_then (observer_by y.names k) (row_in y q) ≡ option_and_then (observer_by x.names k) (row_in x q)) → edges_of y ≡ edges_of x
same_edges x y once after h = finmap.same_map reports_total reports_exact _ _ (λ e. has_edge y e.0 e.1 after ∙ h e.0 e.1 ∙ sym (has_edge x e.0 e.1 once))

pub say_same_both : (x y z : Rows) → SaySame x y → SaySame y z → SaySame x z
say_same_both x y z h k =
    record {
      joiners = k.joiners ∙ h.joiners;
      edges = k.edges ∙ h.edges;
      observed = λ p. k.observed p ∙ h.observed p;
      places = λ p i at. k.places p i (h.places p i at);
    }

-- what is said of a process is the same
pub same_unobserved : (x y : Rows) (p : Process) → SaySame x y → is_unobserved_in y p ≡ is_unobserved_in x p
same_unobserved x y p h = ap (λ b. not b && not (finset.contains (joiners_of y) p)) (h.observed p) ∙ ap (λ j. not (is_observed_in x p) && not (finset.contains j p)) h.joiners

pub edge_after : (x y z : Rows) (k : ℕ) (o s : Process) → SaySame x y → AddsEdge y z k o s → AddsEdge x z k o s
edge_after x y z k o s h a =
    record {
      joiners = a.joiners ∙ h.joiners;
      edges = a.edges ∙ ap (λ e. finmap.insert e (s, k) o) h.edges;
      observed = λ q. a.observed q ∙ ap (λ b. same_bytes q s || b) (h.observed q);
    }

-- ---- one more name

-- the rows with one more name
abbrev pub more : Rows → Process → Rows
more x p = record { names = x.names ++ p ∷ []; rows = x.rows ++ blank ∷ [] }

row_for_push : (ps : List Process) (rs : List Row) (p : Process) (b : Row) (q : Process) → length rs ≡ length ps → row_for (ps ++ p ∷ []) (rs ++ b ∷ []) q ≡ cond (is_in ps q) (row_for ps rs q) (cond (same_bytes q p) (Some b) None)
row_for_push [] [] p b q e = refl
row_for_push [] (r ∷ rs) p b q e = absurd (omega (arith, e))
row_for_push (s ∷ ps) [] p b q e = absurd (omega (arith, e))
row_for_push (s ∷ ps) (r ∷ rs) p b q e =
    elim (same_bytes q s) as (λ c. cond c (Some r) (row_for (ps ++ p ∷ []) (rs ++ b ∷ []) q) ≡ cond (c || is_in ps q) (cond c (Some r) (row_for ps rs q)) (cond (same_bytes q p) (Some b) None)) [
      | true ↦ refl
      | false ↦ row_for_push ps rs p b q (omega (arith, e))
    ]

row_in_more : (x : Rows) (p q : Process) → length x.rows ≡ length x.names → row_in (more x p) q ≡ cond (is_in x.names q) (row_in x q) (cond (same_bytes q p) (Some blank) None)
row_in_more x p q e =
    row_is (more x p) q ∙ row_for_push x.names x.rows p blank q e
    ∙ ap (λ r. cond (is_in x.names q) r (cond (same_bytes q p) (Some blank) None)) (sym (row_is x q))

-- what is found of all is what was found, if nothing is found in a blank row
found_in_more : {A : Type 0} (f g : Option Row → A) (x : Rows) (p q : Process) → length x.rows ≡ length x.names → f (row_in x q) ≡ g (row_in x q) → f None ≡ g None → f (Some blank) ≡ g None → f (row_in (more x p) q) ≡ g (row_in x q)
found_in_more f g x p q e h none empty =
    ap f (row_in_more x p q e)
    ∙ elim (is_in x.names q) as (λ b. is_in x.names q ≡ b → f (cond b (row_in x q) (cond (same_bytes q p) (Some blank) None)) ≡ g (row_in x q)) [
      | true ↦ λ t. h
      | false ↦ λ t. new (same_bytes q p) ∙ ap g (sym (row_is x q ∙ none_for x.names x.rows q t))
    ] refl
  where
    new : (b : Bool) → f (cond b (Some blank) None) ≡ g None
    new true = empty
    new false = none

get_before : {A : Type 0} (xs ys : List A) (i : ℕ) → i < length xs → slice_get (xs ++ ys) i ≡ slice_get xs i
get_before [] ys i l = absurd (omega (arith, l))
get_before (x ∷ xs) ys zero l = refl
get_before (x ∷ xs) ys (suc i) l = get_before xs ys i (omega (arith, l))

no_cell : (n k : ℕ) → get_or {A = Option ℕ} (replicate n None) k None ≡ None
no_cell zero k = refl
no_cell (suc n) zero = refl
no_cell (suc n) (suc k) = no_cell n k

-- the cells of a row that is found
cells_of : (x : Rows) (q : Process) (r : Row) → AreRows x → row_in x q ≡ Some r → AreCells (length x.names) r
cells_of x q r are e = by (place_in x q) e
  where
    by : (o : Option ℕ) → option_and_then (slice_get x.rows) o ≡ Some r → AreCells (length x.names) r
    by None e = cc
    by (Some i) e =
        subst (AreCells (length x.names)) (get_or_from_slice_get x.rows i r r e)
        (All-get_or (AreCells (length x.names)) x.rows i r (slice_get_within x.rows i r e) are.cells)

-- who is observed by whom is not changed by one more name
same_observer : (x : Rows) (p q : Process) (k : ℕ) → AreRows x → option_and_then (observer_by (x.names ++ p ∷ []) k) (row_in x q) ≡ option_and_then (observer_by x.names k) (row_in x q)
same_observer x p q k are =
    elim (row_in x q) as (λ o. row_in x q ≡ o → option_and_then (observer_by (x.names ++ p ∷ []) k) o ≡ option_and_then (observer_by x.names k) o) [
      | None ↦ λ e. refl
      | Some r ↦ λ e. before (get_or r.observers k None) ((cells_of x q r are e).1 k)
    ] refl
  where
    before : (o : Option ℕ) → ((i : ℕ) → o ≡ Some i → i < length x.names) → option_and_then (slice_get (x.names ++ p ∷ [])) o ≡ option_and_then (slice_get x.names) o
    before None h = refl
    before (Some i) h = get_before x.names (p ∷ []) i (h i refl)

pub more_says_same : (x : Rows) (p : Process) → AreRows x → StandOnce (x.names ++ p ∷ []) → SaySame x (more x p)
more_says_same x p are once =
    record {
      joiners = same_joiners x (more x p) are.once once (λ q. found_in_more (row_says (λ r. r.is_joiner)) (row_says (λ r. r.is_joiner)) x p q are.one_each refl refl refl);
      edges = same_edges x (more x p) are.once once (λ q k.
          found_in_more (option_and_then (observer_by (x.names ++ p ∷ []) k)) (option_and_then (observer_by x.names k)) x p q are.one_each
          (same_observer x p q k are) refl
          (ap (option_and_then (slice_get (x.names ++ p ∷ []))) (no_cell most_rings k)));
      observed = λ q. found_in_more (row_says (λ r. r.is_observed)) (row_says (λ r. r.is_observed)) x p q are.one_each refl refl refl;
      places = λ q i at.
          let here = found_member x.names q i at in
          is_there (x.names ++ p ∷ []) q i
          (λ k there. once k i q there (stays i q here))
          (stays i q here);
    }
  where
    stays : (i : ℕ) (q : Process) → slice_get x.names i ≡ Some q → slice_get (x.names ++ p ∷ []) i ≡ Some q
    stays i q here = get_before x.names (p ∷ []) i (slice_get_within x.names i q here) ∙ here

get_last : {A : Type 0} (xs : List A) (x : A) → slice_get (xs ++ x ∷ []) (length xs) ≡ Some x
get_last [] x = refl
get_last (y ∷ xs) x = get_last xs x

-- the new name has the last place
pub place_of_last : (x : Rows) (p : Process) → StandOnce (x.names ++ p ∷ []) → place_in (more x p) p ≡ Some (length x.names)
place_of_last x p once = is_there (x.names ++ p ∷ []) p (length x.names) (λ k there. once k (length x.names) p there (get_last x.names p)) (get_last x.names p)

more_cells : (n m : ℕ) (r : Row) → n < m → AreCells n r → AreCells m r
more_cells n m r l are = (are.0, λ k o e. let less = are.1 k o e in omega (arith, l, less))

pub more_AreRows : (x : Rows) (p : Process) → AreRows x → StandOnce (x.names ++ p ∷ []) → AreRows (more x p)
more_AreRows x p are once =
    let names : length (x.names ++ p ∷ []) ≡ length x.names + 1 = length-append x.names (p ∷ []) in
    let rows : length (x.rows ++ blank ∷ []) ≡ length x.rows + 1 = length-append x.rows (blank ∷ []) in
    let each = are.one_each in
    record {
      once = once;
      one_each = omega (arith, names, rows, each);
      cells = All-push (AreCells (length (x.names ++ p ∷ []))) x.rows blank
          (λ i d l. more_cells (length x.names) (length (x.names ++ p ∷ [])) (get_or x.rows i d) (omega (arith, names)) (are.cells i d l))
          (refl, λ k o e. absurd (none_there (get_or (replicate most_rings None) k None) o (no_cell most_rings k) e));
    }
  where
    none_there : (r : Option ℕ) (o : ℕ) → r ≡ None → r ≡ Some o → ⊥
    none_there None o e h = cc
    none_there (Some i) o e h = cc

-- who is not named is not among the names
pub unnamed : (x : Rows) (p : Process) → place_in x p ≡ None → is_in x.names p ≡ false
unnamed x p e = sym (in_by_place (same_bytes p) x.names) ∙ ap is_any e
  where
    is_any : Option ℕ → Bool
    is_any None = false
    is_any (Some i) = true

-- ---- another row

-- the rows with another at a place
abbrev pub with_row : Rows → ℕ → Row → Rows
with_row x i r = record { names = x.names; rows = set x.rows i r }

get_other : {A : Type 0} (xs : List A) (i j : ℕ) (v : A) → (j ≡ i → ⊥) → slice_get (set xs i v) j ≡ slice_get xs j
get_other [] i j v ne = refl
get_other (x ∷ xs) zero zero v ne = absurd (ne refl)
get_other (x ∷ xs) zero (suc j) v ne = refl
get_other (x ∷ xs) (suc i) zero v ne = refl
get_other (x ∷ xs) (suc i) (suc j) v ne = get_other xs i j v (λ e. ne (ap suc e))

get_same : {A : Type 0} (xs : List A) (i : ℕ) (v : A) → i < length xs → slice_get (set xs i v) i ≡ Some v
get_same [] i v l = absurd (omega (arith, l))
get_same (x ∷ xs) zero v l = refl
get_same (x ∷ xs) (suc i) v l = get_same xs i v (omega (arith, l))

row_in_with : (x : Rows) (i : ℕ) (r : Row) (s q : Process) → place_in x s ≡ Some i → i < length x.rows → row_in (with_row x i r) q ≡ cond (same_bytes q s) (Some r) (row_in x q)
row_in_with x i r s q at l =
    elim (same_bytes q s) as (λ b. same_bytes q s ≡ b → row_in (with_row x i r) q ≡ cond b (Some r) (row_in x q)) [
      | true ↦ λ e.
          let here : place_in x q ≡ Some i = ap (place_in x) ((same_bytes_decides q s).0 e) ∙ at in
          ap (option_and_then (slice_get (set x.rows i r))) here ∙ get_same x.rows i r l
      | false ↦ λ e. elim (place_in x q) as (λ o. place_in x q ≡ o → option_and_then (slice_get (set x.rows i r)) o ≡ option_and_then (slice_get x.rows) o) [
        | None ↦ λ _. refl
        | Some j ↦ λ there. get_other x.rows i j r (λ same. never e j there same)
      ] refl
    ] refl
  where
    inside : {a b : Process} → ◌≡◌ {A = Option Process} (Some a) (Some b) → a ≡ b
    inside e = cc

    never : same_bytes q s ≡ false → (j : ℕ) → place_in x q ≡ Some j → j ≡ i → ⊥
    never e j there same =
        let one : slice_get x.names i ≡ Some q = subst (λ k. slice_get x.names k ≡ Some q) same (found_member x.names q j there) in
        let is : q ≡ s = inside (sym one ∙ found_member x.names s i at) in
        not_both (same_bytes q s) ((same_bytes_decides q s).1 is) e

pub row_at : (x : Rows) (s : Process) (i : ℕ) (r : Row) → place_in x s ≡ Some i → slice_get x.rows i ≡ Some r → row_in x s ≡ Some r
row_at x s i r at here = ap (option_and_then (slice_get x.rows)) at ∙ here

-- what is found of all, if s alone has another row
found_with : {A : Type 0} (f : Option Row → A) (x : Rows) (i : ℕ) (r : Row) (s q : Process) → place_in x s ≡ Some i → i < length x.rows → f (row_in (with_row x i r) q) ≡ cond (same_bytes q s) (f (Some r)) (f (row_in x q))
found_with f x i r s q at l = ap f (row_in_with x i r s q at l) ∙ each (same_bytes q s)
  where
    each : (b : Bool) → f (cond b (Some r) (row_in x q)) ≡ cond b (f (Some r)) (f (row_in x q))
    each true = refl
    each false = refl

-- what is found of all is what was found, if s has a row of which the same is found
found_still : {A : Type 0} (f : Option Row → A) (x : Rows) (i : ℕ) (old new : Row) (s q : Process) → place_in x s ≡ Some i → slice_get x.rows i ≡ Some old → f (Some new) ≡ f (Some old) → f (row_in (with_row x i new) q) ≡ f (row_in x q)
found_still f x i old new s q at here same =
    found_with f x i new s q at (slice_get_within x.rows i old here)
    ∙ elim (same_bytes q s) as (λ b. same_bytes q s ≡ b → cond b (f (Some new)) (f (row_in x q)) ≡ f (row_in x q)) [
      | true ↦ λ e. same ∙ ap f (sym (ap (row_in x) ((same_bytes_decides q s).0 e) ∙ row_at x s i old at here))
      | false ↦ λ e. refl
    ] refl

-- ---- one more joiner

abbrev pub joined : Row → Row
joined r = record r { is_joiner = true }

pub adds_joiner : (x : Rows) (i : ℕ) (r : Row) (s : Process) → AreRows x → place_in x s ≡ Some i → slice_get x.rows i ≡ Some r → AddsJoiner x (with_row x i (joined r)) s
adds_joiner x i r s are at here =
    let l = slice_get_within x.rows i r here in
    record {
      joiners = finset.same_set processes_total processes_exact _ _ (λ q.
          has_joiner (with_row x i (joined r)) q are.once
          ∙ found_with (row_says (λ r. r.is_joiner)) x i (joined r) s q at l
          ∙ if_true (same_bytes q s) (row_says (λ r. r.is_joiner) (row_in x q))
          ∙ ap (λ b. same_bytes q s || b) (sym (has_joiner x q are.once))
          ∙ sym (finset.contains-insert processes_total (joiners_of x) s q));
      edges = same_edges x (with_row x i (joined r)) are.once are.once (λ q k. found_still (option_and_then (observer_by x.names k)) x i r (joined r) s q at here refl);
      observed = λ q. found_still (row_says (λ r. r.is_observed)) x i r (joined r) s q at here refl;
    }

-- ---- one more edge

abbrev pub observed_by : Row → ℕ → Option ℕ → Row
observed_by r k o = record r { is_observed = true; observers = set r.observers k o }

pub adds_edge : (x : Rows) (i k : ℕ) (r : Row) (by : ℕ) (o s : Process) → AreRows x → k < most_rings → place_in x s ≡ Some i → slice_get x.rows i ≡ Some r → place_in x o ≡ Some by
    → AddsEdge x (with_row x i (observed_by r k (Some by))) k o s
adds_edge x i k r by o s are ring at here who =
    record {
      joiners = same_joiners x (with_row x i new) are.once are.once (λ q. found_still (row_says (λ r. r.is_joiner)) x i r new s q at here refl);
      edges = finmap.same_map reports_total reports_exact _ _ (λ e.
          has_edge (with_row x i new) e.0 e.1 are.once
          ∙ found_with (option_and_then (observer_by x.names e.1)) x i new s e.0 at l
          ∙ edge_at e.0 e.1
          ∙ ap (λ b. cond b (Some o) (finmap.get (edges_of x) e)) (sym (same_edge e.0 s e.1 k))
          ∙ sym (finmap.get-insert reports_total (edges_of x) (s, k) o e));
      observed = λ q. found_with (row_says (λ r. r.is_observed)) x i new s q at l ∙ if_true (same_bytes q s) (is_observed_in x q);
    }
  where
    new : Row
    new = observed_by r k (Some by)

    l : i < length x.rows
    l = slice_get_within x.rows i r here

    its : row_in x s ≡ Some r
    its = row_at x s i r at here

    wide : k < length r.observers
    wide = let e = (cells_of x s r are its).0 in omega (arith, ring, e)

    edge_at : (q : Process) (j : ℕ) → cond (same_bytes q s) (observer_by x.names j new) (option_and_then (observer_by x.names j) (row_in x q)) ≡ cond (same_bytes q s && is_eq (nat_cmp j k)) (Some o) (finmap.get (edges_of x) (q, j))
    edge_at q j =
        elim (same_bytes q s) as (λ b. same_bytes q s ≡ b → cond b (observer_by x.names j new) (option_and_then (observer_by x.names j) (row_in x q)) ≡ cond (b && is_eq (nat_cmp j k)) (Some o) (finmap.get (edges_of x) (q, j))) [
          | false ↦ λ _. sym (has_edge x q j are.once)
          | true ↦ λ e. elim (is_eq (nat_cmp j k)) as (λ b. is_eq (nat_cmp j k) ≡ b → observer_by x.names j new ≡ cond b (Some o) (finmap.get (edges_of x) (q, j))) [
            | true ↦ λ t.
                ap (λ n. option_and_then (slice_get x.names) (get_or (set r.observers k (Some by)) n None)) (is_ring j k t)
                ∙ ap (option_and_then (slice_get x.names)) (get_or-set_same r.observers k (Some by) None wide)
                ∙ found_member x.names o by who
            | false ↦ λ t.
                ap (option_and_then (slice_get x.names)) (get_or-set_other r.observers k j (Some by) None (λ same. not_both (is_eq (nat_cmp j k)) (subst (λ n. is_eq (nat_cmp n k) ≡ true) (sym same) (same_ring k)) t))
                ∙ sym (has_edge x q j are.once ∙ ap (option_and_then (observer_by x.names j)) (ap (row_in x) ((same_bytes_decides q s).0 e) ∙ its))
          ] refl
        ] refl
