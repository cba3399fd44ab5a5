-- What is found in the rows of a table.
use Rattle.std.proofs.Common.{◌≡◌, ℕ, zero, suc, ◌+◌, ◌<◌, Bool, true, false, not, ◌&&◌, ◌||◌, cond, List, [], ◌∷◌, ◌++◌, length, get_or, refl, sym, ap, ◌∙◌, inl, inr, Option, Some, None, slice_get, position, nat_lt, is_some, zero-add, arith}
use Rattle.std.specs.Option.{option_map, option_and_then, option_or}
use Rattle.std.specs.List.{position_or_len, cons_option}
use Rattle.std.specs.declared.cmp.Ordering.{Ordering}
use Rattle.std.specs.declared.cmp.Ordering.TheVariants.{Less, Equal, Greater}
use Rattle.std.specs.Ordering.{ordering_then, nat_cmp, is_eq, eq_by_cmp}
use Rattle.std.specs.FinSet as set
use Rattle.std.specs.FinMap as finmap
use Rattle.std.proofs.lemmas.Bool.{lt-ltb, le-ltb, cases_lt}
use Rattle.std.proofs.lemmas.Cmp.{nat_cmp_total}
use Rattle.std.specs.FinSet.{nat_cmp-IsAntisymmetric}
use Rattle.rapid_model.specs.Process.{Process, process_cmp, same_bytes, is_in}
use Rattle.rapid_model.specs.Reports.{Report, report_cmp}
use Rattle.rapid_model.proofs.Orders.{processes_total, reports_total, reports_exact, tie_decides, same_bytes_decides}
use Rattle.rapid_config.proofs.Places.{in_by_place}
use Rattle.rapid_roster.specs.Once.{StandOnce}
use Rattle.rapid_rings.specs.declared.row.Row.{Row}
use Rattle.rapid_rings.specs.Rows.{Rows, AreRows, place_in, row_in, is_observed_in, is_counted_in, is_unobserved_in, row_says, observer_by, those_who, edges_from, edges_by, joiners_of, edges_of}
use Rattle.rapid_rings.proofs.Lookups.{found_member}

-- ---- the row of a process

-- the row of the first process that is q
abbrev pub row_for : List Process → List Row → Process → Option Row
row_for [] rs q = None
row_for (p ∷ ps) [] q = None
row_for (p ∷ ps) (r ∷ rs) q = cond (same_bytes q p) (Some r) (row_for ps rs q)

-- where the first that passes stands, if one more comes before
position_next : (t : Process → Bool) (p : Process) (ps : List Process) → position t (p ∷ ps) ≡ cond (t p) (Some 0) (option_map suc (position t ps))
position_next t p ps =
    elim (t p) as (λ b. cond (nat_lt (cond (not b) (1 + position_or_len t ps) 0) (suc (length ps))) (Some (cond (not b) (1 + position_or_len t ps) 0)) None ≡ cond b (Some 0) (option_map suc (position t ps))) [
      | true ↦ ap (λ b. cond b (Some 0) None) (lt-ltb 0 (suc (length ps)) (omega arith))
      | false ↦ later (position_or_len t ps) (length ps)
    ]
  where
    later : (i n : ℕ) → cond (nat_lt (1 + i) (suc n)) (Some (1 + i)) None ≡ option_map suc (cond (nat_lt i n) (Some i) None)
    later i n = elim (cases_lt i n) [
      | inl l ↦
          let next : 1 + i ≡ suc i = omega arith in
          ap (λ b. cond b (Some (1 + i)) None) (lt-ltb (1 + i) (suc n) (omega (arith, l))) ∙ ap Some next ∙ ap (λ b. option_map suc (cond b (Some i) None)) (sym (lt-ltb i n l))
      | inr l ↦ ap (λ b. cond b (Some (1 + i)) None) (le-ltb (1 + i) (suc n) (omega (arith, l))) ∙ ap (λ b. option_map suc (cond b (Some i) None)) (sym (le-ltb i n l))
    ]

no_rows_there : (o : Option ℕ) → option_and_then (slice_get {X = Row} []) o ≡ None
no_rows_there None = refl
no_rows_there (Some i) = refl

one_later : (r : Row) (rs : List Row) (o : Option ℕ) → option_and_then (slice_get (r ∷ rs)) (option_map suc o) ≡ option_and_then (slice_get rs) o
one_later r rs None = refl
one_later r rs (Some i) = refl

row_by_place : (ps : List Process) (rs : List Row) (q : Process) → option_and_then (slice_get rs) (position (same_bytes q) ps) ≡ row_for ps rs q
row_by_place [] rs q = refl
row_by_place (p ∷ ps) [] q = no_rows_there (position (same_bytes q) (p ∷ ps))
row_by_place (p ∷ ps) (r ∷ rs) q =
    ap (option_and_then (slice_get (r ∷ rs))) (position_next (same_bytes q) p ps)
    ∙ elim (same_bytes q p) as (λ b. option_and_then (slice_get (r ∷ rs)) (cond b (Some 0) (option_map suc (position (same_bytes q) ps))) ≡ cond b (Some r) (row_for ps rs q)) [
      | true ↦ refl
      | false ↦ one_later r rs (position (same_bytes q) ps) ∙ row_by_place ps rs q
    ]

pub row_is : (x : Rows) (q : Process) → row_in x q ≡ row_for x.names x.rows q
row_is x q = row_by_place x.names x.rows q

-- who is not named has no row
pub none_for : (ps : List Process) (rs : List Row) (q : Process) → is_in ps q ≡ false → row_for ps rs q ≡ None
none_for [] rs q h = refl
none_for (p ∷ ps) [] q h = refl
none_for (p ∷ ps) (r ∷ rs) q h =
    elim (same_bytes q p) as (λ b. (b || is_in ps q) ≡ false → cond b (Some r) (row_for ps rs q) ≡ None) [
      | true ↦ λ h. cc
      | false ↦ λ h. none_for ps rs q h
    ] h

-- ---- each stands once

-- who stands first stands nowhere else
stands_alone : (p : Process) (ps : List Process) → StandOnce (p ∷ ps) → is_in ps p ≡ false
stands_alone p ps once =
    elim (position (same_bytes p) ps) as (λ o. position (same_bytes p) ps ≡ o → is_in ps p ≡ false) [
      | None ↦ λ e. sym (in_by_place (same_bytes p) ps) ∙ ap is_some e
      | Some i ↦ λ e. let never : 0 ≡ suc i = once 0 (suc i) p refl (found_member ps p i e) in absurd (omega (arith, never))
    ] refl

later_once : (p : Process) (ps : List Process) → StandOnce (p ∷ ps) → StandOnce ps
later_once p ps once i j q at there = let e : suc i ≡ suc j = once (suc i) (suc j) q at there in omega (arith, e)

-- ---- the joiners

pub those_who_are : (says : Row → Bool) (ps : List Process) (rs : List Row) (q : Process) → StandOnce ps → is_in (those_who says ps rs) q ≡ row_says says (row_for ps rs q)
those_who_are says [] rs q once = refl
those_who_are says (p ∷ ps) [] q once = refl
those_who_are says (p ∷ ps) (r ∷ rs) q once =
    let later = those_who_are says ps rs q (later_once p ps once) in
    elim (same_bytes q p) as (λ b. same_bytes q p ≡ b → is_in (cond (says r) (p ∷ those_who says ps rs) (those_who says ps rs)) q ≡ row_says says (cond b (Some r) (row_for ps rs q))) [
      | true ↦ λ e.
          let alone : is_in ps q ≡ false = ap (is_in ps) ((same_bytes_decides q p).0 e) ∙ stands_alone p ps once in
          first e (says r) (later ∙ ap (row_says says) (none_for ps rs q alone))
      | false ↦ λ e. other e (says r) ∙ later
    ] refl
  where
    other : same_bytes q p ≡ false → (c : Bool) → is_in (cond c (p ∷ those_who says ps rs) (those_who says ps rs)) q ≡ is_in (those_who says ps rs) q
    other e true = ap (λ b. b || is_in (those_who says ps rs) q) e
    other e false = refl

    first : same_bytes q p ≡ true → (c : Bool) → is_in (those_who says ps rs) q ≡ false → is_in (cond c (p ∷ those_who says ps rs) (those_who says ps rs)) q ≡ c
    first e true none = ap (λ b. b || is_in (those_who says ps rs) q) e
    first e false none = none

pub has_joiner : (x : Rows) (q : Process) → StandOnce x.names → set.contains (joiners_of x) q ≡ row_says (λ r. r.is_joiner) (row_in x q)
unfolding joiners_of
has_joiner x q once =
    set.contains-from_list processes_total (those_who (λ r. r.is_joiner) x.names x.rows) q
    ∙ those_who_are (λ r. r.is_joiner) x.names x.rows q once ∙ ap (row_says (λ r. r.is_joiner)) (sym (row_is x q))

-- ---- the edges

both_tie : (a b : Ordering) → is_eq (ordering_then a b) ≡ (is_eq a && is_eq b)
both_tie Less b = refl
both_tie Equal b = refl
both_tie Greater b = refl

-- an edge is that of a subject and a ring
pub same_edge : (q s : Process) (j k : ℕ) → eq_by_cmp report_cmp (q, j) (s, k) ≡ (same_bytes q s && is_eq (nat_cmp j k))
same_edge q s j k = both_tie (process_cmp q s) (nat_cmp j k)

pub same_ring : (k : ℕ) → is_eq (nat_cmp k k) ≡ true
same_ring k = (tie_decides nat_cmp_total nat_cmp-IsAntisymmetric k k).1 refl

pub is_ring : (j k : ℕ) → is_eq (nat_cmp j k) ≡ true → j ≡ k
is_ring j k e = (tie_decides nat_cmp_total nat_cmp-IsAntisymmetric j k).0 e

other_ring : (j k : ℕ) → (j ≡ k → ⊥) → is_eq (nat_cmp j k) ≡ false
other_ring j k ne =
    elim (is_eq (nat_cmp j k)) as (λ b. is_eq (nat_cmp j k) ≡ b → b ≡ false) [
      | true ↦ λ e. absurd (ne (is_ring j k e))
      | false ↦ λ e. refl
    ] refl

-- one edge more
with_edge : (q s : Process) (j k : ℕ) (o : Option Process) (es : List (Report × Process))
    → finmap.find report_cmp (q, j) (cons_option (option_map (λ p. ((s, k), p)) o) es) ≡ cond (same_bytes q s && is_eq (nat_cmp j k)) (option_or o (finmap.find report_cmp (q, j) es)) (finmap.find report_cmp (q, j) es)
with_edge q s j k None es = either (same_bytes q s && is_eq (nat_cmp j k)) (finmap.find report_cmp (q, j) es)
  where
    either : (b : Bool) (f : Option Process) → f ≡ cond b f f
    either true f = refl
    either false f = refl
with_edge q s j k (Some p) es = ap (λ b. cond b (Some p) (finmap.find report_cmp (q, j) es)) (same_edge q s j k)

-- the edges of another process
others_edges : (names : List Process) (q s : Process) (j k : ℕ) (os : List (Option ℕ)) → same_bytes q s ≡ false → finmap.find report_cmp (q, j) (edges_from names s k os) ≡ None
others_edges names q s j k [] e = refl
others_edges names q s j k (o ∷ os) e =
    with_edge q s j k (option_and_then (slice_get names) o) (edges_from names s (suc k) os)
    ∙ ap (λ b. cond (b && is_eq (nat_cmp j k)) (option_or (option_and_then (slice_get names) o) (finmap.find report_cmp (q, j) (edges_from names s (suc k) os))) (finmap.find report_cmp (q, j) (edges_from names s (suc k) os))) e
    ∙ others_edges names q s j (suc k) os e

-- what a ring has that is not one of these
apart : (names : List Process) (s : Process) (j k : ℕ) (o : Option ℕ) (os : List (Option ℕ)) → (j ≡ k → ⊥) → finmap.find report_cmp (s, j) (edges_from names s k (o ∷ os)) ≡ finmap.find report_cmp (s, j) (edges_from names s (suc k) os)
apart names s j k o os ne =
    with_edge s s j k (option_and_then (slice_get names) o) (edges_from names s (suc k) os)
    ∙ ap (λ b. cond b (option_or (option_and_then (slice_get names) o) (finmap.find report_cmp (s, j) (edges_from names s (suc k) os))) (finmap.find report_cmp (s, j) (edges_from names s (suc k) os))) (not_on (same_bytes s s) (is_eq (nat_cmp j k)) (other_ring j k ne))
  where
    not_on : (a b : Bool) → b ≡ false → (a && b) ≡ false
    not_on true b h = h
    not_on false b h = refl

lower_edges : (names : List Process) (s : Process) (j k : ℕ) (os : List (Option ℕ)) → j < k → finmap.find report_cmp (s, j) (edges_from names s k os) ≡ None
lower_edges names s j k [] l = refl
lower_edges names s j k (o ∷ os) l = apart names s j k o os (λ e. absurd (omega (arith, l, e))) ∙ lower_edges names s j (suc k) os (omega (arith, l))

or_none : (o : Option Process) → option_or o None ≡ o
or_none None = refl
or_none (Some p) = refl

own_edges : (names : List Process) (s : Process) (os : List (Option ℕ)) (i k : ℕ) → finmap.find report_cmp (s, k + i) (edges_from names s k os) ≡ option_and_then (slice_get names) (get_or os i None)
own_edges names s [] i k = refl
own_edges names s (o ∷ os) zero k =
    let here : k + 0 ≡ k = omega arith in
    ap (λ j. finmap.find report_cmp (s, j) (edges_from names s k (o ∷ os))) here
    ∙ with_edge s s k k (option_and_then (slice_get names) o) (edges_from names s (suc k) os)
    ∙ ap (λ b. cond b (option_or (option_and_then (slice_get names) o) (finmap.find report_cmp (s, k) (edges_from names s (suc k) os))) (finmap.find report_cmp (s, k) (edges_from names s (suc k) os))) (sym (same_edge s s k k) ∙ (tie_decides reports_total reports_exact (s, k) (s, k)).1 refl)
    ∙ ap (option_or (option_and_then (slice_get names) o)) (lower_edges names s k (suc k) os (omega arith))
    ∙ or_none (option_and_then (slice_get names) o)
own_edges names s (o ∷ os) (suc i) k =
    let there : k + suc i ≡ suc k + i = omega arith in
    apart names s (k + suc i) k o os (λ e. absurd (omega (arith, e)))
    ∙ ap (λ j. finmap.find report_cmp (s, j) (edges_from names s (suc k) os)) there
    ∙ own_edges names s os i (suc k)

find_in_both : (q : Report) (es fs : List (Report × Process)) → finmap.find report_cmp q (es ++ fs) ≡ option_or (finmap.find report_cmp q es) (finmap.find report_cmp q fs)
find_in_both q [] fs = refl
find_in_both q (e ∷ es) fs =
    elim (eq_by_cmp report_cmp q e.0) as (λ b. cond b (Some e.1) (finmap.find report_cmp q (es ++ fs)) ≡ option_or (cond b (Some e.1) (finmap.find report_cmp q es)) (finmap.find report_cmp q fs)) [
      | true ↦ refl
      | false ↦ find_in_both q es fs
    ]

edges_found : (names ps : List Process) (rs : List Row) (q : Process) (k : ℕ) → StandOnce ps → finmap.find report_cmp (q, k) (edges_by names ps rs) ≡ option_and_then (observer_by names k) (row_for ps rs q)
edges_found names [] rs q k once = refl
edges_found names (p ∷ ps) [] q k once = refl
edges_found names (p ∷ ps) (r ∷ rs) q k once =
    find_in_both (q, k) (edges_from names p 0 r.observers) (edges_by names ps rs)
    ∙ ap (option_or (finmap.find report_cmp (q, k) (edges_from names p 0 r.observers))) (edges_found names ps rs q k (later_once p ps once))
    ∙ elim (same_bytes q p) as (λ b. same_bytes q p ≡ b → option_or (finmap.find report_cmp (q, k) (edges_from names p 0 r.observers)) (option_and_then (observer_by names k) (row_for ps rs q)) ≡ option_and_then (observer_by names k) (cond b (Some r) (row_for ps rs q))) [
      | true ↦ λ e.
          let same : q ≡ p = (same_bytes_decides q p).0 e in
          let alone : is_in ps q ≡ false = ap (is_in ps) same ∙ stands_alone p ps once in
          ap (λ o. option_or (finmap.find report_cmp (q, k) (edges_from names p 0 r.observers)) (option_and_then (observer_by names k) o)) (none_for ps rs q alone)
          ∙ or_none (finmap.find report_cmp (q, k) (edges_from names p 0 r.observers))
          ∙ ap (λ s. finmap.find report_cmp (s, k) (edges_from names p 0 r.observers)) same
          ∙ ap (λ j. finmap.find report_cmp (p, j) (edges_from names p 0 r.observers)) (sym (zero-add k))
          ∙ own_edges names p r.observers k 0
      | false ↦ λ e. ap (λ o. option_or o (option_and_then (observer_by names k) (row_for ps rs q))) (others_edges names q p k 0 r.observers e)
    ] refl

pub has_edge : (x : Rows) (q : Process) (k : ℕ) → StandOnce x.names → finmap.get (edges_of x) (q, k) ≡ option_and_then (observer_by x.names k) (row_in x q)
unfolding edges_of
has_edge x q k once =
    finmap.get-from_entries reports_total (edges_by x.names x.names x.rows) (q, k)
    ∙ edges_found x.names x.names x.rows q k once ∙ ap (option_and_then (observer_by x.names k)) (sym (row_is x q))

-- ---- what is found at a place

-- the row at the place of a process is its row
pub row_at_place : (x : Rows) (place : Option ℕ) (p : Process) → place ≡ place_in x p → option_and_then (slice_get x.rows) place ≡ row_in x p
row_at_place x place p e = ap (option_and_then (slice_get x.rows)) e

pub is_unobserved : (x : Rows) (p : Process) (r : Option Row) → AreRows x → row_in x p ≡ r → (not (row_says (λ r. r.is_observed) r) && not (row_says (λ r. r.is_joiner) r)) ≡ is_unobserved_in x p
is_unobserved x p r are e =
    ap (λ r. not (row_says (λ r. r.is_observed) r) && not (row_says (λ r. r.is_joiner) r)) (sym e)
    ∙ ap (λ b. not (is_observed_in x p) && not b) (sym (has_joiner x p are.once))

pub is_counted : (x : Rows) (p : Process) (r : Option Row) → AreRows x → row_in x p ≡ r → (row_says (λ r. r.is_observed) r && not (row_says (λ r. r.is_joiner) r)) ≡ is_counted_in x p
is_counted x p r are e =
    ap (λ r. row_says (λ r. r.is_observed) r && not (row_says (λ r. r.is_joiner) r)) (sym e)
    ∙ ap (λ b. is_observed_in x p && not b) (sym (has_joiner x p are.once))

pub edge_at_place : (x : Rows) (place : Option ℕ) (p : Process) (k : ℕ) (r : Option Row) → AreRows x → place ≡ place_in x p → r ≡ option_and_then (slice_get x.rows) place
    → finmap.get (edges_of x) (p, k) ≡ option_and_then (observer_by x.names k) r
edge_at_place x place p k r are e is = has_edge x p k are.once ∙ ap (option_and_then (observer_by x.names k)) (sym (is ∙ row_at_place x place p e))
