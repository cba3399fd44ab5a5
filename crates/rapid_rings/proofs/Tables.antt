-- The rules of tables are kept, and the observers of a table are observers.
use Rattle.std.proofs.Common.{◌≡◌, ℕ, suc, ◌+◌, ◌-◌, ◌≤◌, Bool, true, false, cond, not, ◌&&◌, ◌||◌, List, [], ◌∷◌, length, map, refl, sym, ap, subst, ◌∙◌, inl, inr, ◌<◌, Option, Some, None, arith, nat_lt}
use Rattle.std.specs.Prelude.{All, IsSome, IsTrue, is_some}
use Rattle.std.specs.declared.cmp.Ordering.TheVariants.{Less, Equal, Greater}
use Rattle.std.specs.Ordering.{eq_by_cmp}
use Rattle.std.specs.FinSet as set
use Rattle.std.specs.FinMap as finmap
use Rattle.std.specs.FinMap.{put}
use Rattle.rapid_model.specs.Limits.{most_members}
use Rattle.rapid_model.specs.Process.{Process, ProcessSet, process_cmp, same_bytes, is_in}
use Rattle.rapid_model.specs.Configuration.{Params, AreParams}
use Rattle.rapid_model.specs.Ring.{AreObservers}
use Rattle.rapid_model.specs.Reports.{Report, report_cmp}
use Rattle.rapid_model.specs.Table.{Table, TableFault, TooMany, RingRange, EdgeTwice, TableEdges, IsTable, empty_table, table_subjects, observed_members, is_too_many, add_fault, after_add, after_joiner, table_observers}
use Rattle.rapid_model.proofs.Orders.{processes_total, processes_exact, reports_total, reports_exact, tie_decides, same_bytes_decides}
use Rattle.rapid_rings.specs.Rows.{Rows, no_rows, is_observed_in, is_counted_in, is_unobserved_in, joiners_of, edges_of, table_of, AreRows, SaySame, AddsJoiner, AddsEdge, Holds}
use Rattle.rapid_rings.proofs.Sets.{ascending_fit, some_in}
use Rattle.rapid_model.proofs.Logic.{or_swap, or_twice}
use Rattle.std.proofs.lemmas.Bool.{lt-ltb, le-ltb, cases_lt}

-- ---- the subjects of edges

abbrev first_of : List (Report × Process) → List Process
first_of es = map (λ (x : Report). x.0) (map (λ (e : Report × Process). e.0) es)

subjects-put : (es : List (Report × Process)) (x : Report) (o q : Process) → is_in (first_of (put report_cmp x o es)) q ≡ (same_bytes q x.0 || is_in (first_of es) q)
subjects-put [] x o q = refl
subjects-put (e ∷ es) x o q =
    elim (report_cmp x e.0) as (λ r. report_cmp x e.0 ≡ r → is_in (first_of (put report_cmp x o (e ∷ es))) q ≡ (same_bytes q x.0 || (same_bytes q e.0.0 || is_in (first_of es) q))) [
      | Less ↦ λ t. rw t refl
      | Equal ↦ λ t. rw t (or_twice (same_bytes q e.0.0) (is_in (first_of es) q) ∙ ap (λ (y : Report). same_bytes q y.0 || (same_bytes q e.0.0 || is_in (first_of es) q)) (sym (reports_exact x e.0 t)))
      | Greater ↦ λ t. rw t (ap (λ b. same_bytes q e.0.0 || b) (subjects-put es x o q) ∙ or_swap (same_bytes q e.0.0) (same_bytes q x.0) (is_in (first_of es) q))
    ] refl

pub contains-subjects : (edges : TableEdges) (q : Process) → set.contains (table_subjects edges) q ≡ is_in (first_of (finmap.entries edges)) q
unfolding table_subjects
contains-subjects edges q = set.contains-from_list processes_total _ q

subjects-insert : (edges : TableEdges) (x : Report) (o q : Process) → set.contains (table_subjects (finmap.insert edges x o)) q ≡ (same_bytes q x.0 || set.contains (table_subjects edges) q)
subjects-insert edges x o q =
    contains-subjects (finmap.insert edges x o) q
    ∙ ap (λ es. is_in (first_of es) q) (finmap.entries-insert reports_total edges x o)
    ∙ subjects-put (finmap.entries edges) x o q
    ∙ ap (λ b. same_bytes q x.0 || b) (sym (contains-subjects edges q))

empty_entries : (es : List (Report × Process)) → length es ≡ 0 → es ≡ []
empty_entries [] e = refl
empty_entries (x ∷ es) e = absurd (omega arith)

subjects-empty : (q : Process) → set.contains (table_subjects finmap.empty) q ≡ false
subjects-empty q =
    contains-subjects finmap.empty q
    ∙ ap (λ es. is_in (first_of es) q) (empty_entries _ (sym (finmap.len-entries finmap.empty) ∙ finmap.len-empty report_cmp Process))

-- a subject of an edge is among the subjects
subject_of_key : (es : List (Report × Process)) (s : Process) (k : ℕ) → is_some (finmap.find report_cmp (s, k) es) ≡ true → is_in (first_of es) s ≡ true
subject_of_key [] s k h = cc
subject_of_key (e ∷ es) s k h =
    elim (eq_by_cmp report_cmp (s, k) e.0) as (λ b. eq_by_cmp report_cmp (s, k) e.0 ≡ b → is_some (cond b (Some e.1) (finmap.find report_cmp (s, k) es)) ≡ true → (same_bytes s e.0.0 || is_in (first_of es) s) ≡ true) [
      | true ↦ λ t _. ap (λ b. b || is_in (first_of es) s) (same_subject t)
      | false ↦ λ t h. or_late (same_bytes s e.0.0) (is_in (first_of es) s) (subject_of_key es s k h)
    ] refl h
  where
    same_subject : eq_by_cmp report_cmp (s, k) e.0 ≡ true → same_bytes s e.0.0 ≡ true
    same_subject t = (same_bytes_decides s e.0.0).1 (ap (λ (x : Report). x.0) ((tie_decides reports_total reports_exact (s, k) e.0).0 t))

    or_late : (a b : Bool) → b ≡ true → (a || b) ≡ true
    or_late true b h = refl
    or_late false b h = h

-- ---- the members that are observed

pub contains-observed : (t : Table) (q : Process) → set.contains (observed_members t) q ≡ (set.contains (table_subjects t.edges) q && not (set.contains t.joiners q))
unfolding observed_members
contains-observed t q = set.contains-difference processes_total (table_subjects t.edges) t.joiners q

added : (s c j sj : Bool) → (s ≡ true → j ≡ sj) → ((s || c) && not j) ≡ cond sj (c && not j) (s || (c && not j))
added true true true true h = refl
added true false true true h = refl
added true c true false h = let e = h refl in cc
added true c false true h = let e = h refl in cc
added true c false false h = refl
added false c j true h = refl
added false c j false h = refl

if_contains : (b : Bool) (s t : ProcessSet) (q : Process) → set.contains (cond b s t) q ≡ cond b (set.contains s q) (set.contains t q)
if_contains true s t q = refl
if_contains false s t q = refl

-- an edge makes its subject an observed member, unless it is a joiner
pub observed-after_add : (t : Table) (ring : ℕ) (observer subject : Process) → observed_members (after_add t ring observer subject) ≡ cond (set.contains t.joiners subject) (observed_members t) (set.insert (observed_members t) subject)
observed-after_add t ring observer subject =
    set.same_set processes_total processes_exact _ _ (λ q.
    contains-observed (after_add t ring observer subject) q
    ∙ ap (λ b. b && not (set.contains t.joiners q)) (subjects-insert t.edges (subject, ring) observer q)
    ∙ added (same_bytes q subject) (set.contains (table_subjects t.edges) q) (set.contains t.joiners q) (set.contains t.joiners subject) (λ e. ap (set.contains t.joiners) ((same_bytes_decides q subject).0 e))
    ∙ ap (λ b. cond (set.contains t.joiners subject) b (same_bytes q subject || b)) (sym (contains-observed t q))
    ∙ ap (cond (set.contains t.joiners subject) (set.contains (observed_members t) q)) (sym (set.contains-insert processes_total (observed_members t) subject q))
    ∙ sym (if_contains (set.contains t.joiners subject) (observed_members t) (set.insert (observed_members t) subject) q))

taken_out : (c s j : Bool) → (c && not (s || j)) ≡ (not s && (c && not j))
taken_out true true j = refl
taken_out true false j = refl
taken_out false true j = refl
taken_out false false j = refl

-- a joiner is no observed member
pub observed-after_joiner : (t : Table) (joiner : Process) → observed_members (after_joiner t joiner) ≡ set.remove (observed_members t) joiner
observed-after_joiner t joiner =
    set.same_set processes_total processes_exact _ _ (λ q.
    contains-observed (after_joiner t joiner) q
    ∙ ap (λ b. set.contains (table_subjects t.edges) q && not b) (set.contains-insert processes_total t.joiners joiner q)
    ∙ taken_out (set.contains (table_subjects t.edges) q) (same_bytes q joiner) (set.contains t.joiners q)
    ∙ ap (λ b. not (same_bytes q joiner) && b) (sym (contains-observed t q))
    ∙ sym (set.contains-remove processes_total (observed_members t) joiner q))

-- a table with no edges has no observed members
pub observed-empty : (params : Params) → observed_members (empty_table params) ≡ set.empty
observed-empty params =
    set.same_set processes_total processes_exact _ _ (λ q.
    contains-observed (empty_table params) q
    ∙ ap (λ b. b && not (set.contains (set.empty {R = process_cmp}) q)) (subjects-empty q)
    ∙ sym (set.contains-empty process_cmp q))

-- ---- the rules of tables

pub empty-IsTable : (params : Params) → AreParams params → IsTable (empty_table params)
empty-IsTable params are =
    record { params = are; few = let e = ap set.len (observed-empty params) ∙ set.len-empty process_cmp in omega (arith, e) }

one_more : (j c : Bool) (n : ℕ) (r : ℕ) → n ≤ 1024 → (not j && not c && not (nat_lt n 1024)) ≡ false → r ≡ cond j n (cond c n (n + 1)) → r ≤ 1024
one_more true c n r few h e = omega (arith, few, e)
one_more false true n r few h e = omega (arith, few, e)
one_more false false n r few h e = grind arith

pub after_add-few : (t : Table) (ring : ℕ) (observer subject : Process) → IsTable t → is_too_many t subject ≡ false → set.len (observed_members (after_add t ring observer subject)) ≤ 1024
after_add-few t ring observer subject is h =
    one_more (set.contains t.joiners subject) (set.contains (observed_members t) subject) (set.len (observed_members t)) _ is.few h
    (ap set.len (observed-after_add t ring observer subject)
    ∙ if_len (set.contains t.joiners subject)
    ∙ ap (cond (set.contains t.joiners subject) (set.len (observed_members t))) (set.len-insert processes_total (observed_members t) subject))
  where
    if_len : (b : Bool) → set.len (cond b (observed_members t) (set.insert (observed_members t) subject)) ≡ cond b (set.len (observed_members t)) (set.len (set.insert (observed_members t) subject))
    if_len true = refl
    if_len false = refl

not_refused : (b : Bool) (o : Option TableFault) → cond b (Some TooMany) o ≡ None → b ≡ false
not_refused true o h = cc
not_refused false o h = refl

pub after_add-IsTable : (t : Table) (ring : ℕ) (observer subject : Process) → IsTable t → add_fault t ring subject ≡ None → IsTable (after_add t ring observer subject)
unfolding add_fault
after_add-IsTable t ring observer subject is h =
    record { params = is.params; few = after_add-few t ring observer subject is (not_refused (is_too_many t subject) _ h) }

pub after_joiner-IsTable : (t : Table) (joiner : Process) → IsTable t → IsTable (after_joiner t joiner)
after_joiner-IsTable t joiner is =
    record {
      params = is.params;
      few =
          let e = ap set.len (observed-after_joiner t joiner) ∙ set.len-remove processes_total (observed_members t) joiner in
          fewer (set.contains (observed_members t) joiner) (set.len (observed_members t)) _ is.few e;
    }
  where
    fewer : (b : Bool) (n r : ℕ) → n ≤ 1024 → r ≡ cond b (n - 1) n → r ≤ 1024
    fewer true n r few e = omega (arith, few, e)
    fewer false n r few e = omega (arith, few, e)

-- ---- the observers of a table

-- a member that someone observes is an observed member
observed-from_edge : (t : Table) (s : Process) (k : ℕ) → not (set.contains t.joiners s) ≡ true → IsSome (cond (nat_lt k t.params.k) (finmap.get t.edges (s, k)) None) → set.contains (observed_members t) s ≡ true
observed-from_edge t s k member some =
    contains-observed t s ∙ and_both (set.contains (table_subjects t.edges) s) _ (contains-subjects t.edges s ∙ subject_of_key (finmap.entries t.edges) s k at) member
  where
    and_both : (a b : Bool) → a ≡ true → b ≡ true → (a && b) ≡ true
    and_both true b h k = k
    and_both false b h k = cc

    there : (b : Bool) (o : Option Process) → IsSome (cond b o None) → is_some o ≡ true
    there true o h = h
    there false o h = cc

    at : is_some (finmap.find report_cmp (s, k) (finmap.entries t.edges)) ≡ true
    at = ap is_some (sym (finmap.get-entries t.edges (s, k))) ∙ there (nat_lt k t.params.k) (finmap.get t.edges (s, k)) some

-- what holds of each of these holds of any that is among them
each_of : (P : Process → Type 0) (ss : List Process) (q : Process) → All P ss → is_in ss q ≡ true → P q
each_of P [] q h k = cc
each_of P (s ∷ ss) q h k =
    elim (same_bytes q s) as (λ b. same_bytes q s ≡ b → (b || is_in ss q) ≡ true → P q) [
      | true ↦ λ e _. subst P (sym ((same_bytes_decides q s).0 e)) (h 0 s (omega arith))
      | false ↦ λ e k. each_of P ss q (λ i d l. h (suc i) d (omega (arith, l))) k
    ] refl k

pub table-AreObservers : (t : Table) → IsTable t → AreObservers (table_observers t)
unfolding table_observers
table-AreObservers t is =
    record {
      params = is.params;
      none_beyond = λ k s h. ap (λ b. cond b (finmap.get t.edges (s, k)) None) (le-ltb k t.params.k h);
      few = λ ss ascending h.
          let le = ascending_fit ss (observed_members t) ascending (λ q k. let m = each_of (λ s. IsTrue (not (set.contains t.joiners s)) × ((k : ℕ) × IsSome (cond (nat_lt k t.params.k) (finmap.get t.edges (s, k)) None))) ss q h k in observed-from_edge t q m.1.0 m.0 m.1.1) in
          omega (arith, le, is.few);
    }

-- ---- what a table of the program holds

no_joiners : joiners_of no_rows ≡ set.empty
unfolding joiners_of
no_joiners = set.same_set processes_total processes_exact _ _ (λ q. set.contains-from_list processes_total [] q ∙ sym (set.contains-empty process_cmp q))

no_edges : edges_of no_rows ≡ finmap.empty
unfolding edges_of
no_edges = finmap.same_map reports_total reports_exact _ _ (λ q. finmap.get-from_entries reports_total [] q ∙ sym (finmap.get-empty report_cmp q))

pub none_are_rows : AreRows no_rows
none_are_rows = record { once = λ i j p at there. cc; one_each = refl; cells = λ i d l. absurd (omega (arith, l)) }

pub no_table : (params : Params) → table_of params no_rows ≡ empty_table params
no_table params = λ i. record { params = params; joiners = no_joiners i; edges = no_edges i }

pub Holds-none : (params : Params) → AreParams params → Holds params no_rows 0
Holds-none params are =
    record {
      rules = subst IsTable (sym (no_table params)) (empty-IsTable params are);
      subjects = λ p. ap (λ e. set.contains (table_subjects e) p) no_edges ∙ subjects-empty p;
      count = sym (ap (λ t. set.len (observed_members t)) (no_table params) ∙ ap set.len (observed-empty params) ∙ set.len-empty process_cmp);
    }

-- the table of rows that say the same
pub same_table : (params : Params) (x y : Rows) → SaySame x y → table_of params y ≡ table_of params x
same_table params x y h = λ i. record { params = params; joiners = h.joiners i; edges = h.edges i }

pub Holds-same : (params : Params) (x y : Rows) (n : ℕ) → SaySame x y → Holds params x n → Holds params y n
Holds-same params x y n same h =
    record {
      rules = subst IsTable (sym (same_table params x y same)) h.rules;
      subjects = λ p. ap (λ e. set.contains (table_subjects e) p) same.edges ∙ h.subjects p ∙ sym (same.observed p);
      count = h.count ∙ ap (λ t. set.len (observed_members t)) (sym (same_table params x y same));
    }

-- whether a process is an observed member, as its row says
is_counted : (params : Params) (x : Rows) (n : ℕ) (p : Process) → Holds params x n → set.contains (observed_members (table_of params x)) p ≡ is_counted_in x p
is_counted params x n p h = contains-observed (table_of params x) p ∙ ap (λ b. b && not (set.contains (joiners_of x) p)) (h.subjects p)

-- the table with one more joiner
pub joined_table : (params : Params) (x y : Rows) (p : Process) → AddsJoiner x y p → table_of params y ≡ after_joiner (table_of params x) p
joined_table params x y p a = λ i. record { params = params; joiners = a.joiners i; edges = a.edges i }

pub Holds-joiner : (params : Params) (x y : Rows) (p : Process) (n : ℕ) → AddsJoiner x y p → Holds params x n → Holds params y (cond (is_counted_in x p) (n - 1) n)
Holds-joiner params x y p n a h =
    record {
      rules = subst IsTable (sym joined) (after_joiner-IsTable t p h.rules);
      subjects = λ q. ap (λ e. set.contains (table_subjects e) q) a.edges ∙ h.subjects q ∙ sym (a.observed q);
      count =
          ap (λ m. cond (is_counted_in x p) (m - 1) m) h.count
          ∙ ap (λ b. cond b (set.len (observed_members t) - 1) (set.len (observed_members t))) (sym (is_counted params x n p h))
          ∙ sym (set.len-remove processes_total (observed_members t) p)
          ∙ ap set.len (sym (observed-after_joiner t p))
          ∙ ap (λ u. set.len (observed_members u)) (sym joined);
    }
  where
    t : Table
    t = table_of params x

    joined : table_of params y ≡ after_joiner t p
    joined = joined_table params x y p a

-- one that counts is counted
pub counted : (params : Params) (x : Rows) (n : ℕ) (p : Process) → Holds params x n → is_counted_in x p ≡ true → 1 ≤ n
counted params x n p h is =
    let some = some_in (observed_members (table_of params x)) p (is_counted params x n p h ∙ is) in
    let same = h.count in
    omega (arith, some, same)

-- the table with one more edge
pub edged_table : (params : Params) (x y : Rows) (k : ℕ) (o s : Process) → AddsEdge x y k o s → table_of params y ≡ after_add (table_of params x) k o s
edged_table params x y k o s a = λ i. record { params = params; joiners = a.joiners i; edges = a.edges i }

pub Holds-edge : (params : Params) (x y : Rows) (k : ℕ) (o s : Process) (n : ℕ) → AddsEdge x y k o s → Holds params x n → add_fault (table_of params x) k s ≡ None
    → Holds params y (cond (is_unobserved_in x s) (n + 1) n)
Holds-edge params x y k o s n a h none =
    record {
      rules = subst IsTable (sym edged) (after_add-IsTable t k o s h.rules none);
      subjects = λ q.
          ap (λ e. set.contains (table_subjects e) q) a.edges ∙ subjects-insert (edges_of x) (s, k) o q
          ∙ ap (λ b. same_bytes q s || b) (h.subjects q) ∙ sym (a.observed q);
      count =
          ap (λ m. cond (is_unobserved_in x s) (m + 1) m) h.count
          ∙ each (set.contains (joiners_of x) s) (is_observed_in x s) (set.len (observed_members t))
          ∙ ap (λ b. cond (set.contains (joiners_of x) s) (set.len (observed_members t)) (cond b (set.len (observed_members t)) (set.len (observed_members t) + 1))) (sym (is_counted params x n s h))
          ∙ ap (cond (set.contains (joiners_of x) s) (set.len (observed_members t))) (sym (set.len-insert processes_total (observed_members t) s))
          ∙ if_len (set.contains (joiners_of x) s) (observed_members t) (set.insert (observed_members t) s)
          ∙ ap set.len (sym (observed-after_add t k o s))
          ∙ ap (λ u. set.len (observed_members u)) (sym edged);
    }
  where
    t : Table
    t = table_of params x

    edged : table_of params y ≡ after_add t k o s
    edged = edged_table params x y k o s a

    each : (j b : Bool) (m : ℕ) → cond (not b && not j) (m + 1) m ≡ cond j m (cond (b && not j) m (m + 1))
    each true true m = refl
    each true false m = refl
    each false true m = refl
    each false false m = refl

    if_len : (b : Bool) (u v : ProcessSet) → cond b (set.len u) (set.len v) ≡ set.len (cond b u v)
    if_len true u v = refl
    if_len false u v = refl

-- why an edge is refused, by what rows say
pub fault_is : (params : Params) (x : Rows) (n k : ℕ) (s : Process) → Holds params x n
    → add_fault (table_of params x) k s ≡ cond (is_unobserved_in x s && not (nat_lt n most_members)) (Some TooMany) (cond (not (nat_lt k params.k)) (Some RingRange) (cond (finmap.contains_key (edges_of x) (s, k)) (Some EdgeTwice) None))
unfolding add_fault
fault_is params x n k s h =
    ap (λ b. cond b (Some TooMany) rest) full
  where
    rest : Option TableFault
    rest = cond (not (nat_lt k params.k)) (Some RingRange) (cond (finmap.contains_key (edges_of x) (s, k)) (Some EdgeTwice) None)

    each : (j b c : Bool) → (not j && not (b && not j) && c) ≡ ((not b && not j) && c)
    each true true c = refl
    each true false c = refl
    each false true c = refl
    each false false c = refl

    full : is_too_many (table_of params x) s ≡ (is_unobserved_in x s && not (nat_lt n most_members))
    full =
        ap (λ b. not (set.contains (joiners_of x) s) && not b && not (nat_lt (set.len (observed_members (table_of params x))) most_members)) (is_counted params x n s h)
        ∙ each (set.contains (joiners_of x) s) (is_observed_in x s) (not (nat_lt (set.len (observed_members (table_of params x))) most_members))
        ∙ ap (λ m. is_unobserved_in x s && not (nat_lt m most_members)) (sym h.count)

fault_by : (params : Params) (x : Rows) (n k : ℕ) (s : Process) (b c d : Bool) → Holds params x n → (is_unobserved_in x s && not (nat_lt n most_members)) ≡ b → nat_lt k params.k ≡ c → is_some (finmap.get (edges_of x) (s, k)) ≡ d
    → add_fault (table_of params x) k s ≡ cond b (Some TooMany) (cond (not c) (Some RingRange) (cond d (Some EdgeTwice) None))
fault_by params x n k s b c d h full below twice =
    fault_is params x n k s h
    ∙ ap (λ f. cond f (Some TooMany) (cond (not (nat_lt k params.k)) (Some RingRange) (cond (finmap.contains_key (edges_of x) (s, k)) (Some EdgeTwice) None))) full
    ∙ ap (λ f. cond b (Some TooMany) (cond (not f) (Some RingRange) (cond (finmap.contains_key (edges_of x) (s, k)) (Some EdgeTwice) None))) below
    ∙ ap (λ f. cond b (Some TooMany) (cond (not c) (Some RingRange) (cond f (Some EdgeTwice) None))) twice

pub too_many : (params : Params) (x : Rows) (n k : ℕ) (s : Process) → Holds params x n → (is_unobserved_in x s && not (nat_lt n most_members)) ≡ true → add_fault (table_of params x) k s ≡ Some TooMany
too_many params x n k s h full = fault_by params x n k s true _ _ h full refl refl

pub out_of_range : (params : Params) (x : Rows) (n k : ℕ) (s : Process) → Holds params x n → (is_unobserved_in x s && not (nat_lt n most_members)) ≡ false → params.k ≤ k → add_fault (table_of params x) k s ≡ Some RingRange
out_of_range params x n k s h room past = fault_by params x n k s false false _ h room (le-ltb k params.k past) refl

pub twice_or_none : (params : Params) (x : Rows) (n k : ℕ) (s : Process) (b : Bool) → Holds params x n → (is_unobserved_in x s && not (nat_lt n most_members)) ≡ false → k < params.k → is_some (finmap.get (edges_of x) (s, k)) ≡ b
    → add_fault (table_of params x) k s ≡ cond b (Some EdgeTwice) None
twice_or_none params x n k s b h room below twice = fault_by params x n k s false true b h room (lt-ltb k params.k below) twice

-- the ring of an edge that is not refused
pub ring_below : (params : Params) (x : Rows) (n k : ℕ) (s : Process) → Holds params x n → add_fault (table_of params x) k s ≡ None → k < 16
ring_below params x n k s h none =
    elim (cases_lt k params.k) [
      | inl l ↦ let few = h.rules.params.few in omega (arith, l, few)
      | inr le ↦
          let full = is_unobserved_in x s && not (nat_lt n most_members) in
          let twice = is_some (finmap.get (edges_of x) (s, k)) in
          absurd (refused full (cond twice (Some EdgeTwice) None) (sym (fault_by params x n k s full false twice h refl (le-ltb k params.k le) refl) ∙ none))
    ]
  where
    refused : (b : Bool) (o : Option TableFault) → cond b (Some TooMany) (cond (not false) (Some RingRange) o) ≡ None → ⊥
    refused true o e = cc
    refused false o e = cc
