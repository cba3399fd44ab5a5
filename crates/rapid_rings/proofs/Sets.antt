-- Finite sets of processes: how large they are, and which sets and maps of the program they are.
use Rattle.std.proofs.Common.{◌≡◌, zero, suc, ◌+◌, ◌-◌, ◌≤◌, Bool, true, false, cond, not, ◌||◌, List, [], ◌∷◌, length, refl, sym, ap, subst, ◌∙◌, Some, arith}
use Rattle.std.specs.List.{list_all, AllByRecursion}
use Rattle.std.specs.List.Sorted.{IsStrictlySortedBy}
use Rattle.std.specs.declared.cmp.Ordering.{Ordering}
use Rattle.std.specs.declared.cmp.Ordering.TheVariants.{Less}
use Rattle.std.specs.Ordering.{is_lt, is_eq, eq_by_cmp}
use Rattle.std.specs.Cmp.{IsTotalOrder, eq_by_cmp_equiv}
use Rattle.std.specs.FinSet as set
use Rattle.std.specs.FinMap as finmap
use Rattle.std.specs.BTreeMap.{is_at}
use Rattle.std.specs.Map.{lookup}
use Rattle.rapid_model.specs.Process.{Process, ProcessSet, process_cmp, same_bytes, is_in}
use Rattle.std.proofs.lemmas.Map.Keys.{sorted_head, sorted_tail}
use Rattle.rapid_model.specs.Cut.{is_ascending}
use Rattle.rapid_model.proofs.Orders.{processes_total, processes_exact, same_bytes_decides}
use Rattle.rapid_model.proofs.Logic.{less_differs}
use Rattle.rapid_model.proofs.Among.{same_turned}
use Rattle.std.proofs.lemmas.Bool.{and_parts, and_from, not_from_false}

-- a process is itself
pub own : (p : Process) → same_bytes p p ≡ true
own p = (same_bytes_decides p p).1 refl

-- what is below all of these is none of them
below_is_none : (p : Process) (ps : List Process) → list_all (λ q. is_lt (process_cmp p q)) ps ≡ true → is_in ps p ≡ false
below_is_none p [] h = refl
below_is_none p (q ∷ ps) h =
    let parts = and_parts (is_lt (process_cmp p q)) (list_all (λ q. is_lt (process_cmp p q)) ps) h in
    ap (λ b. b || is_in ps p) (less_differs (process_cmp p q) parts.0) ∙ below_is_none p ps parts.1

-- a set with a member is not empty
pub some_in : (s : ProcessSet) (p : Process) → set.contains s p ≡ true → 1 ≤ set.len s
some_in s p has =
    elim (set.len s) as (λ n. set.len s ≡ n → 1 ≤ n) [
      | zero ↦ λ e. absurd (no (set.empty_of_len s e))
      | suc n ↦ λ e. omega arith
    ] refl
  where
    no : s ≡ set.empty → ⊥
    no e = let a : true ≡ false = sym has ∙ ap (λ x. set.contains x p) e ∙ set.contains-empty process_cmp p in cc

-- an ascending list of members of a set is no longer than the set
pub ascending_fit : (ss : List Process) (s : ProcessSet) → is_ascending ss ≡ true → ((q : Process) → is_in ss q ≡ true → set.contains s q ≡ true) → length ss ≤ set.len s
ascending_fit [] s h k = omega arith
ascending_fit (p ∷ ss) s h k =
    let parts = and_parts (list_all (λ q. is_lt (process_cmp p q)) ss) (is_ascending ss) h in
    let has : set.contains s p ≡ true = k p (ap (λ b. b || is_in ss p) (own p)) in
    let rest = ascending_fit ss (set.remove s p) parts.1 (λ q at. set.contains-remove processes_total s p q ∙ and_from (not (same_bytes q p)) (set.contains s q) (not_from_false _ (apart q at)) (k q (later q at))) in
    let less : set.len (set.remove s p) ≡ set.len s - 1 = set.len-remove processes_total s p ∙ ap (λ b. cond b (set.len s - 1) (set.len s)) has in
    let some = some_in s p has in
    omega (arith, rest, less, some)
  where
    apart : (q : Process) → is_in ss q ≡ true → same_bytes q p ≡ false
    apart q at =
        elim (same_bytes q p) as (λ b. same_bytes q p ≡ b → b ≡ false) [
          | true ↦ λ e. let same = (same_bytes_decides q p).0 e in
              let none = below_is_none p ss (and_parts _ _ h).0 in
              let some : is_in ss p ≡ true = subst (λ x. is_in ss x ≡ true) same at in
              cc
          | false ↦ λ e. refl
        ] refl

    later : (q : Process) → is_in ss q ≡ true → is_in (p ∷ ss) q ≡ true
    later q at = elim (same_bytes q p) as (λ b. (b || is_in ss q) ≡ true) [ true ↦ refl | false ↦ at ]

-- ---- sets of the program

pub if_true : (b c : Bool) → cond b true c ≡ (b || c)
if_true true c = refl
if_true false c = refl

-- the keys after an insert are those of the set with the process
pub insert_seen : (ks ns : List Process) (p : Process) → ((q : Process) → is_in ns q ≡ cond (same_bytes p q) true (is_in ks q)) → ◌≡◌ {A = ProcessSet} (set.from_list ns) (set.insert (set.from_list ks) p)
insert_seen ks ns p h =
    set.same_set processes_total processes_exact _ _ (λ q.
    set.contains-from_list processes_total ns q ∙ h q ∙ if_true (same_bytes p q) (is_in ks q)
    ∙ ap (λ b. b || is_in ks q) (same_turned p q)
    ∙ ap (λ b. same_bytes q p || b) (sym (set.contains-from_list processes_total ks q))
    ∙ sym (set.contains-insert processes_total (set.from_list ks) p q))

none_of_sorted : (p : Process) (ks : List Process) → AllByRecursion (λ q. process_cmp p q ≡ Less) ks → is_in ks p ≡ false
none_of_sorted p [] h = refl
none_of_sorted p (k ∷ ks) h = ap (λ o. is_eq o || is_in ks p) h.0 ∙ none_of_sorted p ks h.1

-- keys in order are as many as their set has
pub len-sorted : (ks : List Process) → IsStrictlySortedBy process_cmp ks → set.len (set.from_list {R = process_cmp} ks) ≡ length ks
len-sorted [] h = set.len-empty process_cmp
len-sorted (k ∷ ks) h =
    let new : set.contains (set.from_list {R = process_cmp} ks) k ≡ false = set.contains-from_list processes_total ks k ∙ none_of_sorted k ks (sorted_head process_cmp k ks h) in
    let rest = len-sorted ks (sorted_tail process_cmp k ks h) in
    let len = set.len-insert processes_total (set.from_list ks) k ∙ ap (λ b. cond b (set.len (set.from_list {R = process_cmp} ks)) (set.len (set.from_list {R = process_cmp} ks) + 1)) new in
    omega (arith, rest, len)

-- ---- maps of the program

-- a look-up in a map of the program is that of the finite map
pub get-lookup : {K X : Type 0} {R : K → K → Ordering} → IsTotalOrder R → (es : List (K × X)) (q : K) → finmap.get (finmap.from_entries {R = R} es) q ≡ lookup (is_at (R q)) es
get-lookup {K} {X} {R} o es q = finmap.get-from_entries o es q ∙ found es
  where
    found : (es : List (K × X)) → finmap.find R q es ≡ lookup (is_at (R q)) es
    found [] = refl
    found (e ∷ es) = ap (cond (is_eq (R q e.0)) (Some e.1)) (found es)

-- the entries after an insert are those of the map with the entry
pub map_insert_seen : {K X : Type 0} {R : K → K → Ordering} → IsTotalOrder R → finmap.IsAntisymmetric R → (es ns : List (K × X)) (k : K) (v : X)
    → ((q : K) → lookup (is_at (R q)) ns ≡ cond (is_at (R k) q) (Some v) (lookup (is_at (R q)) es)) → finmap.from_entries {R = R} ns ≡ finmap.insert (finmap.from_entries es) k v
map_insert_seen {K} {X} {R} o exact es ns k v h =
    finmap.same_map o exact _ _ (λ q.
    get-lookup o ns q ∙ h q ∙ ap (λ b. cond b (Some v) (lookup (is_at (R q)) es)) ((eq_by_cmp_equiv o).symm k q)
    ∙ ap (cond (eq_by_cmp R q k) (Some v)) (sym (get-lookup o es q))
    ∙ sym (finmap.get-insert o (finmap.from_entries es) k v q))
