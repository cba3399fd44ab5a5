-- Those that run, by their identifiers in order.
use Rattle.std.proofs.Common.{◌≡◌, ℕ, suc, ◌+◌, ◌-◌, ◌<◌, Bool, true, false, cond, ◌&&◌, ◌||◌, List, [], ◌∷◌, map, filter, refl, sym, ap, ◌∙◌, Some, None, arith}
use Rattle.std.specs.Prelude.{position, is_some}
use Rattle.std.specs.List.{list_any, find, range_with_len}
use Rattle.std.specs.List.Sorted.{IsStrictlySortedBy}
use Rattle.std.specs.Ordering.{is_lt}
use Rattle.std.specs.BTreeSet.{insert_key}
use Rattle.std.specs.FinMap as finmap
use Rattle.std.proofs.lemmas.Bool.{and_parts, or_right}
use Rattle.std.proofs.lemmas.List.Kept.{IsStrictlySortedBy-filter}
use Rattle.std.proofs.lemmas.Map.Views.{any-filter_same}
use Rattle.rapid_model.specs.Bytes.{Identifier}
use Rattle.rapid_model.specs.Process.{bytes_cmp, same_bytes, identifier}
use Rattle.rapid_model.specs.World.{Peer, is_running, has_identifier}
use Rattle.rapid_model.specs.Turn.{least}
use Rattle.rapid_model.proofs.Orders.{processes_total, processes_exact, same_bytes_decides}
use Rattle.rapid_model.proofs.InOrder.{any_insert, any_in_order, sorted_in_order, same_sorted}
use Rattle.rapid_world.specs.Found.{Places, AreFound, HasAll, runs, running_of}
use Rattle.rapid_world.proofs.Finding.{position_none, any_none, none_by_any, none_by_position}
use Rattle.rapid_model.proofs.Logic.{not_both}

-- ---- the identifiers that are kept

pub none_there : (ids : List Identifier) (m : Places) → m ≡ finmap.empty → HasAll ids m
none_there ids m e = λ q h. let none : is_some (finmap.get m q) ≡ false = ap (λ (x : Places). is_some (finmap.get x q)) e ∙ ap is_some (finmap.get-empty bytes_cmp q) in not_both _ h none

-- one more, which need not be found
pub kept_more : (ids : List Identifier) (m : Places) (id : Identifier) → HasAll ids m → HasAll (insert_key bytes_cmp ids id) m
kept_more ids m id all = λ q h. any_insert bytes_cmp processes_total ids id q ∙ or_right (same_bytes q id) _ (all q h)

-- one more that is found
pub placed_more : (ids : List Identifier) (m : Places) (id : Identifier) (n : ℕ) → HasAll ids m → HasAll (insert_key bytes_cmp ids id) (finmap.insert m id n)
placed_more ids m id n all = λ q h. any_insert bytes_cmp processes_total ids id q ∙ by q (same_bytes q id) (sym (ap is_some (finmap.get-insert processes_total m id n q)) ∙ h)
  where
    by : (q : Identifier) (b : Bool) → is_some (cond b (Some n) (finmap.get m q)) ≡ true → (b || list_any (same_bytes q) ids) ≡ true
    by q true h = refl
    by q false h = all q h

-- ---- those that run among them

some_passes : {A : Type 0} (f : A → Bool) (xs : List A) → is_some (position f xs) ≡ list_any f xs
some_passes f xs = by (is_some (position f xs)) (list_any f xs) refl refl
  where
    by : (a b : Bool) → is_some (position f xs) ≡ a → list_any f xs ≡ b → a ≡ b
    by true true h k = refl
    by false false h k = refl
    by false true h k = not_both _ k (any_none f xs (none_by_position f xs h))
    by true false h k = not_both _ h (ap is_some (position_none f xs (none_by_any f xs k)))

any_mapped : (q : Identifier) (ps : List Peer) → list_any (same_bytes q) (map (λ p. identifier p.node.me) (filter is_running ps)) ≡ list_any (λ p. is_running p && has_identifier q p) ps
any_mapped q [] = refl
any_mapped q (p ∷ ps) = by (is_running p) (any_mapped q ps)
  where
    by : (b : Bool) → list_any (same_bytes q) (map (λ p. identifier p.node.me) (filter is_running ps)) ≡ list_any (λ p. is_running p && has_identifier q p) ps →
        list_any (same_bytes q) (map (λ p. identifier p.node.me) (cond b (p ∷ filter is_running ps) (filter is_running ps))) ≡ ((b && has_identifier q p) || list_any (λ p. is_running p && has_identifier q p) ps)
    by true e = ap (λ c. has_identifier q p || c) e
    by false e = e

and_is : (a b : Bool) → (a ≡ true → b ≡ true) → (a && b) ≡ a
and_is true b h = h refl
and_is false b h = refl

module _ (ids : List Identifier) (by_id by_endpoint : Places) (ps : List Peer) (all : HasAll ids by_id) (are : AreFound by_id by_endpoint ps) where
  -- whoever runs is among them
  among : (q : Identifier) → runs ps q ≡ true → list_any (same_bytes q) ids ≡ true
  among q r = by (list_any (same_bytes q) ids) refl
    where
      by : (b : Bool) → list_any (same_bytes q) ids ≡ b → b ≡ true
      by true e = refl
      by false e =
          not_both _ r (ap is_some (position_none (λ p. is_running p && has_identifier q p) ps (λ j y at ok.
          let same : q ≡ identifier y.node.me = (same_bytes_decides q (identifier y.node.me)).0 (and_parts (is_running y) (has_identifier q y) ok).1 in
          not_both _ (ap (λ (x : Identifier). list_any (same_bytes x) ids) same ∙ all (identifier y.node.me) (ap is_some (are.ids j y at))) e)))

  alike : (q : Identifier) → list_any (same_bytes q) (filter (runs ps) ids) ≡ list_any (same_bytes q) (running_of ps)
  alike q =
      any-filter_same (same_bytes q) (runs ps) (runs ps q) (λ k t. ap (runs ps) (sym ((same_bytes_decides q k).0 t))) ids
      ∙ and_is (runs ps q) (list_any (same_bytes q) ids) (among q)
      ∙ some_passes (λ p. is_running p && has_identifier q p) ps
      ∙ sym (any_mapped q ps)
      ∙ sym (any_in_order bytes_cmp processes_total (map (λ p. identifier p.node.me) (filter is_running ps)) q)

  pub running_are : IsStrictlySortedBy bytes_cmp ids → filter (runs ps) ids ≡ running_of ps
  running_are sorted =
      same_sorted bytes_cmp processes_total processes_exact (filter (runs ps) ids) (running_of ps)
      (IsStrictlySortedBy-filter bytes_cmp (runs ps) ids sorted) (sorted_in_order bytes_cmp processes_total (map (λ p. identifier p.node.me) (filter is_running ps))) alike

-- ---- the first of them

find_least : (f : Identifier → Bool) (xs : List Identifier) → find f xs ≡ least (filter f xs)
find_least f [] = refl
find_least f (x ∷ xs) = by (f x) (find_least f xs)
  where
    by : (b : Bool) → find f xs ≡ least (filter f xs) → cond b (Some x) (find f xs) ≡ least (cond b (x ∷ filter f xs) (filter f xs))
    by true e = refl
    by false e = e

-- by two tests, in either order
find_twice : {A : Type 0} (f g : A → Bool) (xs : List A) → find f (filter g xs) ≡ find g (filter f xs)
find_twice f g [] = refl
find_twice f g (x ∷ xs) = by (f x) (g x) refl refl (find_twice f g xs)
  where
    by : (a b : Bool) → f x ≡ a → g x ≡ b → find f (filter g xs) ≡ find g (filter f xs) → find f (cond b (x ∷ filter g xs) (filter g xs)) ≡ find g (cond a (x ∷ filter f xs) (filter f xs))
    by true true d e same = ap (λ c. cond c (Some x) (find f (filter g xs))) d ∙ sym (ap (λ c. cond c (Some x) (find g (filter f xs))) e)
    by true false d e same = same ∙ sym (ap (λ c. cond c (Some x) (find g (filter f xs))) e)
    by false true d e same = ap (λ c. cond c (Some x) (find f (filter g xs))) d ∙ same
    by false false d e same = same

find_same : {A : Type 0} (f g : A → Bool) → ((x : A) → f x ≡ g x) → (xs : List A) → find f xs ≡ find g xs
find_same f g h [] = refl
find_same f g h (x ∷ xs) = ap (λ c. cond c (Some x) (find f xs)) (h x) ∙ ap (λ o. cond (g x) (Some x) o) (find_same f g h xs)

pub least_runs : (ids : List Identifier) (by_id by_endpoint : Places) (ps : List Peer) → HasAll ids by_id → AreFound by_id by_endpoint ps → IsStrictlySortedBy bytes_cmp ids → find (runs ps) ids ≡ least (running_of ps)
least_runs ids by_id by_endpoint ps all are sorted = find_least (runs ps) ids ∙ ap least (running_are ids by_id by_endpoint ps all are sorted)

and_true : (b : Bool) → (b && true) ≡ b
and_true true = refl
and_true false = refl

-- those above one
pub above_runs : (ids : List Identifier) (by_id by_endpoint : Places) (ps : List Peer) (last : Identifier) → HasAll ids by_id → AreFound by_id by_endpoint ps → IsStrictlySortedBy bytes_cmp ids →
    find (runs ps) (filter (λ id. is_lt (bytes_cmp last id) && true) ids) ≡ find (λ id. is_lt (bytes_cmp last id)) (running_of ps)
above_runs ids by_id by_endpoint ps last all are sorted =
    find_twice (runs ps) (λ id. is_lt (bytes_cmp last id) && true) ids
    ∙ find_same (λ id. is_lt (bytes_cmp last id) && true) (λ id. is_lt (bytes_cmp last id)) (λ id. and_true (is_lt (bytes_cmp last id))) (filter (runs ps) ids)
    ∙ ap (find (λ id. is_lt (bytes_cmp last id))) (running_are ids by_id by_endpoint ps all are sorted)

-- ---- one after another

pub passed : {A : Type 0} (f : A → Bool) (x : A) (xs ys : List A) → ys ≡ x ∷ xs → f x ≡ false → find f xs ≡ find f ys
passed f x xs ys e fails = sym (ap (find f) e ∙ ap (λ c. cond c (Some x) (find f xs)) fails)

pub stopped : {A : Type 0} (f : A → Bool) (x : A) (xs ys : List A) → ys ≡ x ∷ xs → f x ≡ true → Some x ≡ find f ys
stopped f x xs ys e ok = sym (ap (find f) e ∙ ap (λ c. cond c (Some x) (find f xs)) ok)

pub ended : {A : Type 0} (f : A → Bool) (ys : List A) → ys ≡ [] → None ≡ find f ys
ended f ys e = sym (ap (find f) e)

-- the next packet is found, or one after it
pub next_or_later : (test : ℕ → Bool) (passed sent : ℕ) → passed < sent →
    find test (range_with_len (passed + 1) (sent - passed)) ≡ cond (test (passed + 1)) (Some (passed + 1)) (find test (range_with_len (passed + 1 + 1) (sent - (passed + 1))))
next_or_later test passed sent h = let e : sent - passed ≡ suc (sent - (passed + 1)) = omega arith in rw e refl
