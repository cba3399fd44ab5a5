-- Counters that ascend by their cuts, as the map from each cut to its count.
use Rattle.std.proofs.Common.{◌≡◌, ℕ, ◌+◌, ◌≤◌, ◌<◌, Bool, true, false, cond, T, List, [], length, set, get_or, sym, ap, subst, ◌∙◌, arith, unwrap_or}
use Rattle.std.specs.declared.cmp.Ordering.TheVariants.{Less, Equal, Greater}
use Rattle.std.specs.Ordering.{nat_cmp, ordering_index}
use Rattle.std.specs.Cmp.{nat_cmp_total}
use Rattle.std.specs.List.{insert, HoldsAt, AllWithin}
use Rattle.std.specs.List.Sorted.{IsNonDecreasingBy, IsPartitionPoint}
use Rattle.std.specs.FinMap as map
use Rattle.std.specs.FinSet as fin
use Rattle.std.specs.FinMap.Entries.{put, is_sorted, is_sorted-put}
use Rattle.rapid_model.specs.Cut.{Cut, cut_cmp, same_cut}
use Rattle.rapid_model.specs.FastRound.{Counts, count_of, one_more}
use Rattle.rapid_model.proofs.Orders.{cuts_total}
use Rattle.rapid_model.proofs.Rounds.{count_of-one_more}
use Rattle.rapid_model.proofs.Places.{searchable, put_found, find_found, put_missing, find_missing}

pub no_counts : ◌≡◌ {A = Counts} (map.from_sorted []) map.empty
no_counts = map.empty_of_len _ (map.len-entries _ ∙ ap length (map.entries-from_sorted cut_cmp [] tt))

module _ (xs : List (Cut × ℕ)) (sorted : T (is_sorted cut_cmp xs)) (v : Cut) where
  pub count_of-found : (i : ℕ) (d : Cut × ℕ) → i < length xs → cut_cmp (get_or xs i d).0 v ≡ Equal → count_of (map.from_sorted xs) v ≡ (get_or xs i d).1
  count_of-found i d h t = ap (λ o. unwrap_or o 0) (map.get-from_sorted cut_cmp xs v sorted ∙ find_found cuts_total v xs i d sorted h t)

  pub count_of-missing : (i : ℕ) → i ≤ length xs → AllWithin (λ e. cut_cmp e.0 v ≡ Less) xs 0 i → AllWithin (λ e. cut_cmp e.0 v ≡ Greater) xs i (length xs) → count_of (map.from_sorted xs) v ≡ 0
  count_of-missing i h low high = ap (λ o. unwrap_or o 0) (map.get-from_sorted cut_cmp xs v sorted ∙ find_missing cuts_total v xs i h low high)

  -- the counters after a change that puts a count in its place
  sorted_put : (n : ℕ) (ys : List (Cut × ℕ)) → ys ≡ put cut_cmp v n xs → T (is_sorted cut_cmp ys)
  sorted_put n ys e = subst (λ l. T (is_sorted cut_cmp l)) (sym e) (is_sorted-put cut_cmp cuts_total v n xs sorted)

  put_is : (n : ℕ) (ys : List (Cut × ℕ)) → ys ≡ put cut_cmp v n xs → n ≡ count_of (map.from_sorted xs) v + 1 → map.from_sorted {R = cut_cmp} ys ≡ one_more (map.from_sorted xs) v
  put_is n ys e count =
      map.same_entries_map _ _
      (map.entries-from_sorted cut_cmp ys (sorted_put n ys e) ∙ e
      ∙ sym (map.entries-insert cuts_total (map.from_sorted xs) v (count_of (map.from_sorted xs) v + 1) ∙ ap (λ l. put cut_cmp v (count_of (map.from_sorted xs) v + 1) l) (map.entries-from_sorted cut_cmp xs sorted) ∙ ap (λ m. put cut_cmp v m xs) (sym count)))

  module _ (i : ℕ) (x : Cut × ℕ) (h : i < length xs) (t : cut_cmp (get_or xs i x).0 v ≡ Equal) (read : x ≡ get_or xs i x) where
    edit : set xs i (x.0, x.1 + 1) ≡ put cut_cmp v (x.1 + 1) xs
    edit = sym (put_found cuts_total v xs i (x.1 + 1) x sorted h t ∙ ap (λ (y : Cut × ℕ). set xs i (y.0, x.1 + 1)) (sym read))

    pub sorted-raised : T (is_sorted cut_cmp (set xs i (x.0, x.1 + 1)))
    sorted-raised = sorted_put (x.1 + 1) _ edit

    pub raised : map.from_sorted {R = cut_cmp} (set xs i (x.0, x.1 + 1)) ≡ one_more (map.from_sorted xs) v
    raised = put_is (x.1 + 1) _ edit (ap (λ (y : Cut × ℕ). y.1 + 1) read ∙ ap (λ n. n + 1) (sym (count_of-found i x h t)))

  module _ (i : ℕ) (h : i ≤ length xs) (low : AllWithin (λ e. cut_cmp e.0 v ≡ Less) xs 0 i) (high : AllWithin (λ e. cut_cmp e.0 v ≡ Greater) xs i (length xs)) (ys : List (Cut × ℕ)) (e : ys ≡ insert xs i (v, 1)) where
    pub sorted-begun : T (is_sorted cut_cmp ys)
    sorted-begun = sorted_put 1 ys (e ∙ sym (put_missing cuts_total v xs i 1 h low high))

    pub begun : map.from_sorted {R = cut_cmp} ys ≡ one_more (map.from_sorted xs) v
    begun = put_is 1 ys (e ∙ sym (put_missing cuts_total v xs i 1 h low high)) (sym (ap (λ n. n + 1) (count_of-missing i h low high)))

-- one more is counted, and one more was heard
pub counted-one_more : (m : Counts) (s : fin.FinSet nat_cmp) (p : ℕ) (v : Cut) → fin.contains s p ≡ false → ((w : Cut) → count_of m w ≤ fin.len s) → (w : Cut) → count_of (one_more m v) w ≤ fin.len (fin.insert s p)
counted-one_more m s p v new few w =
    let more : fin.len (fin.insert s p) ≡ fin.len s + 1 = fin.len-insert nat_cmp_total s p ∙ ap (λ b. cond b (fin.len s) (fin.len s + 1)) new in
    let count = count_of-one_more m v w in
    omega (arith, more, count, few w, one_at_most (same_cut v w))
  where
    one_at_most : (b : Bool) → cond b 1 0 ≤ 1
    one_at_most true = omega arith
    one_at_most false = omega arith

-- the same, in the terms of the calls: the counters xs as the slice zs has them, and the value m that they represent
module _ (m : Counts) (xs zs : List (Cut × ℕ)) (v : Cut) (sorted : T (is_sorted cut_cmp xs)) (view : map.from_sorted xs ≡ m) (same : zs ≡ xs) where
  split_at : (i : ℕ) → (IsNonDecreasingBy (λ e. ordering_index (cut_cmp e.0 v)) zs → IsPartitionPoint (λ e. cut_cmp e.0 v ≡ Less) (λ e. cut_cmp e.0 v ≡ Greater) zs i) → IsPartitionPoint (λ e. cut_cmp e.0 v ≡ Less) (λ e. cut_cmp e.0 v ≡ Greater) xs i
  split_at i place =
      subst (λ l. IsPartitionPoint (λ (e : Cut × ℕ). cut_cmp e.0 v ≡ Less) (λ e. cut_cmp e.0 v ≡ Greater) l i) same
      (place (subst (λ l. IsNonDecreasingBy (λ (e : Cut × ℕ). ordering_index (cut_cmp e.0 v)) l) (sym same) (searchable cuts_total xs v sorted)))

  pub count_at : (i : ℕ) (x : Cut × ℕ) → i < length zs → HoldsAt (λ e. cut_cmp e.0 v ≡ Equal) zs i → x ≡ get_or xs i x → x.1 ≡ count_of m v
  count_at i x h t read =
      ap (λ (y : Cut × ℕ). y.1) read
      ∙ sym (count_of-found xs sorted v i x (subst (λ l. i < length l) same h) (subst (λ (l : List (Cut × ℕ)). cut_cmp (get_or l i x).0 v ≡ Equal) same (t x)))
      ∙ ap (λ n. count_of n v) view

  pub count_none : (i : ℕ) → i ≤ length zs → (IsNonDecreasingBy (λ e. ordering_index (cut_cmp e.0 v)) zs → IsPartitionPoint (λ e. cut_cmp e.0 v ≡ Less) (λ e. cut_cmp e.0 v ≡ Greater) zs i) → 0 ≡ count_of m v
  count_none i h place =
      let split = split_at i place in
      sym (ap (λ n. count_of n v) (sym view) ∙ count_of-missing xs sorted v i (subst (λ l. i ≤ length l) same h) split.0 split.1)

  module _ (i : ℕ) (x : Cut × ℕ) (h : i < length zs) (t : HoldsAt (λ e. cut_cmp e.0 v ≡ Equal) zs i) (read : x ≡ get_or xs i x) where
    pub sorted-raised_at : T (is_sorted cut_cmp (set xs i (x.0, x.1 + 1)))
    sorted-raised_at = sorted-raised xs sorted v i x (subst (λ l. i < length l) same h) (subst (λ (l : List (Cut × ℕ)). cut_cmp (get_or l i x).0 v ≡ Equal) same (t x)) read

    pub raised_at : map.from_sorted {R = cut_cmp} (set xs i (x.0, x.1 + 1)) ≡ one_more m v
    raised_at = raised xs sorted v i x (subst (λ l. i < length l) same h) (subst (λ (l : List (Cut × ℕ)). cut_cmp (get_or l i x).0 v ≡ Equal) same (t x)) read ∙ ap (λ n. one_more n v) view

  module _ (i : ℕ) (h : i ≤ length zs) (place : IsNonDecreasingBy (λ e. ordering_index (cut_cmp e.0 v)) zs → IsPartitionPoint (λ e. cut_cmp e.0 v ≡ Less) (λ e. cut_cmp e.0 v ≡ Greater) zs i) (w : Cut) (copy : w ≡ v) (ys : List (Cut × ℕ)) (e : ys ≡ insert xs i (w, 1)) where
    pub sorted-begun_at : T (is_sorted cut_cmp ys)
    sorted-begun_at =
        let split = split_at i place in
        sorted-begun xs sorted v i (subst (λ l. i ≤ length l) same h) split.0 split.1 ys (e ∙ ap (λ u. insert xs i (u, 1)) copy)

    pub begun_at : map.from_sorted {R = cut_cmp} ys ≡ one_more m v
    begun_at =
        let split = split_at i place in
        begun xs sorted v i (subst (λ l. i ≤ length l) same h) split.0 split.1 ys (e ∙ ap (λ u. insert xs i (u, 1)) copy) ∙ ap (λ n. one_more n v) view
