-- Notices kept as a set of positions for each ballot and cut.
use Rattle.std.proofs.Common.{◌≡◌, ℕ, ◌+◌, ◌≤◌, ◌<◌, Bool, true, false, cond, ◌&&◌, ◌||◌, T, List, [], ◌∷◌, ◌++◌, length, map, set, get_or, refl, sym, ap, subst, ◌∙◌, Some, None, unwrap_or}
use Rattle.std.specs.declared.cmp.Ordering.{Ordering}
use Rattle.std.specs.declared.cmp.Ordering.TheVariants.{Less, Equal, Greater}
use Rattle.std.specs.Ordering.{ordering_then, nat_cmp, is_lt, is_eq, eq_by_cmp, ordering_index}
use Rattle.std.specs.Cmp.{IsTotalOrder, tied_itself, nat_cmp_total, on_total, then_total}
use Rattle.std.specs.List.{list_any, insert, HoldsAt}
use Rattle.std.specs.List.Sorted.{IsNonDecreasingBy, IsPartitionPoint}
use Rattle.std.specs.FinSet as fin
use Rattle.std.specs.FinMap.Entries.{put, find, is_sorted, is_sorted-put, find-put, below_all}
use Rattle.std.proofs.lemmas.Bool.{true≢false, and_parts, and_from}
use Rattle.rapid_model.specs.Cut.{Cut, cut_cmp, same_cut}
use Rattle.rapid_model.specs.Ballot.{Ballot, ballot_cmp, same_ballot}
use Rattle.rapid_model.specs.Learner.{Notice, notice_cmp, notice_count}
use Rattle.rapid_model.proofs.Orders.{ballots_total, ballots_exact, cuts_total, cuts_exact, notices_total, first_equal, second_equal, tie_decides}
use Rattle.rapid_agreement.proofs.SetLemmas.{insert_known, len-passed, len-failed}
use Rattle.rapid_model.proofs.Places.{searchable, put_found, find_found, put_missing, find_missing}
use Rattle.rapid_paxos.specs.Notices.{Entries, key_cmp, all_notices, notices_of, positions_at, AreEntries}
use Rattle.rapid_model.proofs.Logic.{equal_is}

abbrev Key : Type 0
Key = Ballot × Cut

keys_total : IsTotalOrder key_cmp
keys_total = then_total (on_total (λ (x : Key). x.0) ballots_total) (on_total (λ (x : Key). x.1) cuts_total)

keys_exact : fin.IsAntisymmetric key_cmp
keys_exact a b e =
    let p : a.0 ≡ b.0 = ballots_exact _ _ (first_equal (ballot_cmp a.0 b.0) (cut_cmp a.1 b.1) e) in
    let q : a.1 ≡ b.1 = cuts_exact _ _ (second_equal (ballot_cmp a.0 b.0) (cut_cmp a.1 b.1) e) in
    λ i. (p i, q i)

notices_exact : fin.IsAntisymmetric notice_cmp
notices_exact a b e =
    let p : a.0 ≡ b.0 = keys_exact _ _ (first_equal (key_cmp a.0 b.0) (nat_cmp a.1 b.1) e) in
    let q : a.1 ≡ b.1 = fin.nat_cmp-IsAntisymmetric _ _ (second_equal (key_cmp a.0 b.0) (nat_cmp a.1 b.1) e) in
    λ i. (p i, q i)

-- a notice ties with another if its ballot and cut tie and its position does
tied_parts : (k : Key) (p : ℕ) (n : Notice) → eq_by_cmp notice_cmp (k, p) n ≡ (eq_by_cmp key_cmp k n.0 && eq_by_cmp nat_cmp p n.1)
tied_parts k p n = by (key_cmp k n.0)
  where
    by : (o : Ordering) → is_eq (ordering_then o (nat_cmp p n.1)) ≡ (is_eq o && is_eq (nat_cmp p n.1))
    by Less = refl
    by Equal = refl
    by Greater = refl

any-append : {A : Type 0} (f : A → Bool) (xs ys : List A) → list_any f (xs ++ ys) ≡ (list_any f xs || list_any f ys)
any-append f [] ys = refl
any-append f (x ∷ xs) ys = by (f x) (any-append f xs ys)
  where
    by : (b : Bool) → list_any f (xs ++ ys) ≡ (list_any f xs || list_any f ys) → (b || list_any f (xs ++ ys)) ≡ ((b || list_any f xs) || list_any f ys)
    by true e = refl
    by false e = e

any_of_entry : (k e : Key) (p : ℕ) (qs : List ℕ) → list_any (eq_by_cmp notice_cmp (k, p)) (map (λ q. (e, q)) qs) ≡ (eq_by_cmp key_cmp k e && list_any (eq_by_cmp nat_cmp p) qs)
any_of_entry k e p [] = none (eq_by_cmp key_cmp k e)
  where
    none : (b : Bool) → false ≡ (b && false)
    none true = refl
    none false = refl
any_of_entry k e p (q ∷ qs) =
    (λ i. tied_parts k p (e, q) i || any_of_entry k e p qs i) ∙ by (eq_by_cmp key_cmp k e) (eq_by_cmp nat_cmp p q) (list_any (eq_by_cmp nat_cmp p) qs)
  where
    by : (a b c : Bool) → ((a && b) || (a && c)) ≡ (a && (b || c))
    by true b c = refl
    by false b c = refl

T_to : (b : Bool) → T b → b ≡ true
T_to true h = refl
T_to false h = absurd h

T_from : (b : Bool) → b ≡ true → T b
T_from b e = subst T (sym e) tt

first_of : (a b : Bool) → T (a && b) → T a
first_of a b h = T_from a (and_parts a b (T_to (a && b) h)).0

second_of : (a b : Bool) → T (a && b) → T b
second_of a b h = T_from b (and_parts a b (T_to (a && b) h)).1

none_above : (k : Key) (e : Key) (es : Entries) → key_cmp k e ≡ Equal → T (below_all key_cmp e es) → find key_cmp k es ≡ None
none_above k e [] t h = refl
none_above k e (x ∷ xs) t h =
    let less : key_cmp k x.0 ≡ Less = keys_total.congr k e x.0 t ∙ less_of (key_cmp e x.0) (T_to _ (first_of _ _ h)) in
    ap (λ o. cond (is_eq o) (Some x.1) (find key_cmp k xs)) less ∙ none_above k e xs t (second_of _ _ h)
  where
    less_of : (o : Ordering) → is_lt o ≡ true → o ≡ Less
    less_of Less h = refl
    less_of Equal h = cc
    less_of Greater h = cc

any_of_all : (es : Entries) (k : Key) (p : ℕ) → T (is_sorted key_cmp es) → list_any (eq_by_cmp notice_cmp (k, p)) (all_notices es) ≡ fin.contains (positions_at es k) p
any_of_all [] k p s = sym (fin.contains-empty nat_cmp p)
any_of_all (e ∷ es) k p s =
    any-append (eq_by_cmp notice_cmp (k, p)) (map (λ q. (e.0, q)) (fin.items e.1)) (all_notices es)
    ∙ ap (λ b. b || list_any (eq_by_cmp notice_cmp (k, p)) (all_notices es)) (any_of_entry k e.0 p (fin.items e.1) ∙ ap (λ b. eq_by_cmp key_cmp k e.0 && b) (sym (fin.contains-items e.1 p)))
    ∙ ap (λ b. (eq_by_cmp key_cmp k e.0 && fin.contains e.1 p) || b) (any_of_all es k p (second_of _ _ s))
    ∙ by (eq_by_cmp key_cmp k e.0) refl
  where
    or-false : (a : Bool) → (a || false) ≡ a
    or-false true = refl
    or-false false = refl

    by : (b : Bool) → eq_by_cmp key_cmp k e.0 ≡ b → ((b && fin.contains e.1 p) || fin.contains (positions_at es k) p) ≡ fin.contains (unwrap_or (cond b (Some e.1) (find key_cmp k es)) fin.empty) p
    by true h =
        ap (λ o. fin.contains e.1 p || fin.contains (unwrap_or o fin.empty) p) (none_above k e.0 es (equal_is _ h) (first_of _ _ s))
        ∙ ap (λ b. fin.contains e.1 p || b) (fin.contains-empty nat_cmp p) ∙ or-false (fin.contains e.1 p)
    by false h = refl

contains-notices_of : (es : Entries) (k : Key) (p : ℕ) → T (is_sorted key_cmp es) → fin.contains (notices_of es) (k, p) ≡ fin.contains (positions_at es k) p
unfolding notices_of
contains-notices_of es k p s = fin.contains-from_list notices_total (all_notices es) (k, p) ∙ any_of_all es k p s

positions_at-put : (es : Entries) (k q : Key) (s : fin.FinSet nat_cmp) → positions_at (put key_cmp k s es) q ≡ cond (eq_by_cmp key_cmp q k) s (positions_at es q)
positions_at-put es k q s = ap (λ o. unwrap_or o fin.empty) (find-put key_cmp keys_total q k s es) ∙ by (eq_by_cmp key_cmp q k)
  where
    by : (b : Bool) → unwrap_or (cond b (Some s) (find key_cmp q es)) fin.empty ≡ cond b s (positions_at es q)
    by true = refl
    by false = refl

-- ---- a notice of a cut at a ballot

same_itself : (k : Key) → (same_ballot k.0 k.0 && same_cut k.1 k.1) ≡ true
same_itself k = and_from _ _ ((tie_decides ballots_total ballots_exact k.0 k.0).1 refl) ((tie_decides cuts_total cuts_exact k.1 k.1).1 refl)

not_same : (k q : Key) → (k ≡ q → ⊥) → (same_ballot k.0 q.0 && same_cut k.1 q.1) ≡ false
not_same k q apart = by (same_ballot k.0 q.0 && same_cut k.1 q.1) refl
  where
    by : (b : Bool) → (same_ballot k.0 q.0 && same_cut k.1 q.1) ≡ b → b ≡ false
    by true h =
        let parts = and_parts _ _ h in
        let p : k.0 ≡ q.0 = (tie_decides ballots_total ballots_exact k.0 q.0).0 parts.0 in
        let r : k.1 ≡ q.1 = (tie_decides cuts_total cuts_exact k.1 q.1).0 parts.1 in
        absurd (apart (λ i. (p i, r i)))
    by false h = refl

module _ (es : Entries) (is : AreEntries es) (k : Key) (p : ℕ) where
  known_in : fin.contains (notices_of es) (k, p) ≡ fin.contains (positions_at es k) p
  known_in = contains-notices_of es k p is.sorted

  -- how many there are with the notice
  count_known : fin.contains (positions_at es k) p ≡ true → notice_count (fin.insert (notices_of es) (k, p)) k.0 k.1 ≡ fin.len (positions_at es k)
  count_known known = ap (λ n. notice_count n k.0 k.1) (insert_known notices_total notices_exact (notices_of es) (k, p) (known_in ∙ known)) ∙ is.counted k.0 k.1

  count_new : fin.contains (positions_at es k) p ≡ false → notice_count (fin.insert (notices_of es) (k, p)) k.0 k.1 ≡ fin.len (positions_at es k) + 1
  count_new new =
      len-passed notices_total notices_exact (notices_of es) (k, p) (λ x. same_ballot x.0.0 k.0 && same_cut x.0.1 k.1) (same_itself k) (known_in ∙ new)
      ∙ ap (λ n. n + 1) (is.counted k.0 k.1)

  -- the entries after a change that puts the positions in their place
  module _ (s : fin.FinSet nat_cmp) (e : s ≡ fin.insert (positions_at es k) p) (fs : Entries) (f : fs ≡ put key_cmp k s es) where
    sorted_put : T (is_sorted key_cmp fs)
    sorted_put = subst (λ l. T (is_sorted key_cmp l)) (sym f) (is_sorted-put key_cmp keys_total k s es is.sorted)

    at_put : (q : Key) → positions_at fs q ≡ cond (eq_by_cmp key_cmp q k) s (positions_at es q)
    at_put q = ap (λ l. positions_at l q) f ∙ positions_at-put es k q s

    pub notices_put : notices_of fs ≡ fin.insert (notices_of es) (k, p)
    notices_put =
        fin.same_set notices_total notices_exact _ _ (λ n.
        contains-notices_of fs n.0 n.1 sorted_put ∙ ap (λ t. fin.contains t n.1) (at_put n.0) ∙ by n (eq_by_cmp key_cmp n.0 k) refl
        ∙ sym (fin.contains-insert notices_total (notices_of es) (k, p) n ∙ (λ i. tied_parts n.0 n.1 (k, p) i || contains-notices_of es n.0 n.1 is.sorted i)))
      where
        by : (n : Notice) (b : Bool) → eq_by_cmp key_cmp n.0 k ≡ b → fin.contains (cond b s (positions_at es n.0)) n.1 ≡ ((b && eq_by_cmp nat_cmp n.1 p) || fin.contains (positions_at es n.0) n.1)
        by n true h =
            ap (λ t. fin.contains t n.1) e ∙ fin.contains-insert nat_cmp_total (positions_at es k) p n.1
            ∙ ap (λ q. eq_by_cmp nat_cmp n.1 p || fin.contains (positions_at es q) n.1) (sym (keys_exact n.0 k (equal_is _ h)))
        by n false h = refl

    counts_put : (q : Key) → notice_count (notices_of fs) q.0 q.1 ≡ fin.len (positions_at fs q)
    counts_put q = ap (λ n. notice_count n q.0 q.1) notices_put ∙ by (eq_by_cmp key_cmp q k) refl ∙ ap fin.len (sym (at_put q))
      where
        here : fin.len s ≡ fin.len (fin.insert (positions_at es k) p)
        here = ap fin.len e

        same : (b : Bool) → fin.contains (positions_at es k) p ≡ b → notice_count (fin.insert (notices_of es) (k, p)) k.0 k.1 ≡ fin.len s
        same true known = count_known known ∙ sym (here ∙ fin.len-insert nat_cmp_total (positions_at es k) p ∙ ap (λ b. cond b (fin.len (positions_at es k)) (fin.len (positions_at es k) + 1)) known)
        same false new = count_new new ∙ sym (here ∙ fin.len-insert nat_cmp_total (positions_at es k) p ∙ ap (λ b. cond b (fin.len (positions_at es k)) (fin.len (positions_at es k) + 1)) new)

        by : (b : Bool) → eq_by_cmp key_cmp q k ≡ b → notice_count (fin.insert (notices_of es) (k, p)) q.0 q.1 ≡ fin.len (cond b s (positions_at es q))
        by true h =
            let e : q ≡ k = keys_exact q k (equal_is _ h) in
            ap (λ (x : Key). notice_count (fin.insert (notices_of es) (k, p)) x.0 x.1) e ∙ same (fin.contains (positions_at es k) p) refl
        by false h =
            len-failed notices_total notices_exact (notices_of es) (k, p) (λ x. same_ballot x.0.0 q.0 && same_cut x.0.1 q.1)
            (not_same k q (λ e. true≢false (sym (ap is_eq (tied_itself keys_total q) ∙ refl) ∙ ap (λ x. eq_by_cmp key_cmp q x) (sym e) ∙ h)))
            ∙ is.counted q.0 q.1

    pub entries_put : AreEntries fs
    entries_put = record { sorted = sorted_put; counted = λ b v. counts_put (b, v) }

pub no_entries : AreEntries []
unfolding notices_of
no_entries = record {
  sorted = tt;
  counted = λ b v. ap fin.len (none b v) ∙ fin.len-empty notice_cmp ∙ sym (fin.len-empty nat_cmp);
}
  where
    none : (b : Ballot) (v : Cut) → fin.retain (fin.empty {R = notice_cmp}) (λ x. same_ballot x.0.0 b && same_cut x.0.1 v) ≡ fin.empty
    none b v = fin.same_set notices_total notices_exact _ _ (λ q. fin.contains-retain fin.empty (λ x. same_ballot x.0.0 b && same_cut x.0.1 v) q (λ x e. ap (λ (y : Notice). same_ballot y.0.0 b && same_cut y.0.1 v) (sym (notices_exact q x e))) ∙ (λ i. fin.contains-empty notice_cmp q i && (same_ballot q.0.0 b && same_cut q.0.1 v)) ∙ sym (fin.contains-empty notice_cmp q))

pub no_notices : notices_of [] ≡ fin.empty
unfolding notices_of
no_notices = refl

-- ---- the same, in the terms of the calls: the entries es as the slice zs has them, and the value n that they
-- represent

module _ (n : fin.FinSet notice_cmp) (es zs : Entries) (b : Ballot) (v : Cut) (p : ℕ) (is : AreEntries es) (view : notices_of es ≡ n) (same : zs ≡ es) where
  module _ (i : ℕ) (x : Key × fin.FinSet nat_cmp) (h : i < length zs) (t : HoldsAt (λ e. key_cmp e.0 (b, v) ≡ Equal) zs i) (read : x ≡ get_or es i x) where
    within : i < length es
    within = subst (λ l. i < length l) same h

    ties : key_cmp (get_or es i x).0 (b, v) ≡ Equal
    ties = subst (λ (l : Entries). key_cmp (get_or l i x).0 (b, v) ≡ Equal) same (t x)

    found : positions_at es (b, v) ≡ x.1
    found = ap (λ o. unwrap_or o fin.empty) (find_found keys_total (b, v) es i x is.sorted within ties) ∙ ap (λ (y : Key × fin.FinSet nat_cmp). y.1) (sym read)

    pub count_at_known : fin.contains x.1 p ≡ true → fin.len x.1 ≡ notice_count (fin.insert n ((b, v), p)) b v
    count_at_known known = sym (ap (λ m. notice_count (fin.insert m ((b, v), p)) b v) (sym view) ∙ count_known es is (b, v) p (ap (λ s. fin.contains s p) found ∙ known) ∙ ap fin.len found)

    pub count_at_new : fin.contains x.1 p ≡ false → fin.len x.1 + 1 ≡ notice_count (fin.insert n ((b, v), p)) b v
    count_at_new new = sym (ap (λ m. notice_count (fin.insert m ((b, v), p)) b v) (sym view) ∙ count_new es is (b, v) p (ap (λ s. fin.contains s p) found ∙ new) ∙ ap (λ s. fin.len s + 1) found)

    module _ (s : fin.FinSet nat_cmp) (e : s ≡ fin.insert x.1 p) where
      edit : set es i (x.0, s) ≡ put key_cmp (b, v) s es
      edit = sym (put_found keys_total (b, v) es i s x is.sorted within ties ∙ ap (λ (y : Key × fin.FinSet nat_cmp). set es i (y.0, s)) (sym read))

      pub entries_raised : AreEntries (set es i (x.0, s))
      entries_raised = entries_put es is (b, v) p s (e ∙ ap (λ q. fin.insert q p) (sym found)) _ edit

      pub notices_raised : notices_of (set es i (x.0, s)) ≡ fin.insert n ((b, v), p)
      notices_raised = notices_put es is (b, v) p s (e ∙ ap (λ q. fin.insert q p) (sym found)) _ edit ∙ ap (λ m. fin.insert m ((b, v), p)) view

  module _ (i : ℕ) (h : i ≤ length zs) (place : IsNonDecreasingBy (λ e. ordering_index (key_cmp e.0 (b, v))) zs → IsPartitionPoint (λ e. key_cmp e.0 (b, v) ≡ Less) (λ e. key_cmp e.0 (b, v) ≡ Greater) zs i) where
    split : IsPartitionPoint (λ e. key_cmp e.0 (b, v) ≡ Less) (λ e. key_cmp e.0 (b, v) ≡ Greater) es i
    split =
        subst (λ (l : Entries). IsPartitionPoint (λ (e : Key × fin.FinSet nat_cmp). key_cmp e.0 (b, v) ≡ Less) (λ e. key_cmp e.0 (b, v) ≡ Greater) l i) same
        (place (subst (λ (l : Entries). IsNonDecreasingBy (λ (e : Key × fin.FinSet nat_cmp). ordering_index (key_cmp e.0 (b, v))) l) (sym same) (searchable keys_total es (b, v) is.sorted)))

    room : i ≤ length es
    room = subst (λ (l : Entries). i ≤ length l) same h

    nobody : positions_at es (b, v) ≡ fin.empty
    nobody = ap (λ o. unwrap_or o fin.empty) (find_missing keys_total (b, v) es i room split.0 split.1)

    pub count_first : 1 ≡ notice_count (fin.insert n ((b, v), p)) b v
    count_first =
        sym (ap (λ m. notice_count (fin.insert m ((b, v), p)) b v) (sym view) ∙ count_new es is (b, v) p (ap (λ s. fin.contains s p) nobody ∙ fin.contains-empty nat_cmp p)
        ∙ ap (λ s. fin.len s + 1) nobody ∙ ap (λ l. l + 1) (fin.len-empty nat_cmp))

    module _ (w : Cut) (copy : w ≡ v) (s : fin.FinSet nat_cmp) (e : s ≡ fin.insert fin.empty p) (fs : Entries) (f : fs ≡ insert es i ((b, w), s)) where
      pushed : fs ≡ put key_cmp (b, v) s es
      pushed = f ∙ ap (λ u. insert es i ((b, u), s)) copy ∙ sym (put_missing keys_total (b, v) es i s room split.0 split.1)

      pub entries_begun : AreEntries fs
      entries_begun = entries_put es is (b, v) p s (e ∙ ap (λ q. fin.insert q p) (sym nobody)) fs pushed

      pub notices_begun : notices_of fs ≡ fin.insert n ((b, v), p)
      notices_begun = notices_put es is (b, v) p s (e ∙ ap (λ q. fin.insert q p) (sym nobody)) fs pushed ∙ ap (λ m. fin.insert m ((b, v), p)) view
