-- The index of alerts: how its sets go with the sets of the program, and what it says of the joiners.
use Rattle.std.proofs.Common.{◌≡◌, ℕ, ◌+◌, Bool, true, false, cond, ◌||◌, List, [], ◌∷◌, ◌++◌, length, map, refl, sym, ap, ◌∙◌, arith}
use Rattle.std.specs.List.{list_any}
use Rattle.std.specs.declared.cmp.Ordering.{Ordering}
use Rattle.std.specs.Ordering.{eq_by_cmp}
use Rattle.std.specs.Cmp.{IsTotalOrder}
use Rattle.std.specs.FinSet as set
use Rattle.std.specs.FinMap.{IsAntisymmetric}
use Rattle.std.proofs.lemmas.List.Folds.{list_any-append}
use Rattle.std.proofs.lemmas.List.{map-append}
use Rattle.rapid_model.specs.Process.{Process, ProcessSet, process_cmp, is_in, same_bytes}
use Rattle.rapid_model.specs.Alert.{Alert, Remove, Join, is_remove}
use Rattle.rapid_model.specs.Reports.{Reports, report_of}
use Rattle.rapid_model.specs.Outbox.{distinct, joiners_in, has_room}
use Rattle.rapid_model.proofs.Orders.{processes_total, processes_exact, reports_total, reports_exact, same_bytes_decides}
use Rattle.rapid_alerts.specs.Outboxes.{Index, joining, index_of, indexed, has_room as index_has_room}

or_false : (b : Bool) → (b || false) ≡ b
or_false true = refl
or_false false = refl

or_comm : (a b : Bool) → (a || b) ≡ (b || a)
or_comm true true = refl
or_comm true false = refl
or_comm false true = refl
or_comm false false = refl

-- ---- sets of any keys

module _ {K : Type 0} {R : K → K → Ordering} (o : IsTotalOrder R) (exact : IsAntisymmetric R) where
  -- the set of a list with one more at its end
  pub set_of_more : (ks : List K) (x : K) → set.from_list {R = R} (ks ++ x ∷ []) ≡ set.insert (set.from_list ks) x
  set_of_more ks x =
      set.same_set o exact _ _ (λ q.
      set.contains-from_list o (ks ++ x ∷ []) q ∙ list_any-append (eq_by_cmp R q) ks (x ∷ [])
      ∙ or_comm (list_any (eq_by_cmp R q) ks) (eq_by_cmp R q x || false)
      ∙ ap (λ b. b || list_any (eq_by_cmp R q) ks) (or_false (eq_by_cmp R q x))
      ∙ ap (λ b. eq_by_cmp R q x || b) (sym (set.contains-from_list o ks q))
      ∙ sym (set.contains-insert o (set.from_list ks) x q))

-- an index is its two sets
index_is : {r s : Reports} {j k : ProcessSet} → r ≡ s → j ≡ k → ◌≡◌ {A = Index} (record { reports = r; joiners = j }) (record { reports = s; joiners = k })
index_is r j = λ i. record { reports = r i; joiners = j i }

-- ---- one more alert

joining_more : (xs : List Alert) (a : Alert) → joining (xs ++ a ∷ []) ≡ cond (is_remove a.kind) (joining xs) (joining xs ++ a.subject ∷ [])
joining_more [] a = elim a.kind as (λ k. joining (record a { kind = k } ∷ []) ≡ cond (is_remove k) [] (a.subject ∷ [])) [ Remove ↦ refl | Join ↦ refl ]
joining_more (x ∷ xs) a =
    elim x.kind as (λ k. joining (record x { kind = k } ∷ (xs ++ a ∷ [])) ≡ cond (is_remove a.kind) (joining (record x { kind = k } ∷ xs)) (joining (record x { kind = k } ∷ xs) ++ a.subject ∷ [])) [
      | Remove ↦ joining_more xs a
      | Join ↦ ap (λ l. x.subject ∷ l) (joining_more xs a) ∙ push_in (is_remove a.kind)
    ]
  where
    push_in : (b : Bool) → x.subject ∷ cond b (joining xs) (joining xs ++ a.subject ∷ []) ≡ cond b (x.subject ∷ joining xs) (x.subject ∷ (joining xs ++ a.subject ∷ []))
    push_in true = refl
    push_in false = refl

-- the index of one alert more
pub index_more : (xs : List Alert) (a : Alert) → index_of (xs ++ a ∷ []) ≡ indexed (index_of xs) a
index_more xs a =
    let reports = ap set.from_list (map-append report_of xs (a ∷ [])) ∙ set_of_more reports_total reports_exact (map report_of xs) (report_of a) in
    let joiners = ap set.from_list (joining_more xs a) ∙ by_kind (is_remove a.kind) in
    index_is reports joiners
  where
    by_kind : (b : Bool) → set.from_list {R = process_cmp} (cond b (joining xs) (joining xs ++ a.subject ∷ [])) ≡ cond b (set.from_list (joining xs)) (set.insert (set.from_list (joining xs)) a.subject)
    by_kind true = refl
    by_kind false = set_of_more processes_total processes_exact (joining xs) a.subject

-- ---- the room for joiners

in_distinct : (ps : List Process) (q : Process) → is_in (distinct ps) q ≡ is_in ps q
in_distinct [] q = refl
in_distinct (p ∷ ps) q =
    elim (is_in ps p) as (λ b. is_in ps p ≡ b → is_in (cond b (distinct ps) (p ∷ distinct ps)) q ≡ (same_bytes q p || is_in ps q)) [
      | true ↦ λ e. in_distinct ps q ∙ again e
      | false ↦ λ e. ap (λ b. same_bytes q p || b) (in_distinct ps q)
    ] refl
  where
    again : is_in ps p ≡ true → is_in ps q ≡ (same_bytes q p || is_in ps q)
    again e =
        elim (same_bytes q p) as (λ b. same_bytes q p ≡ b → is_in ps q ≡ (b || is_in ps q)) [
          | true ↦ λ t. ap (is_in ps) ((same_bytes_decides q p).0 t) ∙ e
          | false ↦ λ t. refl
        ] refl

length_distinct : (ps : List Process) → set.len (set.from_list {R = process_cmp} ps) ≡ length (distinct ps)
length_distinct [] = set.len-empty process_cmp
length_distinct (p ∷ ps) =
    let rest = length_distinct ps in
    let more = set.len-insert processes_total (set.from_list ps) p in
    let has = set.contains-from_list processes_total ps p in
    more ∙ ap (λ b. cond b (set.len (set.from_list {R = process_cmp} ps)) (set.len (set.from_list {R = process_cmp} ps) + 1)) has ∙ by (is_in ps p) rest
  where
    by : (b : Bool) {n : ℕ} → n ≡ length (distinct ps) → cond b n (n + 1) ≡ length (cond b (distinct ps) (p ∷ distinct ps))
    by true e = e
    by false e = omega (arith, e)

-- whether there is room is said by the index
pub room_is : (xs : List Alert) (a : Alert) → has_room xs a ≡ index_has_room (index_of xs) a
room_is xs a =
    let there : is_in (joiners_in xs) a.subject ≡ set.contains (index_of xs).joiners a.subject =
    in_distinct (joining xs) a.subject ∙ sym (set.contains-from_list processes_total (joining xs) a.subject) in
    let many : length (joiners_in xs) ≡ set.len (index_of xs).joiners = sym (length_distinct (joining xs)) in
    rw (there, many) refl
