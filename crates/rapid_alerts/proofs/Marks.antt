-- Marks of subjects as the sets of an index.
use Rattle.std.proofs.Common.{◌≡◌, ℕ, ◌+◌, Bool, true, false, cond, not, ◌&&◌, ◌||◌, ◌==◌, List, [], filter, refl, sym, ap, subst, ◌∙◌, Option, Some, None, is_some, arith, nat_lt}
use Rattle.std.specs.Int.{bit_at}
use Rattle.std.specs.Ordering.{eq_by_cmp}
use Rattle.std.specs.Option.{unwrap_or}
use Rattle.std.specs.Cmp.{both_ways, eq_by_cmp_equiv}
use Rattle.std.specs.FinSet as set
use Rattle.std.specs.Map.{keys_of, lookup}
use Rattle.std.specs.BTreeMap.{is_at}
use Rattle.std.proofs.lemmas.Map.Made.{is_member-filter}
use Rattle.rapid_model.specs.Process.{Process, process_cmp, is_in, same_bytes}
use Rattle.rapid_model.specs.Alert.{Alert, is_remove}
use Rattle.rapid_model.specs.Reports.{Report, report_cmp}
use Rattle.rapid_model.proofs.Orders.{reports_total, reports_exact, processes_total, processes_exact, tie_decides, same_bytes_decides}
use Rattle.rapid_alerts.specs.declared.mark.Marks.{Marks}
use Rattle.rapid_alerts.specs.Outboxes.{Index, empty_index, indexed, has_room}
use Rattle.rapid_alerts.specs.RingMasks.{has_ring, with_rings}
use Rattle.rapid_alerts.specs.Marks.{no_marks, marks_of, is_reported, is_joiner, reports_in, joiners_of, index_in, IsIndex, IsOn}
use Rattle.rapid_alerts.proofs.RingMasks.{no_both, no_ring, below, on_these, found_in}
use Rattle.std.proofs.lemmas.Bool.{and_parts, and_from}
use Rattle.rapid_model.proofs.Logic.{and_is}

or_turn : (a b : Bool) → (a || b) ≡ (b || a)
or_turn true true = refl
or_turn true false = refl
or_turn false true = refl
or_turn false false = refl

or_false : (b : Bool) → (b || false) ≡ b
or_false true = refl
or_false false = refl

or_true : (b : Bool) → (b || true) ≡ true
or_true true = refl
or_true false = refl

-- ---- which reports and joiners there are

-- a subject with a mark is there
has_key : (es : List (Process × Marks)) (s : Process) (test : Marks → Bool) → test no_marks ≡ false → test (marks_of es s) ≡ true → is_in (keys_of es) s ≡ true
has_key es s test none h =
    found_in es s ∙ some (lookup (is_at (process_cmp s)) es) h
  where
    some : (o : Option Marks) → test (unwrap_or o no_marks) ≡ true → is_some o ≡ true
    some None e = absurd (no_both _ e none)
    some (Some m) e = refl

seen : (es : List (Process × Marks)) (x : Report) → set.contains (reports_in es) x ≡ is_reported es x
unfolding reports_in
seen es x =
    set.contains-from_list reports_total (filter (is_reported es) (with_rings (keys_of es))) x
    ∙ is_member-filter (eq_by_cmp_equiv reports_total) (is_reported es) x (λ y e. ap (is_reported es) ((tie_decides reports_total reports_exact x y).0 e)) (with_rings (keys_of es))
    ∙ and_is _ _ (λ h. on_these (keys_of es) x.0 x.1 (has_key es x.0 (λ m. has_ring m.rings x.1) (no_ring x.1) h) (below x.1 (and_parts (nat_lt x.1 16) (bit_at (marks_of es x.0).rings x.1 == 1) h).0))

joins_seen : (es : List (Process × Marks)) (s : Process) → set.contains (joiners_of es) s ≡ is_joiner es s
unfolding joiners_of
joins_seen es s =
    set.contains-from_list processes_total (filter (is_joiner es) (keys_of es)) s
    ∙ is_member-filter (eq_by_cmp_equiv processes_total) (is_joiner es) s (λ p e. ap (is_joiner es) ((same_bytes_decides s p).0 e)) (keys_of es)
    ∙ and_is _ _ (λ h. has_key es s (λ m. m.joins) refl h)

-- what is kept of a subject is what the index says of it
pub on_is : (es : List (Process × Marks)) (s : Process) (m : Marks) {i : Index} → index_in es ≡ i → m ≡ marks_of es s → IsOn i s m
on_is es s m {i} is kept =
    let own : IsOn (index_in es) s (marks_of es s) = record { rings = λ k. seen es (s, k); joins = joins_seen es s } in
    subst (IsOn i s) (sym kept) (subst (λ (j : Index). IsOn j s (marks_of es s)) is own)

-- ---- no marks

no_reports : reports_in [] ≡ set.empty
no_reports = set.same_set reports_total reports_exact _ _ (λ x. seen [] x ∙ no_ring x.1 ∙ sym (set.contains-empty report_cmp x))

no_joiners : joiners_of [] ≡ set.empty
no_joiners = set.same_set processes_total processes_exact _ _ (λ p. joins_seen [] p ∙ sym (set.contains-empty process_cmp p))

index_is : {i j : Index} → i.reports ≡ j.reports → i.joiners ≡ j.joiners → i ≡ j
index_is r j = λ k. record { reports = r k; joiners = j k }

pub none_in : (es : List (Process × Marks)) → es ≡ [] → index_in es ≡ empty_index
none_in es e = ap index_in e ∙ index_is no_reports no_joiners

pub none_index : (es : List (Process × Marks)) → es ≡ [] → IsIndex es 0
none_index es e =
    subst (λ l. IsIndex l 0) (sym e) (record { ascend = tt; counted = sym (ap set.len no_joiners ∙ set.len-empty process_cmp) })

-- ---- other marks for a subject

-- the second entries are the first ones with these marks for one subject
abbrev pub Puts : Process → Marks → List (Process × Marks) → List (Process × Marks) → Type 0
Puts s m es ns = (q : Process) → lookup (is_at (process_cmp q)) ns ≡ cond (is_at (process_cmp s) q) (Some m) (lookup (is_at (process_cmp q)) es)

changed : (es ns : List (Process × Marks)) (s : Process) (m : Marks) → Puts s m es ns → (q : Process) → marks_of ns q ≡ cond (same_bytes s q) m (marks_of es q)
changed es ns s m at q =
    ap (λ (o : Option Marks). unwrap_or o no_marks) (at q) ∙ inside (same_bytes s q)
  where
    inside : (b : Bool) → unwrap_or (cond b (Some m) (lookup (is_at (process_cmp q)) es)) no_marks ≡ cond b m (marks_of es q)
    inside true = refl
    inside false = refl

same_number : (m n : ℕ) → (m == n) ≡ true → m ≡ n
same_number m n h = grind arith

own_number : (n : ℕ) → (n == n) ≡ true
own_number n = grind arith

-- a report is this one if its subject and its ring are
report_is : (x : Report) (s : Process) (ring : ℕ) → eq_by_cmp report_cmp x (s, ring) ≡ (same_bytes s x.0 && x.1 == ring)
report_is x s ring =
    both_ways _ _
    (λ e. let same : x ≡ (s, ring) = (tie_decides reports_total reports_exact x (s, ring)).0 e in
    and_from _ _ ((same_bytes_decides s x.0).1 (sym (ap (λ (y : Report). y.0) same))) (subst (λ n. (x.1 == n) ≡ true) (ap (λ (y : Report). y.1) same) (own_number x.1)))
    (λ h. let p = and_parts (same_bytes s x.0) (x.1 == ring) h in
    let subject : x.0 ≡ s = sym ((same_bytes_decides s x.0).0 p.0) in
    let number : x.1 ≡ ring = same_number x.1 ring p.1 in
    (tie_decides reports_total reports_exact x (s, ring)).1 (λ i. (subject i, number i)))

reports_more : (es ns : List (Process × Marks)) (s : Process) (ring : ℕ) (before now : Marks) → Puts s now es ns → ((k : ℕ) → set.contains (reports_in es) (s, k) ≡ has_ring before.rings k)
    → ((k : ℕ) → has_ring now.rings k ≡ (has_ring before.rings k || k == ring)) → reports_in ns ≡ set.insert (reports_in es) (s, ring)
reports_more es ns s ring before now at on is =
    set.same_set reports_total reports_exact _ _ (λ x.
    seen ns x ∙ ap (λ (m : Marks). has_ring m.rings x.1) (changed es ns s now at x.0) ∙ inside x (same_bytes s x.0) refl
    ∙ ap (λ b. b || set.contains (reports_in es) x) (sym (report_is x s ring))
    ∙ sym (set.contains-insert reports_total (reports_in es) (s, ring) x))
  where
    inside : (x : Report) (b : Bool) → same_bytes s x.0 ≡ b → has_ring (cond b now (marks_of es x.0)).rings x.1 ≡ ((b && x.1 == ring) || set.contains (reports_in es) x)
    inside x true e =
        is x.1 ∙ ap (λ b. b || x.1 == ring) (sym (on x.1) ∙ ap (λ (p : Process). set.contains (reports_in es) (p, x.1)) ((same_bytes_decides s x.0).0 e))
        ∙ or_turn (set.contains (reports_in es) x) (x.1 == ring)
    inside x false e = sym (seen es x)

joiners_more : (es ns : List (Process × Marks)) (s : Process) (remove : Bool) (before now : Marks) → Puts s now es ns → set.contains (joiners_of es) s ≡ before.joins → now.joins ≡ (before.joins || not remove)
    → joiners_of ns ≡ cond remove (joiners_of es) (set.insert (joiners_of es) s)
joiners_more es ns s true before now at on is =
    set.same_set processes_total processes_exact _ _ (λ p. joins_seen ns p ∙ ap (λ (m : Marks). m.joins) (changed es ns s now at p) ∙ inside p (same_bytes s p) refl)
  where
    inside : (p : Process) (b : Bool) → same_bytes s p ≡ b → (cond b now (marks_of es p)).joins ≡ set.contains (joiners_of es) p
    inside p true e = is ∙ or_false before.joins ∙ sym on ∙ ap (set.contains (joiners_of es)) ((same_bytes_decides s p).0 e)
    inside p false e = sym (joins_seen es p)
joiners_more es ns s false before now at on is =
    set.same_set processes_total processes_exact _ _ (λ p.
    joins_seen ns p ∙ ap (λ (m : Marks). m.joins) (changed es ns s now at p) ∙ inside p (same_bytes s p) refl
    ∙ ap (λ b. b || set.contains (joiners_of es) p) ((eq_by_cmp_equiv processes_total).symm s p)
    ∙ sym (set.contains-insert processes_total (joiners_of es) s p))
  where
    inside : (p : Process) (b : Bool) → same_bytes s p ≡ b → (cond b now (marks_of es p)).joins ≡ (b || set.contains (joiners_of es) p)
    inside p true e = is ∙ or_true before.joins
    inside p false e = sym (joins_seen es p)

-- ---- one alert more

-- the marks are those of before with one alert more
pub record Marked (before now : Marks) (a : Alert) : Type 0 where
  pub rings : (k : ℕ) → has_ring now.rings k ≡ (has_ring before.rings k || k == a.ring)
  pub joins : now.joins ≡ (before.joins || not (is_remove a.kind))

-- the index of the entries in which the subject of one alert more has its marks
pub added_is : (es ns : List (Process × Marks)) (a : Alert) (before now : Marks) {i : Index} → Puts a.subject now es ns → Marked before now a → IsOn i a.subject before → index_in es ≡ i
    → index_in ns ≡ indexed i a
added_is es ns a before now {i} at more on is =
    let own : IsOn (index_in es) a.subject before = subst (λ (j : Index). IsOn j a.subject before) (sym is) on in
    index_is (reports_more es ns a.subject a.ring before now at own.rings more.rings) (joiners_more es ns a.subject (is_remove a.kind) before now at own.joins more.joins)
    ∙ ap (λ (x : Index). indexed x a) is

-- how many joiners there are then
pub added_counted : (es ns : List (Process × Marks)) (a : Alert) (before now : Marks) (n : ℕ) {i : Index} → Puts a.subject now es ns → Marked before now a → IsOn i a.subject before → index_in es ≡ i → n ≡ set.len (joiners_of es)
    → cond (is_remove a.kind || before.joins) n (n + 1) ≡ set.len (joiners_of ns)
added_counted es ns a before now n {i} at more on is count =
    let own : IsOn (index_in es) a.subject before = subst (λ (j : Index). IsOn j a.subject before) (sym is) on in
    by (is_remove a.kind) own.joins ∙ ap set.len (sym (joiners_more es ns a.subject (is_remove a.kind) before now at own.joins more.joins))
  where
    by : (remove : Bool) → set.contains (joiners_of es) a.subject ≡ before.joins → cond (remove || before.joins) n (n + 1) ≡ set.len (cond remove (joiners_of es) (set.insert (joiners_of es) a.subject))
    by true at = count
    by false at =
        ap (λ m. cond before.joins m (m + 1)) count
        ∙ ap (λ b. cond b (set.len (joiners_of es)) (set.len (joiners_of es) + 1)) (sym at)
        ∙ sym (set.len-insert processes_total (joiners_of es) a.subject)

-- whether there is room is said by the marks and by the number of joiners
pub room_by : (i : Index) (a : Alert) (m : Marks) (n : ℕ) → IsOn i a.subject m → n ≡ set.len i.joiners → (is_remove a.kind || m.joins || nat_lt n 512) ≡ has_room i a
room_by i a m n on count = ap (λ b. is_remove a.kind || b || nat_lt n 512) (sym on.joins) ∙ ap (λ k. is_remove a.kind || set.contains i.joiners a.subject || nat_lt k 512) count
