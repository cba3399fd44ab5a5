-- What a coordinator asks for may be asked for.
use Rattle.std.proofs.Common.{◌≡◌, ◌≢◌, ℕ, zero, suc, ◌+◌, ◌≤◌, ◌<◌, ◌↔◌, Bool, true, false, cond, not, ◌&&◌, ◌||◌, T, List, [], ◌∷◌, ◌++◌, map, length, Contains, count_by, nat_eq, refl, sym, ap, subst, ◌∙◌, arith, Option, Some, None, unwrap_or, inl, inr, eq-eqb, eqb-true, ne_eqb}
use Rattle.std.specs.declared.cmp.Ordering.{Ordering}
use Rattle.std.specs.declared.cmp.Ordering.TheVariants.{Less, Equal, Greater}
use Rattle.std.specs.List.{list_any, range_with_len, find}
use Rattle.std.specs.Option.{option_map}
use Rattle.std.specs.Ordering.{eq_by_cmp, is_eq, is_lt, ordering_reverse}
use Rattle.std.specs.Cmp.{tied_itself}
use Rattle.std.specs.FinSet as set
use Rattle.std.specs.FinMap as finmap
use Rattle.std.specs.FinMap.Entries as entry
use Rattle.std.proofs.lemmas.Bool.{and_from, and_parts, or_cases, cases_Bool, cases_eq, leb-true, leb-false, true≢false, not-true}
use Rattle.rapid_model.specs.Cut.{Cut, cut_cmp}
use Rattle.rapid_model.specs.Quorum.{size, both, fast_size, classic_size, IsClassic}
use Rattle.rapid_model.specs.Ballot.{Ballot, Vote, fast_ballot, same_ballot}
use Rattle.rapid_model.specs.FastRound.{Counts, count_of}
use Rattle.rapid_model.specs.Coordinator.{Coordinator, value_of, value_by, is_forced, accept_cut, after_report, begun, counts_promise, completes_promises, is_ballot}
use Rattle.rapid_model.specs.FastPaxos.{Said, IsProposed, IsReported, IsTop, Several, IsForced, IsSafe, no_vote, one_value, forced, free, MayAccept}
use Rattle.rapid_model.proofs.Orders.{cuts_total, ballots_decided, same_cut_decides}
use Rattle.rapid_model.proofs.Lists.{In, contains_from, in_left, in_right, in_any, in_range, found_in}
use Rattle.rapid_agreement.specs.Positions.{positions, voters, VoteOnce}
use Rattle.rapid_agreement.specs.Asking.{Report, after_promises, AreGiven}
use Rattle.rapid_agreement.proofs.Sets.{size-cons}
use Rattle.rapid_agreement.proofs.Positions.{size-voters}
use Rattle.rapid_agreement.proofs.Coordinators.{forced_by_number, none_forced}
use Rattle.rapid_agreement.proofs.Promises.{reports, count_at, IsHighest, Tops, Keeps, keeps_begun, keeps_new, keeps_after}
use Rattle.rapid_model.proofs.Logic.{and_is}

-- ---- lists

any_in : {A : Type 0} (f : A → Bool) (xs : List A) → list_any f xs ≡ true → (x : A) × In xs x × (f x ≡ true)
any_in f [] h = absurd (true≢false (sym h))
any_in f (x ∷ xs) h =
    elim (or_cases (f x) (list_any f xs) h) [
      | inl here ↦ (x, inl refl, here)
      | inr later ↦ let rest = any_in f xs later in (rest.0, inr rest.1, rest.2)
    ]

not_found : {A : Type 0} (f : A → Bool) (xs : List A) (x : A) → find f xs ≡ None → In xs x → f x ≡ false
not_found f [] x e i = absurd i
not_found f (y ∷ ys) x e i = by (λ h k. not_found f ys x h k) (f y) refl e i
  where
    by : (find f ys ≡ None → In ys x → f x ≡ false) → (b : Bool) → f y ≡ b → cond b (Some y) (find f ys) ≡ None → In (y ∷ ys) x → f x ≡ false
    by rest true h e i = absurd (cc)
    by rest false h e (inl same) = ap f (sym same) ∙ h
    by rest false h e (inr later) = rest e later

-- ---- the vote of a position

abbrev vote_at : List Report → ℕ → Option (Vote Cut)
vote_at [] k = None
vote_at (y ∷ ys) k = cond (nat_eq k y.0) y.1 (vote_at ys k)

heard_vote : (ys : List Report) (k : ℕ) → list_any (λ o. nat_eq k o.0) ys ≡ true → In ys (k, vote_at ys k)
heard_vote [] k h = absurd (true≢false (sym h))
heard_vote (y ∷ ys) k h = by (λ i. heard_vote ys k i) (nat_eq k y.0) refl h
  where
    by : (list_any (λ o. nat_eq k o.0) ys ≡ true → In ys (k, vote_at ys k)) → (b : Bool) → nat_eq k y.0 ≡ b → (b || list_any (λ o. nat_eq k o.0) ys) ≡ true → In (y ∷ ys) (k, cond b y.1 (vote_at ys k))
    by later true e h = inl (λ i. (sym (eqb-true k y.0 e) i, y.1))
    by later false e h = inr (later h)

vote_there : (n : ℕ) (ys : List Report) (k : ℕ) (vote : Option (Vote Cut)) → VoteOnce n ys → In ys (k, vote) → (k < n) × (list_any (λ o. nat_eq k o.0) ys ≡ true) × (vote_at ys k ≡ vote)
vote_there n [] k vote once i = absurd i
vote_there n (y ∷ ys) k vote once (inl e) =
    let same : y.0 ≡ k = ap (λ (x : Report). x.0) e in
    let yes : nat_eq k y.0 ≡ true = eq-eqb k y.0 (sym same) in (
      subst (λ p. p < n) same once.0,
      ap (λ b. b || list_any (λ o. nat_eq k o.0) ys) yes,
      ap (λ b. cond b y.1 (vote_at ys k)) yes ∙ ap (λ (x : Report). x.1) e,
    )
vote_there n (y ∷ ys) k vote once (inr i) =
    let rest = vote_there n ys k vote once.2 i in
    let no : nat_eq k y.0 ≡ false = ne_eqb k y.0 (λ e. true≢false (sym rest.1 ∙ ap (λ q. list_any (λ o. nat_eq q o.0) ys) e ∙ once.1)) in (
      rest.0,
      ap (λ b. b || list_any (λ o. nat_eq k o.0) ys) no ∙ rest.1,
      ap (λ b. cond b y.1 (vote_at ys k)) no ∙ rest.2,
    )

-- ---- what is reported, and its count

reports_is : (t : Ballot) (w : Cut) (vote : Option (Vote Cut)) → reports t w vote ≡ true → vote ≡ Some (record { ballot = t; value = w })
reports_is t w None h = absurd (true≢false (sym h))
reports_is t w (Some u) h =
    let parts = and_parts _ _ h in
    let p : u.ballot ≡ t = (ballots_decided u.ballot t).0 parts.0 in
    let q : u.value ≡ w = (same_cut_decides u.value w).0 parts.1 in
    λ i. Some (record { ballot = p i; value = q i })

reports_it : (t : Ballot) (w : Cut) → reports t w (Some (record { ballot = t; value = w })) ≡ true
reports_it t w = and_from _ _ ((ballots_decided t t).1 refl) ((same_cut_decides w w).1 refl)

some_counted : (t : Ballot) (w : Cut) (ys : List Report) (p : ℕ) → In ys (p, Some (record { ballot = t; value = w })) → 1 ≤ count_at t w ys
some_counted t w [] p i = absurd i
some_counted t w (y ∷ ys) p (inl e) =
    let here : ◌≡◌ {A = ℕ} (cond (reports t w y.1) 1 0) 1 = ap (λ b. cond b 1 0) (ap (λ (x : Report). reports t w x.1) e ∙ reports_it t w) in
    omega (arith, size-cons y ys (λ z. reports t w z.1), here)
some_counted t w (y ∷ ys) p (inr i) = omega (arith, size-cons y ys (λ z. reports t w z.1), some_counted t w ys p i)

counted_some : (t : Ballot) (w : Cut) (ys : List Report) → 1 ≤ count_at t w ys → (p : ℕ) × In ys (p, Some (record { ballot = t; value = w }))
counted_some t w [] h = absurd (omega arith)
counted_some t w (y ∷ ys) h = by (λ i. counted_some t w ys i) (reports t w y.1) refl
  where
    by : (1 ≤ count_at t w ys → (p : ℕ) × In ys (p, Some (record { ballot = t; value = w }))) → (b : Bool) → reports t w y.1 ≡ b → (p : ℕ) × In (y ∷ ys) (p, Some (record { ballot = t; value = w }))
    by later true e = (y.0, inl (λ i. (y.0, reports_is t w y.1 e i)))
    by later false e =
        let none : ◌≡◌ {A = ℕ} (cond (reports t w y.1) 1 0) 0 = ap (λ b. cond b 1 0) e in
        let rest = later (omega (arith, size-cons y ys (λ z. reports t w z.1), none, h)) in (rest.0, inr rest.1)

-- ---- entries that ascend

lt_is : (o : Ordering) → T (is_lt o) → o ≡ Less
lt_is Less h = refl
lt_is Equal h = absurd h
lt_is Greater h = absurd h

T_parts : (x y : Bool) → T (x && y) → T x × T y
T_parts true y h = (tt, h)
T_parts false y h = absurd h

below_in : (x : Cut) (es : List (Cut × ℕ)) (e : Cut × ℕ) → T (entry.below_all cut_cmp x es) → In es e → cut_cmp x e.0 ≡ Less
below_in x [] e h i = absurd i
below_in x (f ∷ fs) e h (inl same) = ap (λ (y : Cut × ℕ). cut_cmp x y.0) (sym same) ∙ lt_is _ (T_parts _ _ h).0
below_in x (f ∷ fs) e h (inr i) = below_in x fs e (T_parts _ _ h).1 i

find_in : (es : List (Cut × ℕ)) (e : Cut × ℕ) → T (entry.is_sorted cut_cmp es) → In es e → entry.find cut_cmp e.0 es ≡ Some e.1
find_in [] e s i = absurd i
find_in (f ∷ fs) e s (inl same) =
    ap (λ (y : Cut × ℕ). cond (eq_by_cmp cut_cmp e.0 y.0) (Some y.1) (entry.find cut_cmp e.0 fs)) same
    ∙ ap (λ o. cond (is_eq o) (Some e.1) (entry.find cut_cmp e.0 fs)) (tied_itself cuts_total e.0)
find_in (f ∷ fs) e s (inr i) =
    ap (λ o. cond (is_eq o) (Some f.1) (entry.find cut_cmp e.0 fs)) (cuts_total.antisymm e.0 f.0 ∙ ap ordering_reverse (below_in f.0 fs e (T_parts _ _ s).0 i))
    ∙ find_in fs e (T_parts _ _ s).1 i

in_found : (es : List (Cut × ℕ)) (w : Cut) (k : ℕ) → entry.find cut_cmp w es ≡ Some k → In es (w, k)
in_found [] w k e = cc
in_found (f ∷ fs) w k e = by (λ h. in_found fs w k h) (eq_by_cmp cut_cmp w f.0) refl e
  where
    by : (entry.find cut_cmp w fs ≡ Some k → In fs (w, k)) → (b : Bool) → eq_by_cmp cut_cmp w f.0 ≡ b → cond b (Some f.1) (entry.find cut_cmp w fs) ≡ Some k → In (f ∷ fs) (w, k)
    by later true h e =
        let key : w ≡ f.0 = (same_cut_decides w f.0).0 h in
        let value : f.1 ≡ k = cc in
        inl (λ i. (sym key i, value i))
    by later false h e = inr (later e)

no_entries : (m : Counts) → m ≡ finmap.empty → finmap.entries m ≡ []
no_entries m e = nil (finmap.entries m) (sym (finmap.len-entries m) ∙ ap finmap.len e ∙ finmap.len-empty cut_cmp ℕ)
  where
    nil : (es : List (Cut × ℕ)) → length es ≡ 0 → es ≡ []
    nil [] h = refl
    nil (x ∷ xs) h = absurd (omega (arith, h))

-- ---- members by their places

size-map : {X : Type 0} (place : X → ℕ) (xs : List X) (t : ℕ → Bool) → size xs (λ a. t (place a)) ≡ size (map place xs) t
size-map place [] t = refl
size-map place (x ∷ xs) t = size-cons x xs (λ a. t (place a)) ∙ ap (λ n. cond (t (place x)) 1 0 + n) (size-map place xs t) ∙ sym (size-cons (place x) (map place xs) t)

in_mapped : {X : Type 0} (place : X → ℕ) (xs : List X) (k : ℕ) → In (map place xs) k → (a : X) × In xs a × (place a ≡ k)
in_mapped place [] k i = absurd i
in_mapped place (x ∷ xs) k (inl e) = (x, inl refl, e)
in_mapped place (x ∷ xs) k (inr i) = let rest = in_mapped place xs k i in (rest.0, inr rest.1, rest.2)

with_true : (b : Bool) → b ≡ (b && true)
with_true true = refl
with_true false = refl

all_counted : (ys : List Report) → count_by (λ y. true) ys ≡ length ys
all_counted [] = refl
all_counted (y ∷ ys) = size-cons y ys (λ z. true) ∙ (let rest = all_counted ys in omega (arith, rest))

voter_heard : (f : Option (Vote Cut) → Bool) (ys : List Report) (k : ℕ) → voters f ys k ≡ true → list_any (λ o. nat_eq k o.0) ys ≡ true
voter_heard f ys k h =
    let y = any_in (λ vote. nat_eq k vote.0 && f vote.1) ys h in
    in_any (λ o. nat_eq k o.0) ys y.0 y.1 (and_parts _ _ y.2).0

module _ {X : Type 0} (members : List X) (place : X → ℕ) (places : map place members ≡ positions (length members)) (said : Said X Cut) (b : Ballot) (ys : List Report) (once : VoteOnce (length members) ys) where
  member_at : (k : ℕ) → k < length members → (a : X) × Contains members a × (place a ≡ k)
  member_at k h =
      let m = in_mapped place members k (subst (λ l. In l k) (sym places) (in_range 0 (length members) k (omega arith) (omega arith))) in
      (m.0, contains_from members m.0 m.1, m.2)

  at_places : (t : ℕ → Bool) → size members (λ a. t (place a)) ≡ size (positions (length members)) t
  at_places t = size-map place members t ∙ ap (λ l. size l t) places

  abbrev quorum : X → Bool
  quorum a = list_any (λ o. nat_eq (place a) o.0) ys

  abbrev reported : X → Option (Vote Cut)
  reported a = vote_at ys (place a)

  abbrev says : Ballot → Cut → X → Bool
  says t w a = voters (reports t w) ys (place a)

  size-quorum : size members quorum ≡ length ys
  size-quorum =
      at_places (λ k. list_any (λ o. nat_eq k o.0) ys)
      ∙ ap (λ (t : ℕ → Bool). size (positions (length members)) t) (λ i k. list_any (λ o. with_true (nat_eq k o.0) i) ys)
      ∙ size-voters (length members) (λ vote. true) ys once ∙ all_counted ys

  size-says : (t : Ballot) (w : Cut) → size members (both quorum (says t w)) ≡ count_at t w ys
  size-says t w =
      ap (λ (f : X → Bool). size members f) (λ i a. and_is (list_any (λ o. nat_eq (place a) o.0) ys) (voters (reports t w) ys (place a)) (voter_heard (reports t w) ys (place a)) i)
      ∙ at_places (voters (reports t w) ys) ∙ size-voters (length members) (reports t w) ys once

  in_report : (a : X) → quorum a ≡ true → In ys (place a, reported a)
  in_report a h = heard_vote ys (place a) h

  -- a promise that was heard is reported by its member
  report_of : (p : ℕ) (vote : Vote Cut) → In ys (p, Some vote) → IsReported members quorum reported vote
  report_of p vote i =
      let there = vote_there (length members) ys p (Some vote) once i in
      let m = member_at p there.0 in
      record {
        who = m.0;
        member = m.1;
        inside = ap (λ k. list_any (λ o. nat_eq k o.0) ys) m.2 ∙ there.1;
        says = ap (vote_at ys) m.2 ∙ there.2;
      }

  heard_of : (vote : Vote Cut) → IsReported members quorum reported vote → (p : ℕ) × In ys (p, Some vote)
  heard_of vote r = (place r.who, subst (λ v. In ys (place r.who, v)) r.says (in_report r.who r.inside))

  tells : (t : Ballot) (w : Cut) (a : X) → Contains members a → quorum a ≡ true → (says t w a ≡ true) ↔ (reported a ≡ Some (record { ballot = t; value = w }))
  tells t w a c h = (
    λ s.
        let y = any_in (λ vote. nat_eq (place a) vote.0 && reports t w vote.1) ys s in
        let parts = and_parts _ _ y.2 in
        let there = vote_there (length members) ys y.0.0 y.0.1 once y.1 in
        ap (vote_at ys) (eqb-true (place a) y.0.0 parts.0) ∙ there.2 ∙ reports_is t w y.0.1 parts.1,
    λ e.
        in_any (λ vote. nat_eq (place a) vote.0 && reports t w vote.1) ys (place a, vote_at ys (place a)) (heard_vote ys (place a) h)
        (and_from _ _ (eq-eqb (place a) (place a) refl) (ap (reports t w) e ∙ reports_it t w)),
  )

  module _ (enough : length ys ≡ classic_size (length members)) (own : Option Cut) (position : ℕ) (inside : position < length members)
      (own_proposed : (a : X) (u : Cut) → Contains members a → place a ≡ position → own ≡ Some u → said.proposed a u)
      (fast_proposed : (p : ℕ) (u : Cut) → In ys (p, Some (record { ballot = fast_ballot; value = u })) → IsProposed members said u)
      (one_each : (p q : ℕ) (at : Ballot) (u w : Cut) → at ≢ fast_ballot → In ys (p, Some (record { ballot = at; value = u })) → In ys (q, Some (record { ballot = at; value = w })) → u ≡ w) where
    classic : IsClassic members quorum
    classic = let e = size-quorum in omega (arith, e, enough)

    -- if no vote was reported
    safe_own : (v : Cut) → ((y : Report) → In ys y → y.1 ≡ None) → own ≡ Some v → IsSafe members said quorum reported v
    safe_own v none e =
        let m = member_at position inside in
        no_vote (λ vote r. let h = heard_of vote r in (let wrong : Some vote ≡ None = none (h.0, Some vote) h.1 in absurd (cc))) (m.0, m.1, own_proposed m.0 v m.1 m.2 e)

    module _ (t : Ballot) (m : Counts) (highest : IsHighest t m ys) (promised : ℕ) (all : promised ≡ length ys) where
      is_top : IsTop members quorum reported t
      is_top = record { value = highest.value; reached = report_of highest.who _ highest.there; highest = λ vote r. let h = heard_of vote r in highest.upto h.0 vote h.1 }

      module _ (es : List (Cut × ℕ)) (entries : finmap.entries m ≡ es) where
        sorted : T (entry.is_sorted cut_cmp es)
        sorted = subst (λ l. T (entry.is_sorted cut_cmp l)) entries (finmap.entries_sorted m)

        get_is : (w : Cut) → finmap.get m w ≡ entry.find cut_cmp w es
        get_is w = finmap.get-entries m w ∙ ap (entry.find cut_cmp w) entries

        counted_entry : (e : Cut × ℕ) → In es e → (count_at t e.0 ys ≡ e.1) × (1 ≤ e.1)
        counted_entry e i =
            let at = get_is e.0 ∙ find_in es e sorted i in
            (sym (highest.counted e.0) ∙ ap (λ o. unwrap_or o 0) at, highest.positive e.0 e.1 at)

        reported_entry : (e : Cut × ℕ) → In es e → (p : ℕ) × In ys (p, Some (record { ballot = t; value = e.0 }))
        reported_entry e i = let c = counted_entry e i in counted_some t e.0 ys (omega (arith, c.0, c.1))

        entry_of : (w : Cut) (p : ℕ) → In ys (p, Some (record { ballot = t; value = w })) → (k : ℕ) × In es (w, k)
        entry_of w p i = by (entry.find cut_cmp w es) refl
          where
            by : (o : Option ℕ) → entry.find cut_cmp w es ≡ o → (k : ℕ) × In es (w, k)
            by None e =
                let zero : count_of m w ≡ 0 = ap (λ o. unwrap_or o 0) (get_is w ∙ e) in
                absurd (omega (arith, zero, highest.counted w, some_counted t w ys p i))
            by (Some k) e = (k, in_found es w k e)

        forced_entry : (e : Cut × ℕ) → In es e → is_forced (length members) promised e.1 ≡ true → IsForced members quorum reported t e.0
        forced_entry e i h =
            let c = counted_entry e i in
            let s = size-says t e.0 in
            let q = size-quorum in
            let n = leb-true (fast_size (length members) + promised) (e.1 + length members) h in
            (forced_by_number members quorum reported t e.0 (says t e.0) (tells t e.0)).0 (omega (arith, c.0, s, q, n, all))

        none_is_forced : ((e : Cut × ℕ) → In es e → is_forced (length members) promised e.1 ≡ false) → (w : Cut) → IsForced members quorum reported t w → ⊥
        none_is_forced none =
            none_forced members quorum reported t (says t) classic (tells t) (λ w r.
            let h = heard_of _ r in
            let k = entry_of w h.0 h.1 in
            let c = counted_entry (w, k.0) k.1 in
            let s = size-says t w in
            let q = size-quorum in
            let n = leb-false (fast_size (length members) + promised) (k.0 + length members) (none (w, k.0) k.1) in
            omega (arith, c.0, s, q, n, all))

      safe_value : (es : List (Cut × ℕ)) → finmap.entries m ≡ es → (v : Cut) → value_by (length members) promised es own ≡ Some v → IsSafe members said quorum reported v
      safe_value [] entries v e = let k = entry_of [] entries highest.value highest.who highest.there in absurd k.1
      safe_value (x ∷ []) entries v e =
          let same : x.0 ≡ v = cc in
          one_value t is_top (λ w r.
          let h = heard_of _ r in
          let k = entry_of (x ∷ []) entries w h.0 h.1 in
          elim k.1 [ inl f ↦ sym (ap (λ (y : Cut × ℕ). y.0) f) ∙ same | inr later ↦ absurd later ])
      safe_value (x ∷ y ∷ zs) entries v e = choose (find (λ z. is_forced (length members) promised z.1) (x ∷ y ∷ zs)) refl e
        where
          one_report : (p : ℕ) × In ys (p, Some (record { ballot = t; value = x.0 }))
          one_report = reported_entry (x ∷ y ∷ zs) entries x (inl refl)

          other_report : (p : ℕ) × In ys (p, Some (record { ballot = t; value = y.0 }))
          other_report = reported_entry (x ∷ y ∷ zs) entries y (inr (inl refl))

          apart : x.0 ≡ y.0 → ⊥
          apart same =
              let less : cut_cmp x.0 y.0 ≡ Less = below_in x.0 (y ∷ zs) y (T_parts _ _ (sorted (x ∷ y ∷ zs) entries)).0 (inl refl) in
              let tied : cut_cmp x.0 y.0 ≡ Equal = ap (λ w. cut_cmp x.0 w) (sym same) ∙ tied_itself cuts_total x.0 in
              let wrong : Less ≡ Equal = sym less ∙ tied in cc

          several : Several members quorum reported t
          several = record { one = x.0; other = y.0; has_one = report_of one_report.0 _ one_report.1; has_other = report_of other_report.0 _ other_report.1; differ = apart }

          least_proposed : IsProposed members said x.0
          least_proposed =
              elim (cases_Bool (same_ballot t fast_ballot)) [
                | inl fast ↦ fast_proposed one_report.0 x.0 (subst (λ s. In ys (one_report.0, Some (record { ballot = s; value = x.0 }))) ((ballots_decided t fast_ballot).0 fast) one_report.1)
                | inr other ↦ absurd (apart (one_each one_report.0 other_report.0 t x.0 y.0 (λ f. true≢false (sym ((ballots_decided t fast_ballot).1 f) ∙ other)) one_report.1 other_report.1))
              ]

          choose : (o : Option (Cut × ℕ)) → find (λ z. is_forced (length members) promised z.1) (x ∷ y ∷ zs) ≡ o → Some (unwrap_or (option_map (λ (z : Cut × ℕ). z.0) o) x.0) ≡ Some v → IsSafe members said quorum reported v
          choose None f e =
              let same : x.0 ≡ v = cc in
              subst (λ u. IsSafe members said quorum reported u) same
              (free t is_top several (none_is_forced (x ∷ y ∷ zs) entries (λ z i. not_found (λ z. is_forced (length members) promised z.1) (x ∷ y ∷ zs) z f i)) least_proposed)
          choose (Some z) f e =
              let same : z.0 ≡ v = cc in
              let at = found_in (λ z. is_forced (length members) promised z.1) (x ∷ y ∷ zs) z f in
              subst (λ u. IsSafe members said quorum reported u) same (forced t is_top several (forced_entry (x ∷ y ∷ zs) entries z at.0 at.1))

    safe_asked : (o : Option Ballot) (m : Counts) → Tops o m ys → (promised : ℕ) → promised ≡ length ys → (v : Cut) → value_by (length members) promised (finmap.entries m) own ≡ Some v → IsSafe members said quorum reported v
    safe_asked None m tops promised all v e = safe_own v tops.0 (ap (λ l. value_by (length members) promised l own) (sym (no_entries m tops.1)) ∙ e)
    safe_asked (Some t) m tops promised all v e = safe_value t m tops promised all (finmap.entries m) refl v e

    pub may_accept : (o : Option Ballot) (m : Counts) → Tops o m ys → (promised : ℕ) → promised ≡ length ys → (v : Cut) → value_by (length members) promised (finmap.entries m) own ≡ Some v →
        ((a : X) (vote : Option (Vote Cut)) → Contains members a → In ys (place a, vote) → said.promised a b vote) → MayAccept members said b v
    may_accept o m tops promised all v e given =
        record {
          quorum = quorum;
          reported = reported;
          enough = classic;
          promises = λ a c h. given a (reported a) c (in_report a h);
          safe = safe_asked o m tops promised all v e;
        }

-- ---- the promise that completes the quorum

pub completes : (c : Coordinator) (p : ℕ) (b : Ballot) (vote : Option (Vote Cut)) (own : Option Cut) (v : Cut) → accept_cut c p b vote own ≡ Some v →
    (counts_promise c p b ≡ true) × (set.len c.heard + 1 ≡ classic_size c.size) × (value_of (after_report c p b vote) own ≡ Some v)
unfolding accept_cut
completes c p b vote own v e = by (completes_promises c p b) refl e
  where
    by : (t : Bool) → completes_promises c p b ≡ t → cond t (value_of (after_report c p b vote) own) None ≡ Some v → (counts_promise c p b ≡ true) × (set.len c.heard + 1 ≡ classic_size c.size) × (value_of (after_report c p b vote) own ≡ Some v)
    by true h e = let parts = and_parts _ _ h in (parts.0, eqb-true _ _ parts.1, e)
    by false h e = absurd (cc)

pub asks_lawfully : {X : Type 0} (members : List X) (place : X → ℕ) (said : Said X Cut) (c : Coordinator) (b : Ballot) (earlier : List Report) (last : Report) (own : Option Cut) (v : Cut) →
    map place members ≡ positions (length members) → c.size ≡ length members → c.position < c.size → AreGiven members place said b (earlier ++ last ∷ []) →
    ((a : X) (u : Cut) → Contains members a → place a ≡ c.position → own ≡ Some u → said.proposed a u) →
    accept_cut (after_promises (begun c b) b earlier) last.0 b last.1 own ≡ Some v → MayAccept members said b v
asks_lawfully {X} members place said c b earlier last own v places of_size inside given own_proposed e =
    let all : List Report = earlier ++ last ∷ [] in
    let within : (x : Report) → In all x → x.0 < length members = λ x i. given.within x (contains_from all x i) in
    let k = keeps_after (length members) b earlier (begun c b) [] (keeps_begun (length members) c b of_size) (λ x i. within x (in_left earlier (last ∷ []) x i)) in
    let d : Coordinator = after_promises (begun c b) b earlier in
    let done = completes d last.0 b last.1 own v e in
    let new : set.contains d.heard last.0 ≡ false = not-true _ (and_parts (is_ballot d.ballot b) (not (set.contains d.heard last.0)) done.0).1 in
    let now = keeps_new (length members) b d k.kept k.keeps last.0 last.1 (within last (in_right earlier (last ∷ []) last (inl refl))) new in
    let f : Coordinator = after_report d last.0 b last.1 in
    let among : (y : Report) → In (last ∷ k.kept) y → Contains all y = λ y i. contains_from all y (elim i [
      | inl same ↦ in_right earlier (last ∷ []) y (inl same)
      | inr old ↦ elim (k.among y old) [ inl none ↦ absurd none | inr early ↦ in_left earlier (last ∷ []) y early ]
    ]) in
    may_accept members place places said b (last ∷ k.kept) now.once
    (let a = k.keeps.len in let q = done.1 in let e : suc (length k.kept) ≡ classic_size d.size = omega (arith, a, q) in e ∙ ap classic_size k.keeps.of_size)
    own c.position (subst (λ n. c.position < n) of_size inside) own_proposed
    (λ p u i. given.fast_proposed p u (among _ i)) (λ p q at u w apart i j. given.one_value p q at u w apart (among _ i) (among _ j))
    f.top f.counts now.tops (set.len f.heard) now.len v (ap (λ n. value_by n (set.len f.heard) (finmap.entries f.counts) own) (sym now.of_size) ∙ done.2)
    (λ a vote m i. given.promised a vote m (among _ i))

-- once a quorum was complete, nothing more is asked for
pub asks_once : (n : ℕ) (c : Coordinator) (b : Ballot) (earlier more : List Report) (last next : Report) (own other : Option Cut) (v : Cut) →
    c.size ≡ n → ((x : Report) → In (earlier ++ last ∷ []) x → x.0 < n) → ((x : Report) → In more x → x.0 < n) →
    accept_cut (after_promises (begun c b) b earlier) last.0 b last.1 own ≡ Some v →
    accept_cut (after_promises (after_report (after_promises (begun c b) b earlier) last.0 b last.1) b more) next.0 b next.1 other ≡ None
asks_once n c b earlier more last next own other v of_size within within_more e =
    let k = keeps_after n b earlier (begun c b) [] (keeps_begun n c b of_size) (λ x i. within x (in_left earlier (last ∷ []) x i)) in
    let d : Coordinator = after_promises (begun c b) b earlier in
    let done = completes d last.0 b last.1 own v e in
    let new : set.contains d.heard last.0 ≡ false = not-true _ (and_parts (is_ballot d.ballot b) (not (set.contains d.heard last.0)) done.0).1 in
    let now = keeps_new n b d k.kept k.keeps last.0 last.1 (within last (in_right earlier (last ∷ []) last (inl refl))) new in
    let then = keeps_after n b more (after_report d last.0 b last.1) (last ∷ k.kept) now within_more in
    let g : Coordinator = after_promises (after_report d last.0 b last.1) b more in
    none g then.keeps (set.len d.heard + 1) (let a = k.keeps.len in let l = then.keeps.len in let f = then.no_fewer in omega (arith, a, l, f))
    (done.1 ∙ ap classic_size (k.keeps.of_size ∙ sym then.keeps.of_size)) (accept_cut g next.0 b next.1 other) refl
  where
    none : {ys : List Report} (g : Coordinator) → Keeps n b g ys → (q : ℕ) → q ≤ set.len g.heard → q ≡ classic_size g.size → (o : Option Cut) → accept_cut g next.0 b next.1 other ≡ o → o ≡ None
    none g keeps q more full None f = refl
    none g keeps q more full (Some u) f = let again = completes g next.0 b next.1 other u f in absurd (omega (arith, again.1, full, more))
