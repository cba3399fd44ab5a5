-- Tables of what is kept, by their entries.
use Rattle.std.proofs.Common.{◌≡◌, ◌⊎◌, inl, inr, ℕ, List, [], ◌∷◌, ◌++◌, map, All, Contains, Some, Result, Ok, Err, OnOk, OnErr, refl, sym, ap, subst, ◌∙◌}
use Rattle.std.specs.declared.cmp.Ordering.{Ordering}
use Rattle.std.specs.declared.cmp.Ordering.TheVariants.{Less, Equal, Greater}
use Rattle.std.specs.Ordering.{match_ordering, ordering_then, nat_cmp}
use Rattle.std.specs.Cmp.{IsTotalOrder, then_total, on_total, nat_cmp_total}
use Rattle.std.specs.BTreeMap.{insert_entry}
use Rattle.std.proofs.lemmas.List.Elements.{All-nil, All-cons, All-head, All-tail, All-weaker, All-map, All-contains, All-contains_itself, Contains-append_left, Contains-append_right, Contains-append_cases, Contains-push}
use Rattle.std.proofs.lemmas.Map.Lookups.{CmpEqualImpliesEq, exact_pairs, exact_unsigned}
use Rattle.rapid_repeats.specs.declared.said.Asked.{Asked}
use Rattle.rapid_repeats.specs.declared.said.Asked.TheVariants.{Question, Request}
use Rattle.rapid_repeats.specs.contracts.said.AskedOrd.TheImpl.{ghosts}
use Rattle.rapid_repeats.specs.contracts.said.AskedOrd.TheImpl.Laws.{total-law}
use Rattle.rapid_repeats.specs.Parts.{Adds, Keeps}

-- ---- keys

asked_exact : CmpEqualImpliesEq ghosts.cmp
asked_exact Question Question e = refl
asked_exact Question (Request k) e = cc
asked_exact (Request k) Question e = cc
asked_exact (Request k) (Request l) e = ap Request (exact_unsigned k l e)

pub keys_exact : CmpEqualImpliesEq (λ (x y : ℕ × Asked). ordering_then (nat_cmp x.0 y.0) (ghosts.cmp x.1 y.1))
keys_exact = exact_pairs nat_cmp ghosts.cmp exact_unsigned asked_exact

pub keys_total : IsTotalOrder (λ (x y : ℕ × Asked). ordering_then (nat_cmp x.0 y.0) (ghosts.cmp x.1 y.1))
keys_total = then_total (on_total (λ (x : ℕ × Asked). x.0) nat_cmp_total) (on_total (λ (x : ℕ × Asked). x.1) total-law)

-- ---- elements

-- What holds of what is there holds of each.
pub each : {E : Type 0} (P : E → Type 0) (es : List E) → ((e : E) → Contains es e → P e) → All P es
each P es h = All-weaker (Contains es) P h es (All-contains_itself es)

-- What is read off elements is read off one of them.
pub mapped : {E F : Type 0} (f : E → F) (es : List E) (y : F) → Contains (map f es) y → (e : E) × Contains es e × (f e ≡ y)
mapped {E} f es y h =
    All-contains (λ z. (e : E) × Contains es e × (f e ≡ z)) (map f es) y (All-map (λ z. (e : E) × Contains es e × (f e ≡ z)) f es (each (λ d. (e : E) × Contains es e × (f e ≡ f d)) es (λ e i. (e, i, refl)))) h

each_in : {E F : Type 0} (f : E → F) (es : List E) → All (λ e. Contains (map f es) (f e)) es
each_in f [] = All-nil (λ e. Contains [] (f e))
each_in f (e ∷ es) =
    All-cons (λ d. Contains (f e ∷ map f es) (f d)) e es (Contains-append_left (f e ∷ []) (map f es) (f e) (Contains-push [] (f e)))
    (All-weaker (λ d. Contains (map f es) (f d)) (λ d. Contains (f e ∷ map f es) (f d)) (λ d i. Contains-append_right (f e ∷ []) (map f es) (f d) i) es (each_in f es))

-- What is read off an element is among all that is read off.
pub in_map : {E F : Type 0} (f : E → F) (es : List E) (e : E) → Contains es e → Contains (map f es) (f e)
in_map f es e i = All-contains (λ d. Contains (map f es) (f d)) es e (each_in f es) i

-- ---- entries

-- What holds of each entry, and of the new one, holds of each entry after it is kept.
insert_keeps : {K X : Type 0} (cmp : K → K → Ordering) → CmpEqualImpliesEq cmp → (P : K × X → Type 0) (es : List (K × X)) (k : K) (v : X) → All P es → P (k, v) → All P (insert_entry cmp es k v)
insert_keeps cmp exact P [] k v h p = All-cons P (k, v) [] p (All-nil P)
insert_keeps cmp exact P (e ∷ es) k v h p = by (cmp k e.0) refl (insert_keeps cmp exact P es k v (All-tail P e es h) p)
  where
    by : (o : Ordering) → cmp k e.0 ≡ o → All P (insert_entry cmp es k v) → All P (match_ordering o ((k, v) ∷ e ∷ es) ((e.0, v) ∷ es) (e ∷ insert_entry cmp es k v))
    by Less is later = All-cons P (k, v) (e ∷ es) p h
    by Equal is later = All-cons P (e.0, v) es (subst (λ q. P (q, v)) (exact k e.0 is) p) (All-tail P e es h)
    by Greater is later = All-cons P e _ (All-head P e es h) later

-- The new entry is there.
inserted : {K X : Type 0} (cmp : K → K → Ordering) → CmpEqualImpliesEq cmp → (es : List (K × X)) (p : K × X) → Contains (insert_entry cmp es p.0 p.1) p
inserted cmp exact [] p = Contains-push [] p
inserted {K} {X} cmp exact (e ∷ es) p = by (cmp p.0 e.0) refl (inserted cmp exact es p)
  where
    by : (o : Ordering) → cmp p.0 e.0 ≡ o → Contains (insert_entry cmp es p.0 p.1) p → Contains {X = K × X} (match_ordering o (p ∷ e ∷ es) ((e.0, p.1) ∷ es) (e ∷ insert_entry cmp es p.0 p.1)) p
    by Less is later = Contains-append_left (p ∷ []) (e ∷ es) p (Contains-push [] p)
    by Equal is later = subst (λ q. Contains {X = K × X} ((q, p.1) ∷ es) p) (exact p.0 e.0 is) (Contains-append_left (p ∷ []) es p (Contains-push [] p))
    by Greater is later = Contains-append_right (e ∷ []) (insert_entry cmp es p.0 p.1) p later

-- A value is put under its key, or there is no memory.
pub put_or_same : {K X Y Z : Type 0} (cmp : K → K → Ordering) (old new : List (K × X)) (k : K) (v : X) (r : Result Y Z) → OnOk r (new ≡ insert_entry cmp old k v) → OnErr r (new ≡ old) → Keeps cmp old k v new
put_or_same cmp old new k v (Ok x) ok err = inl ok
put_or_same cmp old new k v (Err e) ok err = inr err

-- ---- one element more

-- It was there before, or it is this one.
abbrev pub WasOrIs : {E : Type 0} → List E → E → E → Type 0
WasOrIs old e x = Contains old x ⊎ (x ≡ e)

-- Nothing more.
pub adds_none : {E : Type 0} (old : List E) (e : E) (new : List E) → new ≡ old → Adds old e new
adds_none old e new same = record { only = λ x i. inl (subst (λ es. Contains es x) same i); learned = inr same }

-- A value that is put under its key is an entry more, if the order tells keys apart.
pub adds_entry : {K X : Type 0} (cmp : K → K → Ordering) → CmpEqualImpliesEq cmp → (old new : List (K × X)) (p : K × X) → Keeps cmp old p.0 p.1 new → Adds old p new
adds_entry cmp exact old new p (inl put) =
    let all = insert_keeps cmp exact (WasOrIs old p) old p.0 p.1 (each (WasOrIs old p) old (λ e j. inl j)) (inr refl) in
    record {
      only = λ x i. All-contains (WasOrIs old p) (insert_entry cmp old p.0 p.1) x all (subst (λ es. Contains es x) put i);
      learned = inl (subst (λ es. Contains es p) (sym put) (inserted cmp exact old p));
    }
adds_entry cmp exact old new p (inr same) = adds_none old p new same

-- What is read off them.
pub adds_map : {E F : Type 0} (f : E → F) (old : List E) (e : E) (new : List E) → Adds old e new → Adds (map f old) (f e) (map f new)
adds_map {E} {F} f old e new h =
    record {
      only = λ y i. let d = mapped f new y i in by y d.0 d.2 (h.only d.0 d.1);
      learned = there h.learned;
    }
  where
    by : (y : F) (d : E) → f d ≡ y → Contains old d ⊎ (d ≡ e) → Contains (map f old) y ⊎ (y ≡ f e)
    by y d is (inl i) = inl (subst (Contains (map f old)) is (in_map f old d i))
    by y d is (inr same) = inr (sym is ∙ ap f same)

    there : Contains new e ⊎ (new ≡ old) → Contains (map f new) (f e) ⊎ (map f new ≡ map f old)
    there (inl i) = inl (in_map f new e i)
    there (inr same) = inr (ap (map f) same)

-- Others stand behind them.
pub adds_left : {E : Type 0} (old : List E) (e : E) (new ys : List E) → Adds old e new → Adds (old ++ ys) e (new ++ ys)
adds_left {E} old e new ys h = record { only = λ x i. by x (Contains-append_cases new ys x i); learned = there h.learned }
  where
    was : (x : E) → Contains old x ⊎ (x ≡ e) → Contains (old ++ ys) x ⊎ (x ≡ e)
    was x (inl j) = inl (Contains-append_left old ys x j)
    was x (inr same) = inr same

    by : (x : E) → Contains new x ⊎ Contains ys x → Contains (old ++ ys) x ⊎ (x ≡ e)
    by x (inl i) = was x (h.only x i)
    by x (inr i) = inl (Contains-append_right old ys x i)

    there : Contains new e ⊎ (new ≡ old) → Contains (new ++ ys) e ⊎ (new ++ ys ≡ old ++ ys)
    there (inl i) = inl (Contains-append_left new ys e i)
    there (inr same) = inr (ap (λ xs. xs ++ ys) same)

-- Others stand before them.
pub adds_right : {E : Type 0} (xs old : List E) (e : E) (new : List E) → Adds old e new → Adds (xs ++ old) e (xs ++ new)
adds_right {E} xs old e new h = record { only = λ x i. by x (Contains-append_cases xs new x i); learned = there h.learned }
  where
    was : (x : E) → Contains old x ⊎ (x ≡ e) → Contains (xs ++ old) x ⊎ (x ≡ e)
    was x (inl j) = inl (Contains-append_right xs old x j)
    was x (inr same) = inr same

    by : (x : E) → Contains xs x ⊎ Contains new x → Contains (xs ++ old) x ⊎ (x ≡ e)
    by x (inl i) = inl (Contains-append_left xs old x i)
    by x (inr i) = was x (h.only x i)

    there : Contains new e ⊎ (new ≡ old) → Contains (xs ++ new) e ⊎ (xs ++ new ≡ xs ++ old)
    there (inl i) = inl (Contains-append_right xs new e i)
    there (inr same) = inr (ap (λ ys. xs ++ ys) same)

-- What holds of each, and of the one more, holds of each afterwards.
pub adds_all : {E : Type 0} (P : E → Type 0) (old : List E) (e : E) (new : List E) → Adds old e new → All P old → P e → All P new
adds_all {E} P old e new h all p = each P new (λ x i. by x (h.only x i))
  where
    by : (x : E) → Contains old x ⊎ (x ≡ e) → P x
    by x (inl i) = All-contains P old x all i
    by x (inr same) = subst P (sym same) p
