-- Members that differ: their places, how many of them pass a test, and that a cut makes of them members that differ.
use Rattle.std.proofs.Common.{◌≡◌, ◌≤◌, ◌<◌, ◌+◌, ◌⊎◌, inl, inr, ℕ, zero, suc, Bool, true, false, cond, not, ◌&&◌, ◌||◌, List, [], ◌∷◌, map, filter, count_by, refl, sym, ap, ap₂, subst, ◌∙◌, Option, Some, None, length, unwrap_or, arith}
use Rattle.rapid_safety.proofs.Basics.{position, get_or, slice_get, nat_lt, flat_map, tied_itself, list_any, position_or_len, range_with_len, is_lt, and_parts, false_from_ne_true, cond_both, not-true, or_parts, position-Some, slice_get-get_or, In, in_split, same_bytes_decides, processes_total}
use Rattle.rapid_safety.proofs.Values.{Process, identifier, bytes_cmp, process_cmp, same_bytes, is_in, same_identifier, same_endpoint, Cut, Configuration, identifiers_ascend, collides, insert_process, with_joiners, apply}
use Rattle.rapid_safety.proofs.Working.{place}
use Rattle.rapid_model.proofs.Logic.{not_both}
use Rattle.rapid_model.proofs.Lists.{all_in, count_cons}
use Rattle.rapid_model.proofs.Among.{among_is}
use Rattle.std.proofs.lemmas.Bool.{or_cases, or_left, or_right, lt-ltb}

pub of_map : {A B : Type 0} (f : A → B) (xs : List A) (y : B) → In (map f xs) y → (x : A) × In xs x × (f x ≡ y)
of_map f [] y h = absurd h
of_map f (x ∷ xs) y (inl e) = (x, inl refl, e)
of_map f (x ∷ xs) y (inr i) = let r = of_map f xs y i in (r.0, inr r.1, r.2)

pub of_flat : {A B : Type 0} (f : A → List B) (xs : List A) (y : B) → In (flat_map f xs) y → (x : A) × In xs x × In (f x) y
of_flat f [] y h = absurd h
of_flat f (x ∷ xs) y h = elim (in_split (f x) (flat_map f xs) y h) [ inl i ↦ (x, inl refl, i) | inr i ↦ let r = of_flat f xs y i in (r.0, inr r.1, r.2) ]

pub passes_filter : (f : Process → Bool) (xs : List Process) (q : Process) → In (filter f xs) q → f q ≡ true
passes_filter f [] q h = absurd h
passes_filter f (x ∷ xs) q h =
    cond_both (f x) (x ∷ filter f xs) (filter f xs) (λ l. In l q → f q ≡ true)
    (λ e i. elim i [ inl s ↦ subst (λ z. f z ≡ true) s e | inr j ↦ passes_filter f xs q j ]) (λ e. passes_filter f xs q) h

-- the members differ
abbrev pub Distinct : List Process → Type 0
Distinct [] = Unit {0}
Distinct (p ∷ ps) = (is_in ps p ≡ false) × Distinct ps

pub not_in : (ps : List Process) (p : Process) → is_in ps p ≡ false → In ps p → ⊥
not_in [] p h i = i
not_in (q ∷ ps) p h (inl e) = let t : same_bytes p q ≡ true = (same_bytes_decides p q).1 (sym e) in let wrong : true ≡ false = sym (ap (λ b. b || list_any (same_bytes p) ps) t) ∙ h in cc
not_in (q ∷ ps) p h (inr i) = not_in ps p (or_parts (same_bytes p q) (list_any (same_bytes p) ps) h).1 i

-- ---- how many pass

pub exists_counted : {A : Type 0} (p : A → Bool) (xs : List A) → 1 ≤ count_by p xs → (x : A) × In xs x × (p x ≡ true)
exists_counted p [] h = absurd (omega arith)
exists_counted p (x ∷ xs) h = by (p x) refl (count_cons p x xs) (exists_counted p xs)
  where
    by : (b : Bool) → p x ≡ b → count_by p (x ∷ xs) ≡ cond (p x) 1 0 + count_by p xs → (1 ≤ count_by p xs → (y : _) × In xs y × (p y ≡ true)) → (y : _) × In (x ∷ xs) y × (p y ≡ true)
    by true e c f = (x, inl refl, e)
    by false e c f = let g : count_by p (x ∷ xs) ≡ 0 + count_by p xs = c ∙ ap (λ b. cond b 1 0 + count_by p xs) e in let r = f (omega arith) in (r.0, inr r.1, r.2)

-- ---- places

-- who has a place is a member
pub member_at : (p : Process) (ps : List Process) (k : ℕ) → position (same_bytes p) ps ≡ Some k → In ps p
member_at p ps k h =
    let r = position-Some (same_bytes p) ps k p h in
    let same : p ≡ get_or ps k p = (same_bytes_decides p (get_or ps k p)).0 r.1 in
    at ps k (slice_get-get_or ps k p r.0 ∙ ap Some (sym same))
  where
    at : (xs : List Process) (i : ℕ) → slice_get xs i ≡ Some p → In xs p
    at [] i e = cc
    at (x ∷ xs) Rattle.std.proofs.Common.zero e = inl (cc)
    at (x ∷ xs) (Rattle.std.proofs.Common.suc i) e = inr (at xs i e)

-- and its place is its own
pub one_place : (p q : Process) (ps : List Process) (k : ℕ) → position (same_bytes p) ps ≡ Some k → position (same_bytes q) ps ≡ Some k → p ≡ q
one_place p q ps k h g =
    let a = position-Some (same_bytes p) ps k [] h in
    let b = position-Some (same_bytes q) ps k [] g in
    (same_bytes_decides p (get_or ps k [])).0 a.1 ∙ sym ((same_bytes_decides q (get_or ps k [])).0 b.1)

abbrev place_in : Process → List Process → ℕ
place_in p ps = position_or_len (same_bytes p) ps

within : (p : Process) (xs : List Process) → is_in xs p ≡ true → place_in p xs < length xs
within p [] e = cc
within p (x ∷ xs) e = by (same_bytes p x) e (λ k. within p xs k)
  where
    by : (b : Bool) → (b || list_any (same_bytes p) xs) ≡ true → (list_any (same_bytes p) xs ≡ true → place_in p xs < length xs) → cond (not b) (1 + place_in p xs) 0 < suc (length xs)
    by true h f = omega arith
    by false h f = let g = f h in omega arith

place_is : (p : Process) (ps : List Process) → is_in ps p ≡ true → position (same_bytes p) ps ≡ Some (place_in p ps)
place_is p ps h = ap (λ b. cond b (Some (place_in p ps)) None) (lt-ltb (place_in p ps) (length ps) (within p ps h))

pub position_in : (p : Process) (ps : List Process) → is_in ps p ≡ true → (k : ℕ) × (position (same_bytes p) ps ≡ Some k)
position_in p ps h = (place_in p ps, place_is p ps h)

map_same : {A B : Type 0} (f g : A → B) (xs : List A) → ((x : A) → In xs x → f x ≡ g x) → map f xs ≡ map g xs
map_same f g [] h = refl
map_same f g (x ∷ xs) h = ap₂ (λ y ys. y ∷ ys) (h x (inl refl)) (map_same f g xs (λ y i. h y (inr i)))

places_from : (n : ℕ) (ms : List Process) → Distinct ms → map (λ p. n + place_in p ms) ms ≡ range_with_len n (length ms)
places_from n [] d = refl
places_from n (m ∷ ms) d =
    ap₂ (λ y ys. y ∷ ys) (ap (λ b. n + cond (not b) (1 + place_in m ms) 0) ((same_bytes_decides m m).1 refl) ∙ omega arith)
    (map_same _ (λ p. (n + 1) + place_in p ms) ms (λ p i. later p i (same_bytes p m) refl) ∙ places_from (n + 1) ms d.1)
  where
    later : (p : Process) → In ms p → (b : Bool) → same_bytes p m ≡ b → n + cond (not (same_bytes p m)) (1 + place_in p ms) 0 ≡ (n + 1) + place_in p ms
    later p i true e = absurd (not_in ms m d.0 (subst (In ms) ((same_bytes_decides p m).0 e) i))
    later p i false e = ap (λ b. n + cond (not b) (1 + place_in p ms) 0) e ∙ omega arith

-- the places of members that differ are the positions
pub places_are : (c : Configuration) → Distinct c.members → map (place c) c.members ≡ range_with_len 0 (length c.members)
places_are c d =
    map_same (place c) (λ p. 0 + place_in p c.members) c.members (λ p i. ap (λ o. unwrap_or o 0) (place_is p c.members (among_is c.members p i)) ∙ omega arith)
    ∙ places_from 0 c.members d

-- ---- a cut makes of members that differ members that differ

in_filtered : (f : Process → Bool) (ms : List Process) (q : Process) → is_in (filter f ms) q ≡ true → is_in ms q ≡ true
in_filtered f [] q h = h
in_filtered f (m ∷ ms) q h = by (f m) h (in_filtered f ms q)
  where
    by : (b : Bool) → is_in (cond b (m ∷ filter f ms) (filter f ms)) q ≡ true → (is_in (filter f ms) q ≡ true → is_in ms q ≡ true) → (same_bytes q m || is_in ms q) ≡ true
    by true k g = elim (or_cases (same_bytes q m) (is_in (filter f ms) q) k) [ inl e ↦ or_left _ _ e | inr e ↦ or_right _ _ (g e) ]
    by false k g = or_right _ _ (g k)

distinct_filter : (f : Process → Bool) (ms : List Process) → Distinct ms → Distinct (filter f ms)
distinct_filter f [] d = tt
distinct_filter f (m ∷ ms) d =
    cond_both (f m) (m ∷ filter f ms) (filter f ms) Distinct (λ e. (false_from_ne_true _ (λ h. not_both _ (in_filtered f ms m h) d.0), distinct_filter f ms d.1)) (λ e. distinct_filter f ms d.1)

in_inserted : (j : Process) (ms : List Process) (q : Process) → is_in (insert_process j ms) q ≡ true → (q ≡ j) ⊎ (is_in ms q ≡ true)
in_inserted j [] q h = elim (or_cases (same_bytes q j) false h) [ inl e ↦ inl ((same_bytes_decides q j).0 e) | inr e ↦ cc ]
in_inserted j (m ∷ ms) q h = by (is_lt (process_cmp j m)) h (in_inserted j ms q)
  where
    by : (b : Bool) → is_in (cond b (j ∷ m ∷ ms) (m ∷ insert_process j ms)) q ≡ true → (is_in (insert_process j ms) q ≡ true → (q ≡ j) ⊎ (is_in ms q ≡ true)) → (q ≡ j) ⊎ ((same_bytes q m || is_in ms q) ≡ true)
    by true k g = elim (or_cases (same_bytes q j) _ k) [ inl e ↦ inl ((same_bytes_decides q j).0 e) | inr e ↦ inr e ]
    by false k g = elim (or_cases (same_bytes q m) _ k) [ inl e ↦ inr (or_left _ _ e) | inr e ↦ elim (g e) [ inl x ↦ inl x | inr x ↦ inr (or_right _ _ x) ] ]

distinct_insert : (j : Process) (ms : List Process) → Distinct ms → is_in ms j ≡ false → Distinct (insert_process j ms)
distinct_insert j [] d h = (refl, tt)
distinct_insert j (m ∷ ms) d h = by (is_lt (process_cmp j m)) (distinct_insert j ms d.1)
  where
    apart : same_bytes j m ≡ true → ⊥
    apart e = not_both _ (or_left (same_bytes j m) (is_in ms j) e) h

    rest : is_in ms j ≡ false
    rest = false_from_ne_true _ (λ e. not_both _ (or_right (same_bytes j m) (is_in ms j) e) h)

    by : (b : Bool) → (is_in ms j ≡ false → Distinct (insert_process j ms)) → Distinct (cond b (j ∷ m ∷ ms) (m ∷ insert_process j ms))
    by true g = (h, d)
    by false g = (false_from_ne_true _ (λ e. elim (in_inserted j ms m e) [ inl x ↦ apart ((same_bytes_decides j m).1 (sym x)) | inr x ↦ not_both _ x d.0 ]), g rest)

collides_in : (ms : List Process) (j : Process) → is_in ms j ≡ true → collides ms j ≡ true
collides_in [] j h = cc
collides_in (m ∷ ms) j h =
    elim (or_cases (same_bytes j m) (is_in ms j) h) [
      | inl e ↦ or_left _ _ (or_left (same_identifier j m) (same_endpoint j m) ((same_bytes_decides (identifier j) (identifier m)).1 (ap identifier ((same_bytes_decides j m).0 e))))
      | inr e ↦ or_right _ _ (collides_in ms j e)
    ]

distinct_joiners : (ms js : List Process) → Distinct ms → Distinct (with_joiners ms js)
distinct_joiners ms [] d = d
distinct_joiners ms (j ∷ js) d = by (not (collides ms j) && nat_lt (length ms) 1024) refl (λ xs k. distinct_joiners xs js k)
  where
    by : (b : Bool) → (not (collides ms j) && nat_lt (length ms) 1024) ≡ b → ((xs : List Process) → Distinct xs → Distinct (with_joiners xs js)) → Distinct (cond b (with_joiners (insert_process j ms) js) (with_joiners ms js))
    by true e f = f (insert_process j ms) (distinct_insert j ms d (false_from_ne_true _ (λ h. not_both _ (collides_in ms j h) (not-true _ (and_parts _ _ e).0))))
    by false e f = f ms d

-- the members after a cut differ
pub distinct_apply : (c : Configuration) (v : Cut) → Distinct c.members → Distinct (apply c v).members
unfolding apply
distinct_apply c v d = distinct_joiners (filter (λ p. not (is_in v p)) c.members) (filter (λ p. not (is_in c.members p)) v) (distinct_filter (λ p. not (is_in v p)) c.members d)

-- ---- the founders differ

pub not_below_itself : (x y : List ℕ) → x ≡ y → is_lt (bytes_cmp x y) ≡ true → ⊥
not_below_itself x y e h = let g : is_lt (bytes_cmp x x) ≡ true = subst (λ z. is_lt (bytes_cmp x z) ≡ true) (sym e) h in let t : is_lt (bytes_cmp x x) ≡ false = ap is_lt (tied_itself processes_total x) in let wrong : true ≡ false = sym g ∙ t in cc

pub in_of : (p : Process) (ps : List Process) → is_in ps p ≡ true → In ps p
in_of p [] h = cc
in_of p (q ∷ ps) h = by (same_bytes p q) refl h (in_of p ps)
  where
    by : (b : Bool) → same_bytes p q ≡ b → (b || list_any (same_bytes p) ps) ≡ true → (list_any (same_bytes p) ps ≡ true → In ps p) → In (q ∷ ps) p
    by true e k f = inl (sym ((same_bytes_decides p q).0 e))
    by false e k f = inr (f k)

pub founders_differ : (ms : List Process) → identifiers_ascend ms ≡ true → Distinct ms
founders_differ [] h = tt
founders_differ (p ∷ ps) h =
    (false_from_ne_true _ (λ e. not_below_itself (identifier p) (identifier p) refl (all_in (λ q. is_lt (bytes_cmp (identifier p) (identifier q))) ps p (and_parts _ _ h).0 (in_of p ps e))), founders_differ ps (and_parts _ _ h).1)
