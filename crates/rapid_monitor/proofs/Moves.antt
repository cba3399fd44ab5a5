-- Each step keeps the rule of a board.
use Rattle.std.proofs.Common.{◌≡◌, ◌≢◌, ◌⊎◌, ℕ, zero, suc, ◌+◌, ◌<◌, List, [], ◌∷◌, ◌++◌, map, length, set, Bool, true, false, true≢false, eqb, cond, refl, sym, ap, ◌∙◌, subst, inl, inr, ⊎_elim, arith, length-set, eq-eqb, ne_eqb}
use Rattle.std.specs.Prelude.{replicate, slice_index, if◌then◌else◌}
use Rattle.std.proofs.lemmas.List.{get_or-set_other, get_or-set_same, set-get_or}
use mathlib.Core.Logic.{dite}
use native.Mathlib.Decide.{ℕ_discrete}
use mathlib.Core.Option.{none, some, some-ne-none, some-injective}
use lib.ListN.{get_elem?}
use Rattle.atomic_table.specs.Table.{State, Me, step, keeps, opening, Allows, Splits, Joins}
use Rattle.atomic_table.proofs.Lists.{at_set, at_snoc, set_again, at_map}
use Rattle.rapid_monitor.specs.declared.board_rule.BoardKnowledge.{BoardKnowledge}
use Rattle.rapid_monitor.specs.ProbeWord.{word_after, is_down_word, newest_ok}
use Rattle.rapid_monitor.specs.BoardRule.{IsIn, is_down_after, IsDown, Fits, Role, role_of, Roles, Kept, maker_at, owner_of, watcher, own_known, with_known, Found, Stored, Looked}
use Rattle.rapid_monitor.proofs.ProbeWords.{down_of, still_down}

off : false ≡ true → ⊥
off e = true≢false (sym e)

roles_same : (views : List BoardKnowledge) (id : ℕ) (v w : BoardKnowledge) → get_elem? views id ≡ some v → role_of w ≡ role_of v → map role_of (set views id w) ≡ map role_of views
roles_same [] id v w at e = refl
roles_same (x ∷ xs) zero v w at e = λ i. (e ∙ ap role_of (sym (some-injective x v at))) i ∷ map role_of xs
roles_same (x ∷ xs) (suc id) v w at e = ap (λ l. role_of x ∷ l) (roles_same xs id v w at e)

roles_more : (views : List BoardKnowledge) (w : BoardKnowledge)
    → map role_of (views ++ w ∷ []) ≡ map role_of views ++ role_of w ∷ []
roles_more [] w = refl
roles_more (x ∷ xs) w = ap (λ l. role_of x ∷ l) (roles_more xs w)

-- one more who neither makes nor owns
bystander : (roles : List Role) (history : ℕ → List Bool) (r : Role) → r.makes ≡ false → r.owns ≡ false → Roles roles history → Roles (roles ++ r ∷ []) history
bystander roles history r idle free k = record {
  one = λ i j p q at_i at_j own_p own_q same.
      ⊎_elim (λ old_i. ⊎_elim (λ old_j. k.one i j p q old_i old_j own_p own_q same) (λ e. absurd (off (sym free ∙ ap (λ (x : Role). x.owns) e ∙ own_q))) (at_snoc roles r q j at_j))
      (λ e. absurd (off (sym free ∙ ap (λ (x : Role). x.owns) e ∙ own_p))) (at_snoc roles r p i at_i);
  one_maker = λ i j p q at_i at_j m_p m_q.
      ⊎_elim (λ old_i. ⊎_elim (λ old_j. k.one_maker i j p q old_i old_j m_p m_q) (λ e. absurd (off (sym idle ∙ ap (λ (x : Role). x.makes) e ∙ m_q))) (at_snoc roles r q j at_j))
      (λ e. absurd (off (sym idle ∙ ap (λ (x : Role). x.makes) e ∙ m_p))) (at_snoc roles r p i at_i);
  below = λ i j p q at_i at_j m_p own_q.
      ⊎_elim (λ old_i. ⊎_elim (λ old_j. k.below i j p q old_i old_j m_p own_q) (λ e. absurd (off (sym free ∙ ap (λ (x : Role). x.owns) e ∙ own_q))) (at_snoc roles r q j at_j))
      (λ e. absurd (off (sym idle ∙ ap (λ (x : Role). x.makes) e ∙ m_p))) (at_snoc roles r p i at_i);
  fresh = λ i p at_i m_p e from. ⊎_elim (λ old_i. k.fresh i p old_i m_p e from) (λ e'. absurd (off (sym idle ∙ ap (λ (x : Role). x.makes) e' ∙ m_p))) (at_snoc roles r p i at_i);
}

-- a seat knows more, and the words stay
same_words : (edges : ℕ) (s : State (Unit {0}) BoardKnowledge) (k : Kept edges s) (id : ℕ) (v w : BoardKnowledge) (ws : List ℕ) → ws ≡ s.words → get_elem? s.views id ≡ some v → role_of w ≡ role_of v → Fits edges k.history w → Kept edges record { words = ws; homes = s.homes; views = set s.views id w }
same_words edges s k id v w ws same at role fits = subst (λ l. Kept edges record { words = l; homes = s.homes; views = set s.views id w }) (sym same) record {
  history = k.history;
  size = k.size;
  word = k.word;
  each_seat = λ j u e. ⊎_elim (λ (t : (j ≡ id) × (w ≡ u)). subst (Fits edges k.history) t.1 fits) (λ (t : (j ≢ id) × (get_elem? s.views j ≡ some u)). k.each_seat j u t.1) (at_set s.views id j w u e);
  roles = subst (λ l. Roles l k.history) (sym (roles_same s.views id v w at role)) k.roles;
}

-- the owner's load
pub finds : (edges slots id : ℕ) (me : Me (Unit {0}) BoardKnowledge) (edge : ℕ) → me.0.owns ≡ true → me.0.edge ≡ edge → Allows (Kept edges) slots id me edge (λ n. n) (Found (step slots edge 0 0 none) me)
finds edges slots id me edge owns is s k long at fits =
    let v = me.0 in
    let f = k.each_seat id v at in
    let mine = f.owner owns in (
      v,
      keeps,
      tt,
      same_words edges s k id v v _ (set-get_or s.words edge 0) at refl f,
      (refl, k.word edge (subst (λ e. e < edges) is mine.1) ∙ ap (λ e. word_after (k.history e)) (sym is) ∙ ap word_after (sym mine.0), λ told. subst IsDown (sym mine.0) (f.known v.edge told)),
    )

-- a watcher's load
pub looks : (edges slots id : ℕ) (me : Me (Unit {0}) BoardKnowledge) (edge : ℕ) → edge < edges → Allows (Kept edges) slots id me edge (λ n. n) (Looked (step slots edge 0 0 none) me)
looks edges slots id me edge within s k long at fits =
    let v = me.0 in
    let f = k.each_seat id v at in
    let n : ℕ = slice_index s.words edge in
    let is : n ≡ word_after (k.history edge) = k.word edge within in
    let w : BoardKnowledge = with_known v (if is_down_word n then edge ∷ v.known else v.known) in
    let knows : (b : Bool) → is_down_word n ≡ b → (e : ℕ) → IsIn e (if b then edge ∷ v.known else v.known) → IsDown (k.history e) = λ b.
    elim b as (λ c. is_down_word n ≡ c → (e : ℕ) → IsIn e (if c then edge ∷ v.known else v.known) → IsDown (k.history e)) [
      | true ↦ λ down e here. ⊎_elim (λ (same : e ≡ edge). subst (λ q. IsDown (k.history q)) (sym same) (sym (down_of (k.history edge)) ∙ ap is_down_word (sym is) ∙ down)) (λ old. f.known e old) here
      | false ↦ λ up e here. f.known e here
    ] in (
      w,
      keeps,
      tt,
      same_words edges s k id v w _ (set-get_or s.words edge 0) at refl record { owner = f.owner; known = knows (is_down_word n) refl },
      (refl, λ told. ap is_down_word is ∙ down_of (k.history edge) ∙ f.known edge told),
    )

-- the history with one result more of an edge
abbrev grown : ℕ → Bool → (ℕ → List Bool) → ℕ → List Bool
grown edge r history e = cond (eqb e edge) (history e ++ r ∷ []) (history e)

grown_here : (edge : ℕ) (r : Bool) (history : ℕ → List Bool) → grown edge r history edge ≡ history edge ++ r ∷ []
grown_here edge r history = ap (λ b. cond b (history edge ++ r ∷ []) (history edge)) (eq-eqb edge edge refl)

grown_else : (edge : ℕ) (r : Bool) (history : ℕ → List Bool) (e : ℕ) → e ≢ edge → grown edge r history e ≡ history e
grown_else edge r history e apart = ap (λ b. cond b (history e ++ r ∷ []) (history e)) (ne_eqb e edge apart)

grown_down : (edge : ℕ) (r : Bool) (history : ℕ → List Bool) (e : ℕ) → IsDown (history e) → IsDown (grown edge r history e)
grown_down edge r history e down = dite (ℕ_discrete e edge)
    (λ (here : e ≡ edge). subst (λ q. IsDown (grown edge r history q)) (sym here) (subst IsDown (sym (grown_here edge r history)) (still_down (history edge) r (subst (λ q. IsDown (history q)) here down))))
    (λ (apart : e ≢ edge). subst IsDown (sym (grown_else edge r history e apart)) down)

-- the owner's store
pub stores : (edges slots id : ℕ) (me : Me (Unit {0}) BoardKnowledge) (edge word : ℕ) → me.0 ≡ owner_of edge me.0.results me.0.known → word ≡ word_after (me.0.results ++ newest_ok word ∷ [])
    → Allows (Kept edges) slots id me edge (λ _. word) (λ _. Stored (step slots edge word 0 none) me word)
stores edges slots id me edge word form is s k long at fits =
    let r : Bool = newest_ok word in
    let v = me.0 in
    let f = k.each_seat id v at in
    let owns : v.owns ≡ true = ap (λ (x : BoardKnowledge). x.owns) form in
    let of : v.edge ≡ edge = ap (λ (x : BoardKnowledge). x.edge) form in
    let mine = f.owner owns in
    let w : BoardKnowledge = owner_of v.edge (v.results ++ r ∷ []) v.known in
    let history : ℕ → List Bool = grown edge r k.history in
    let within : edge < edges = subst (λ e. e < edges) of mine.1 in
    let results : v.results ≡ k.history edge = mine.0 ∙ ap k.history of in
    let wide : length s.words ≡ edges = k.size in
    let role : role_of w ≡ role_of v = (λ i. record { makes = false; next = 0; owns = true; edge = of i }) ∙ sym (ap role_of form) in (
      w,
      keeps,
      tt,
      record {
        history = history;
        size = length-set s.words edge word ∙ k.size;
        word = λ e lt. dite (ℕ_discrete e edge)
            (λ (here : e ≡ edge). subst (λ q. slice_index (set s.words edge word) q ≡ word_after (history q)) (sym here)
            (get_or-set_same s.words edge word 0 (omega arith) ∙ is ∙ ap (λ l. word_after (l ++ r ∷ [])) results ∙ ap word_after (sym (grown_here edge r k.history))))
            (λ (apart : e ≢ edge). get_or-set_other s.words edge e word 0 apart ∙ k.word e lt ∙ ap word_after (sym (grown_else edge r k.history e apart)));
        each_seat = λ j u e.
            ⊎_elim
            (λ (t : (j ≡ id) × (w ≡ u)). subst (Fits edges history) t.1 record {
              owner = λ _. (ap (λ l. l ++ r ∷ []) results ∙ sym (grown_here edge r k.history) ∙ ap history (sym of), mine.1);
              known = λ q here. grown_down edge r k.history q (f.known q here);
            })
            (λ (t : (j ≢ id) × (get_elem? s.views j ≡ some u)). let g = k.each_seat j u t.1 in record {
              owner = λ too. let theirs = g.owner too in
                  let apart : u.edge ≢ edge = λ same. t.0 (k.roles.one j id (role_of u) (role_of v) (at_map role_of s.views j u t.1) (at_map role_of s.views id v at) too owns (same ∙ sym of)) in
                  (theirs.0 ∙ sym (grown_else edge r k.history u.edge apart), theirs.1);
              known = λ q here. grown_down edge r k.history q (g.known q here);
            })
            (at_set s.views id j w u e);
        roles = subst (λ l. Roles l history) (sym (roles_same s.views id v w at role)) record {
          one = k.roles.one;
          one_maker = k.roles.one_maker;
          below = k.roles.below;
          fresh = λ i p at_p makes e from.
              let low : edge < p.next = subst (λ q. q < p.next) of (k.roles.below i id p (role_of v) at_p (at_map role_of s.views id v at) makes owns) in
              grown_else edge r k.history e (omega arith) ∙ k.roles.fresh i p at_p makes e from;
        };
      },
      refl,
    )

-- one more seat that neither makes nor owns
joined_by : (edges id : ℕ) (v w : BoardKnowledge) → w.makes ≡ false → w.owns ≡ false → ((history : ℕ → List Bool) → Fits edges history v → (e : ℕ) → IsIn e w.known → IsDown (history e)) → Splits (Kept edges) id v v w
joined_by edges id v w idle free knows s k at = record {
  history = k.history;
  size = k.size;
  word = k.word;
  each_seat = λ j u e.
      ⊎_elim
      (λ was. k.each_seat j u (subst (λ l. get_elem? l j ≡ some u) (set_again s.views id v at) was))
      (λ (same : w ≡ u). subst (Fits edges k.history) same record { owner = λ o. absurd (off (sym free ∙ o)); known = knows k.history (k.each_seat id v at) })
      (at_snoc (set s.views id v) w u j e);
  roles = subst (λ l. Roles l k.history) (sym (roles_more (set s.views id v) w ∙ ap (λ l. map role_of l ++ role_of w ∷ []) (set_again s.views id v at))) (bystander (map role_of s.views) k.history (role_of w) idle free k.roles);
}

pub watchers : (edges id : ℕ) (v : BoardKnowledge) → Splits (Kept edges) id v v (watcher [])
watchers edges id v = joined_by edges id v (watcher []) refl refl (λ history f e none. absurd none)

pub notes : (edges id : ℕ) (v : BoardKnowledge) → Splits (Kept edges) id v v (watcher v.known)
notes edges id v = joined_by edges id v (watcher v.known) refl refl (λ history f e here. f.known e here)

owner_knows : (edges : ℕ) (v : BoardKnowledge) → v.owns ≡ true → (history : ℕ → List Bool) → Fits edges history v → (b : Bool) → is_down_after v.results ≡ b → (e : ℕ) → IsIn e (if b then v.edge ∷ [] else []) → IsDown (history e)
owner_knows edges v owns history f true down e here = ⊎_elim (λ (same : e ≡ v.edge). subst (λ q. IsDown (history q)) (sym same) (subst IsDown (f.owner owns).0 down)) (λ none. absurd none) here
owner_knows edges v owns history f false up e here = absurd here

pub own_notes : (edges id : ℕ) (v : BoardKnowledge) → v.owns ≡ true → Splits (Kept edges) id v v (watcher (own_known v))
own_notes edges id v owns = joined_by edges id v (watcher (own_known v)) refl refl (λ history f e here. owner_knows edges v owns history f (is_down_after v.results) refl e here)

pub in_append : (e : ℕ) (xs ys : List ℕ) → IsIn e (xs ++ ys) → IsIn e xs ⊎ IsIn e ys
in_append e [] ys h = inr h
in_append e (x ∷ xs) ys h = ⊎_elim (λ same. inl (inl same)) (λ later. ⊎_elim (λ q. inl (inr q)) (λ q. inr q) (in_append e xs ys later)) h

pub hears : (edges id : ℕ) (v : BoardKnowledge) (other : ℕ) (u : BoardKnowledge) → u.makes ≡ false → u.owns ≡ false → u.edge ≡ 0 → u.next ≡ 0 → Joins (Kept edges) id v other u (with_known v (u.known ++ v.known)) (watcher [])
hears edges id v other u idle free zero_edge zero_next s k at apart there =
    let w : BoardKnowledge = with_known v (u.known ++ v.known) in
    let was : get_elem? s.views other ≡ some u = ⊎_elim (λ (t : (other ≡ id) × (w ≡ u)). absurd (apart t.0)) (λ (t : (other ≢ id) × (get_elem? s.views other ≡ some u)). t.1) (at_set s.views id other w u there) in
    let f = k.each_seat id v at in
    let g = k.each_seat other u was in
    let once : Kept edges record { words = s.words; homes = s.homes; views = set s.views id w } = same_words edges s k id v w s.words refl at refl record {
      owner = f.owner;
      known = λ e here. ⊎_elim (λ q. g.known e q) (λ q. f.known e q) (in_append e u.known v.known here);
    } in
    same_words edges record { words = s.words; homes = s.homes; views = set s.views id w } once other u (watcher []) s.words refl there (λ i. record { makes = sym idle i; next = sym zero_next i; owns = sym free i; edge = sym zero_edge i })
    record { owner = λ o. absurd (off o); known = λ e none. absurd none }

pub in_left : (e : ℕ) (xs ys : List ℕ) → IsIn e xs → IsIn e (xs ++ ys)
in_left e [] ys h = absurd h
in_left e (x ∷ xs) ys h = ⊎_elim (λ same. inl same) (λ later. inr (in_left e xs ys later)) h

within_length : {A : Type 0} → (l : List A) (i : ℕ) (a : A) → get_elem? l i ≡ some a → i < length l
within_length [] i a e = absurd (some-ne-none a (sym e))
within_length (x ∷ xs) zero a e = omega arith
within_length (x ∷ xs) (suc i) a e = let h = within_length xs i a e in omega arith

at_snoc_index : {A : Type 0} → (l : List A) (a b : A) (j : ℕ) → get_elem? (l ++ a ∷ []) j ≡ some b → (get_elem? l j ≡ some b) ⊎ ((j ≡ length l) × (a ≡ b))
at_snoc_index [] a b zero e = inr (refl, some-injective a b e)
at_snoc_index [] a b (suc j) e = absurd (some-ne-none b (sym e))
at_snoc_index (x ∷ xs) a b zero e = inl e
at_snoc_index (x ∷ xs) a b (suc j) e = ⊎_elim (λ h. inl h) (λ h. inr (ap suc h.0, h.1)) (at_snoc_index xs a b j e)

map_set : (views : List BoardKnowledge) (id : ℕ) (w : BoardKnowledge) → map role_of (set views id w) ≡ set (map role_of views) id (role_of w)
map_set [] id w = refl
map_set (x ∷ xs) zero w = refl
map_set (x ∷ xs) (suc id) w = ap (λ l. role_of x ∷ l) (map_set xs id w)

abbrev with_maker : List Role → ℕ → ℕ → List Role
with_maker roles id n = set roles id (role_of (maker_at (n + 1)))

abbrev owner_role : ℕ → Role
owner_role n = role_of (owner_of n [] [])

-- the roles after the maker has made the owner of its next edge
made : (roles : List Role) (history : ℕ → List Bool) (id n : ℕ) → get_elem? roles id ≡ some (role_of (maker_at n)) → Roles roles history → Roles (set roles id (role_of (maker_at (n + 1))) ++ role_of (owner_of n [] []) ∷ []) history
made roles history id n at k = record {
  one = λ i j p q at_i at_j own_p own_q same. ⊎_elim
      (λ old_i. ⊎_elim (λ old_j. k.one i j p q (owns_old i p old_i own_p) (owns_old j q old_j own_q) own_p own_q same)
      (λ new_j. let low = k.below id i (role_of (maker_at n)) p at (owns_old i p old_i own_p) refl own_p in let there : n ≡ q.edge = ap (λ (r : Role). r.edge) new_j.1 in absurd (omega arith)) (at_snoc_index (with_maker roles id n) (owner_role n) q j at_j))
      (λ new_i. ⊎_elim
      (λ old_j. let low = k.below id j (role_of (maker_at n)) q at (owns_old j q old_j own_q) refl own_q in let there : n ≡ p.edge = ap (λ (r : Role). r.edge) new_i.1 in absurd (omega arith))
      (λ new_j. new_i.0 ∙ sym new_j.0) (at_snoc_index (with_maker roles id n) (owner_role n) q j at_j)) (at_snoc_index (with_maker roles id n) (owner_role n) p i at_i);
  one_maker = λ i j p q at_i at_j m_p m_q. (makes_there i p at_i m_p).0 ∙ sym (makes_there j q at_j m_q).0;
  below = λ i j p q at_i at_j m_p own_q.
      let next : n + 1 ≡ p.next = ap (λ (r : Role). r.next) (makes_there i p at_i m_p).1 in
      ⊎_elim (λ old_j. let low : q.edge < n = k.below id j (role_of (maker_at n)) q at (owns_old j q old_j own_q) refl own_q in omega arith)
      (λ new_j. let there : n ≡ q.edge = ap (λ (r : Role). r.edge) new_j.1 in omega arith) (at_snoc_index (with_maker roles id n) (owner_role n) q j at_j);
  fresh = λ i p at_i m_p e from. let next : n + 1 ≡ p.next = ap (λ (r : Role). r.next) (makes_there i p at_i m_p).1 in k.fresh id (role_of (maker_at n)) at refl e (omega arith);
}
  where
    owns_old : (i : ℕ) (p : Role) → get_elem? (with_maker roles id n) i ≡ some p → p.owns ≡ true → get_elem? roles i ≡ some p
    owns_old i p e own = ⊎_elim (λ (t : (i ≡ id) × (role_of (maker_at (n + 1)) ≡ p)). absurd (off (ap (λ (r : Role). r.owns) t.1 ∙ own))) (λ (t : (i ≢ id) × (get_elem? roles i ≡ some p)). t.1) (at_set roles id i (role_of (maker_at (n + 1))) p e)

    makes_there : (i : ℕ) (p : Role) → get_elem? ((with_maker roles id n) ++ (owner_role n) ∷ []) i ≡ some p → p.makes ≡ true → (i ≡ id) × (role_of (maker_at (n + 1)) ≡ p)
    makes_there i p e m = ⊎_elim
        (λ old. ⊎_elim (λ (t : (i ≡ id) × (role_of (maker_at (n + 1)) ≡ p)). t)
        (λ (t : (i ≢ id) × (get_elem? roles i ≡ some p)). absurd (t.0 (k.one_maker i id p (role_of (maker_at n)) t.1 at m refl))) (at_set roles id i (role_of (maker_at (n + 1))) p old))
        (λ new. absurd (off (ap (λ (r : Role). r.makes) new.1 ∙ m))) (at_snoc_index (with_maker roles id n) (owner_role n) p i e)

pub owners : (edges id : ℕ) (n : ℕ) → n < edges → Splits (Kept edges) id (maker_at n) (maker_at (n + 1)) (owner_of n [] [])
owners edges id n within s k at = record {
  history = k.history;
  size = k.size;
  word = k.word;
  each_seat = λ j u e.
      ⊎_elim
      (λ old. ⊎_elim (λ (t : (j ≡ id) × (maker_at (n + 1) ≡ u)). subst (Fits edges k.history) t.1 record { owner = λ o. absurd (off o); known = λ q none. absurd none })
      (λ (t : (j ≢ id) × (get_elem? s.views j ≡ some u)). k.each_seat j u t.1) (at_set s.views id j (maker_at (n + 1)) u old))
      (λ (same : owner_of n [] [] ≡ u). subst (Fits edges k.history) same record { owner = λ _. (sym (k.roles.fresh id (role_of (maker_at n)) at_role refl n (omega arith)), within); known = λ q none. absurd none })
      (at_snoc (set s.views id (maker_at (n + 1))) (owner_of n [] []) u j e);
  roles = subst (λ l. Roles l k.history) (sym (roles_more (set s.views id (maker_at (n + 1))) (owner_of n [] []) ∙ ap (λ l. l ++ role_of (owner_of n [] []) ∷ []) (map_set s.views id (maker_at (n + 1)))))
      (made (map role_of s.views) k.history id n at_role k.roles);
}
  where
    at_role : get_elem? (map role_of s.views) id ≡ some (role_of (maker_at n))
    at_role = at_map role_of s.views id (maker_at n) at

pub opens : (edges : ℕ) (words : List ℕ) → length words ≡ edges → ((e : ℕ) → slice_index words e ≡ 0) → Kept edges (opening {S = Unit {0}} words [] (maker_at 0))
unfolding word_after
opens edges words wide zeros = record {
  history = λ e. [];
  size = wide;
  word = λ e _. zeros e;
  each_seat = one_view;
  roles = record {
    one = λ i j p q at_i at_j own_p own_q same. absurd (off (ap (λ (r : Role). r.owns) (the_first i p at_i).1 ∙ own_p));
    one_maker = λ i j p q at_i at_j m_p m_q. (the_first i p at_i).0 ∙ sym (the_first j q at_j).0;
    below = λ i j p q at_i at_j m_p own_q. absurd (off (ap (λ (r : Role). r.owns) (the_first j q at_j).1 ∙ own_q));
    fresh = λ i p at_i m_p e from. refl;
  };
}
  where
    one_view : (seat : ℕ) (v : BoardKnowledge) → get_elem? (maker_at 0 ∷ []) seat ≡ some v → Fits edges (λ e. []) v
    one_view zero v e = subst (Fits edges (λ e. [])) (some-injective _ _ e) record { owner = λ o. absurd (off o); known = λ q none. absurd none }
    one_view (suc seat) v e = absurd (some-ne-none v (sym e))

    the_first : (i : ℕ) (p : Role) → get_elem? (role_of (maker_at 0) ∷ []) i ≡ some p → (i ≡ 0) × (role_of (maker_at 0) ≡ p)
    the_first zero p e = (refl, some-injective _ _ e)
    the_first (suc i) p e = absurd (some-ne-none p (sym e))

pub all_zero : (n e : ℕ) → slice_index (replicate n 0) e ≡ 0
all_zero zero e = refl
all_zero (suc n) zero = refl
all_zero (suc n) (suc e) = all_zero n e
