-- Each step of a seat and of the writer keeps the rule.
use Rattle.std.proofs.Common.{◌≡◌, ◌≢◌, ◌⊎◌, ℕ, zero, suc, ◌+◌, ◌<◌, ◌≤◌, List, [], ◌∷◌, ◌++◌, length, set, get_or, true, false, true≢false, refl, sym, ap, ◌∙◌, subst, inl, inr, ⊎_elim, arith, length-append, length-set, append_assoc, append-nil}
use Rattle.std.specs.Prelude.{◌-◌, slice_index, slice_get, Some}
use Rattle.std.proofs.lemmas.List.{get_or-set_other, get_or-set_same, set-get_or}
use mathlib.Core.Logic.{dite}
use native.Mathlib.Decide.{ℕ_discrete}
use mathlib.Core.Option.{none, some, some-ne-none, some-injective}
use lib.ListN.{get_elem?}
use Rattle.atomic_table.specs.Table.{State, Me, step, keeps, opening, Allows, Splits, Joins}
use Rattle.atomic_table.proofs.Lists.{at_set, at_snoc, set_again, at_longer}
use Rattle.rapid_model.specs.Configuration.{Stamp}
use Rattle.rapid_view.specs.declared.cell_rule.CellKnowledge.{CellKnowledge}
use Rattle.rapid_model.specs.PublishedList.{HeightsRise, IsBeginning, stamp_words}
use Rattle.rapid_view.specs.Words.{stamp_of, IsWhole}
use Rattle.rapid_view.specs.Seen.{last_height}
use Rattle.rapid_view.specs.CellRule.{place, Waits, Fits, Kept, newcomer, nobody, onlooker, informed, Looked, Compared, Read, Stored, Lengthened}

pub within_length : {A : Type 0} → (l : List A) (i : ℕ) (a : A) → get_elem? l i ≡ some a → i < length l
within_length [] i a e = absurd (some-ne-none a (sym e))
within_length (x ∷ xs) zero a e = omega arith
within_length (x ∷ xs) (suc i) a e = let h = within_length xs i a e in omega arith

pub at_snoc_index : {A : Type 0} → (l : List A) (a b : A) (j : ℕ) → get_elem? (l ++ a ∷ []) j ≡ some b → (get_elem? l j ≡ some b) ⊎ ((j ≡ length l) × (a ≡ b))
at_snoc_index [] a b zero e = inr (refl, some-injective a b e)
at_snoc_index [] a b (suc j) e = absurd (some-ne-none b (sym e))
at_snoc_index (x ∷ xs) a b zero e = inl e
at_snoc_index (x ∷ xs) a b (suc j) e = ⊎_elim (λ h. inl h) (λ h. inr (ap suc h.0, h.1)) (at_snoc_index xs a b j e)

off : false ≡ true → ⊥
off e = true≢false (sym e)

pub at_seen : (log seen : List Stamp) (i : ℕ) (x : Stamp) → IsBeginning seen log → get_elem? seen i ≡ some x → get_elem? log i ≡ some x
at_seen log seen i x starts e = subst (λ l. get_elem? l i ≡ some x) (sym starts.1) (at_longer seen starts.0 i x e)

get_or-append_here : (xs : List ℕ) (x : ℕ) → get_or (xs ++ x ∷ []) (length xs) 0 ≡ x
get_or-append_here [] x = refl
get_or-append_here (y ∷ ys) x = get_or-append_here ys x

get_or-append_before : (xs ys : List ℕ) (i d : ℕ) → i < length xs → get_or (xs ++ ys) i d ≡ get_or xs i d
get_or-append_before [] ys i d h = absurd (omega arith)
get_or-append_before (x ∷ xs) ys zero d h = refl
get_or-append_before (x ∷ xs) ys (suc i) d h = get_or-append_before xs ys i d (omega arith)

no_rise : HeightsRise []
no_rise = tt

-- a seat's view changes, and the words stay
same_words : (room : ℕ) (s : State (Unit {0}) CellKnowledge) (k : Kept room s) (id : ℕ) (w : CellKnowledge) (ws : List ℕ) → ws ≡ s.words → Fits room s.words k.list id w → Kept room record { words = ws; homes = s.homes; views = set s.views id w }
same_words room s k id w ws same fits = subst (λ l. Kept room record { words = l; homes = s.homes; views = set s.views id w }) (sym same) record {
  list = k.list;
  size = k.size;
  count = k.count;
  within = k.within;
  stands = k.stands;
  rises = k.rises;
  each_seat = λ j u e.
      ⊎_elim
      (λ (t : (j ≡ id) × (w ≡ u)). subst (λ (y : ℕ × CellKnowledge). Fits room s.words k.list y.0 y.1) (λ i. (sym t.0 i, t.1 i)) fits)
      (λ (t : (j ≢ id) × (get_elem? s.views j ≡ some u)). k.each_seat j u t.1)
      (at_set s.views id j w u e);
}

pub looks : (room slots id : ℕ) (me : Me (Unit {0}) CellKnowledge) → 0 < me.0.room → Allows (Kept room) slots id me 0 (λ n. n) (Looked (step slots 0 0 0 none) me)
looks room slots id me some_room s k long at small =
    let v = me.0 in
    let f = k.each_seat id v at in
    let w : CellKnowledge = record { writes = v.writes; room = v.room; seen = k.list; told = []; pending = v.pending } in
    let is : v.room ≡ room = f.room_is some_room in
    let found : slice_index s.words 0 ≡ length k.list = k.count in
    let few : length k.list ≤ room = k.within in (
      w,
      keeps,
      tt,
      same_words room s k id w _ (set-get_or s.words 0 0) record {
        seen = ([], sym (append-nil k.list));
        told = (k.list, refl);
        rising = k.rises;
        room_is = f.room_is;
        writer = λ does. ((f.writer does).0, refl, (f.writer does).2);
      },
      (refl, refl, f.seen, f.told, k.count, omega arith, (λ i x e. (k.stands i x e).0), k.rises),
    )

pub compares : (room slots id : ℕ) (me : Me (Unit {0}) CellKnowledge) → me.0.writes ≡ true → Allows (Kept room) slots id me 0 (λ n. n) (Compared (step slots 0 0 0 none) me)
compares room slots id me does s k long at small =
    let v = me.0 in
    let f = k.each_seat id v at in
    let w : CellKnowledge = record { writes = v.writes; room = v.room; seen = v.seen; told = []; pending = v.pending } in (
      w,
      keeps,
      tt,
      same_words room s k id w _ (set-get_or s.words 0 0) record {
        seen = f.seen;
        told = (k.list, refl);
        rising = f.rising;
        room_is = f.room_is;
        writer = f.writer;
      },
      (refl, subst (IsBeginning v.told) (sym (f.writer does).1) f.told),
    )

pub reads : (room slots id : ℕ) (me : Me (Unit {0}) CellKnowledge) (word : ℕ) → Allows (Kept room) slots id me word (λ n. n) (Read (step slots word 0 0 none) me)
reads room slots id me word s k long at small =
    let f = k.each_seat id me.0 at in (
      me.0,
      keeps,
      tt,
      same_words room s k id me.0 _ (set-get_or s.words word 0) f,
      (refl, λ i j x e is few. ap (λ q. slice_index s.words q) is ∙ (k.stands i x (at_seen k.list me.0.seen i x f.seen e)).1 j few),
    )

-- a write elsewhere
kept_word : (ws : List ℕ) (p q x : ℕ) → q ≢ p → slice_index (set ws p x) q ≡ slice_index ws q
kept_word ws p q x apart = get_or-set_other ws p q x 0 apart

-- one word more of the stamp to come
stored_more : (ws pending : List ℕ) (n x : ℕ) → Waits ws n pending → place n + length pending < length ws → Waits (set ws (place n + length pending) x) n (pending ++ x ∷ [])
stored_more ws pending n x waits within j few = dite (ℕ_discrete j (length pending))
    (λ (here : j ≡ length pending). subst (λ k. slice_index (set ws (place n + length pending) x) (place n + k) ≡ slice_index (pending ++ x ∷ []) k) (sym here)
    (get_or-set_same ws (place n + length pending) x 0 within ∙ sym (get_or-append_here pending x)))
    (λ (apart : j ≢ length pending).
    let before : j < length pending = omega (arith, length-append pending (x ∷ [])) in
    kept_word ws (place n + length pending) (place n + j) x (omega arith) ∙ waits j before ∙ sym (get_or-append_before pending (x ∷ []) j 0 before))

pub stores : (room slots id : ℕ) (me : Me (Unit {0}) CellKnowledge) (x : ℕ) → me.0.writes ≡ true → 0 < me.0.room → length me.0.seen < me.0.room → length me.0.pending < 6
    → Allows (Kept room) slots id me (place (length me.0.seen) + length me.0.pending) (λ _. x) (λ _. Stored (step slots (place (length me.0.seen) + length me.0.pending) x 0 none) me x)
stores room slots id me x does some_room below few s k long at small =
    let v = me.0 in
    let f = k.each_seat id v at in
    let mine = f.writer does in
    let w : CellKnowledge = record { writes = v.writes; room = v.room; seen = v.seen; told = v.told; pending = v.pending ++ x ∷ [] } in
    let p : ℕ = place (length v.seen) + length v.pending in
    let ws : List ℕ = set s.words p x in
    let all : length v.seen ≡ length k.list = ap length mine.1 in
    let is : v.room ≡ room = f.room_is some_room in
    let wide : length s.words ≡ place room = k.size in
    let within : p < length s.words = omega arith in
    let log_place : place (length k.list) + length v.pending ≡ p = omega arith in (
      w,
      keeps,
      tt,
      record {
        list = k.list;
        size = length-set s.words p x ∙ k.size;
        count = kept_word s.words p 0 x (omega arith) ∙ k.count;
        within = k.within;
        stands = λ i y e. ((k.stands i y e).0, λ j lt. let near : i < length k.list = within_length k.list i y e in kept_word s.words p (place i + j) x (omega arith) ∙ (k.stands i y e).1 j lt);
        rises = k.rises;
        each_seat = λ j u e.
            ⊎_elim
            (λ (t : (j ≡ id) × (w ≡ u)). subst (λ (y : ℕ × CellKnowledge). Fits room ws k.list y.0 y.1) (λ i. (sym t.0 i, t.1 i)) record {
              seen = f.seen;
              told = f.told;
              rising = f.rising;
              room_is = f.room_is;
              writer = λ _. (mine.0, mine.1, subst (λ q. Waits (set s.words q x) (length k.list) (v.pending ++ x ∷ [])) log_place (stored_more s.words v.pending (length k.list) x mine.2 (subst (λ q. q < length s.words) (sym log_place) within)));
            })
            (λ (t : (j ≢ id) × (get_elem? s.views j ≡ some u)). let g = k.each_seat j u t.1 in record {
              seen = g.seen;
              told = g.told;
              rising = g.rising;
              room_is = g.room_is;
              writer = λ too. absurd (t.0 ((g.writer too).0 ∙ sym mine.0));
            })
            (at_set s.views id j w u e);
      },
      refl,
    )

-- the stamp that the writer has stored stands at its place
new_stands : (ws : List ℕ) (n : ℕ) (x : Stamp) (pending : List ℕ) → pending ≡ stamp_words x → Waits ws n pending → (j : ℕ) → j < 6 → slice_index ws (place n + j) ≡ slice_index (stamp_words x) j
new_stands ws n x pending is waits j few = waits j (subst (λ (l : List ℕ). j < length l) (sym is) few) ∙ ap (λ l. slice_index l j) is

longer_starts : (log seen : List Stamp) (x : Stamp) → IsBeginning seen log → IsBeginning seen (log ++ x ∷ [])
longer_starts log seen x starts = (starts.0 ++ x ∷ [], ap (λ l. l ++ x ∷ []) starts.1 ∙ append_assoc seen starts.0 (x ∷ []))

pub lengthens : (room slots id : ℕ) (me : Me (Unit {0}) CellKnowledge) (x : Stamp) → me.0.writes ≡ true → 0 < me.0.room → length me.0.seen < me.0.room → me.0.pending ≡ stamp_words x → IsWhole x → HeightsRise (me.0.seen ++ x ∷ [])
    → Allows (Kept room) slots id me 0 (λ _. length me.0.seen + 1) (λ _. Lengthened (step slots 0 (length me.0.seen + 1) 0 none) me (length me.0.seen + 1))
lengthens room slots id me x does some_room below is whole rising s k long at small =
    let v = me.0 in
    let f = k.each_seat id v at in
    let mine = f.writer does in
    let same : stamp_of v.pending ≡ x = ap stamp_of is ∙ sym whole in
    let log : List Stamp = k.list ++ x ∷ [] in
    let w : CellKnowledge = record { writes = v.writes; room = v.room; seen = v.seen ++ stamp_of v.pending ∷ []; told = v.told; pending = [] } in
    let grown : v.seen ++ stamp_of v.pending ∷ [] ≡ log = λ i. mine.1 i ++ same i ∷ [] in
    let ws : List ℕ = set s.words 0 (length v.seen + 1) in
    let all : length v.seen ≡ length k.list = ap length mine.1 in
    let roomy : v.room ≡ room = f.room_is some_room in
    let wide : length s.words ≡ place room = k.size in
    let rises : HeightsRise log = subst (λ l. HeightsRise (l ++ x ∷ [])) mine.1 rising in (
      w,
      keeps,
      tt,
      record {
        list = log;
        size = length-set s.words 0 (length v.seen + 1) ∙ k.size;
        count = get_or-set_same s.words 0 (length v.seen + 1) 0 (omega arith) ∙ omega (arith, length-append k.list (x ∷ []));
        within = omega (arith, length-append k.list (x ∷ []));
        stands = λ i y e.
            ⊎_elim
            (λ (old : get_elem? k.list i ≡ some y). ((k.stands i y old).0, λ j lt. kept_word s.words 0 (place i + j) (length v.seen + 1) (omega arith) ∙ (k.stands i y old).1 j lt))
            (λ (new : (i ≡ length k.list) × (x ≡ y)). subst (λ (z : ℕ × Stamp). IsWhole z.1 × ((j : ℕ) → j < 6 → slice_index ws (place z.0 + j) ≡ slice_index (stamp_words z.1) j)) (λ q. (sym new.0 q, new.1 q))
            (whole, λ j lt. kept_word s.words 0 (place (length k.list) + j) (length v.seen + 1) (omega arith) ∙ new_stands s.words (length k.list) x v.pending is mine.2 j lt))
            (at_snoc_index k.list x y i e);
        rises = rises;
        each_seat = λ j u e.
            ⊎_elim
            (λ (t : (j ≡ id) × (w ≡ u)). subst (λ (y : ℕ × CellKnowledge). Fits room ws log y.0 y.1) (λ i. (sym t.0 i, t.1 i)) record {
              seen = ([], sym grown ∙ sym (append-nil _));
              told = longer_starts k.list v.told x f.told;
              rising = subst HeightsRise (sym grown) rises;
              room_is = f.room_is;
              writer = λ _. (mine.0, grown, λ q none. absurd (omega arith));
            })
            (λ (t : (j ≢ id) × (get_elem? s.views j ≡ some u)). let g = k.each_seat j u t.1 in record {
              seen = longer_starts k.list u.seen x g.seen;
              told = longer_starts k.list u.told x g.told;
              rising = g.rising;
              room_is = g.room_is;
              writer = λ too. absurd (t.0 ((g.writer too).0 ∙ sym mine.0));
            })
            (at_set s.views id j w u e);
      },
      refl,
    )

-- a note of what a seat has seen
pub tells : (room id : ℕ) (v : CellKnowledge) → Splits (Kept room) id v v (onlooker v)
tells room id v s k at = record {
  list = k.list;
  size = k.size;
  count = k.count;
  within = k.within;
  stands = k.stands;
  rises = k.rises;
  each_seat = λ j u e.
      ⊎_elim
      (λ was. k.each_seat j u (subst (λ l. get_elem? l j ≡ some u) (set_again s.views id v at) was))
      (λ (same : onlooker v ≡ u). let f = k.each_seat id v at in subst (Fits room s.words k.list j) same record {
        seen = f.seen;
        told = (k.list, refl);
        rising = f.rising;
        room_is = f.room_is;
        writer = λ no. absurd (off no);
      })
      (at_snoc (set s.views id v) (onlooker v) u j e);
}

-- a seat takes in a note
pub hears : (room id : ℕ) (v : CellKnowledge) (other : ℕ) (u : CellKnowledge)
    → Joins (Kept room) id v other u (informed v u) nobody
hears room id v other u s k at apart there =
    let w = informed v u in
    let f = k.each_seat id v at in
    let g = ⊎_elim (λ (t : (other ≡ id) × (w ≡ u)). absurd (apart t.0)) (λ (t : (other ≢ id) × (get_elem? s.views other ≡ some u)). k.each_seat other u t.1) (at_set s.views id other w u there) in
    let mine : Fits room s.words k.list id w = record { seen = f.seen; told = g.seen; rising = f.rising; room_is = f.room_is; writer = f.writer } in
    let spent : (j : ℕ) → Fits room s.words k.list j nobody = λ j. record { seen = (k.list, refl); told = (k.list, refl); rising = no_rise; room_is = λ no. absurd (omega arith); writer = λ no. absurd (off no) } in record {
      list = k.list;
      size = k.size;
      count = k.count;
      within = k.within;
      stands = k.stands;
      rises = k.rises;
      each_seat = λ j y e.
          ⊎_elim
          (λ (t : (j ≡ other) × (nobody ≡ y)). subst (Fits room s.words k.list j) t.1 (spent j))
          (λ (t : (j ≢ other) × (get_elem? (set s.views id w) j ≡ some y)).
          ⊎_elim
          (λ (q : (j ≡ id) × (w ≡ y)). subst (λ (z : ℕ × CellKnowledge). Fits room s.words k.list z.0 z.1) (λ i. (sym q.0 i, q.1 i)) mine)
          (λ (q : (j ≢ id) × (get_elem? s.views j ≡ some y)). k.each_seat j y q.1)
          (at_set s.views id j w y t.1))
          (at_set (set s.views id w) other j nobody y e);
    }

-- an empty list
pub opens : (room : ℕ) (words : List ℕ) → length words ≡ place room → slice_index words 0 ≡ 0 → Kept room (opening {S = Unit {0}} words [] (newcomer room))
opens room words wide zero_count = record {
  list = [];
  size = wide;
  count = zero_count;
  within = omega arith;
  stands = λ i y e. absurd (some-ne-none y (sym e));
  rises = no_rise;
  each_seat = one;
}
  where
    one : (seat : ℕ) (v : CellKnowledge) → get_elem? (newcomer room ∷ []) seat ≡ some v → Fits room words [] seat v
    one zero v e = subst (Fits room words [] 0) (some-injective _ _ e) record {
      seen = ([], refl);
      told = ([], refl);
      rising = no_rise;
      room_is = λ _. refl;
      writer = λ _. (refl, refl, λ j none. absurd (omega arith));
    }
    one (suc seat) v e = absurd (some-ne-none v (sym e))

some_at : (xs : List Stamp) (i : ℕ) → i < length xs → (x : Stamp) × (get_elem? xs i ≡ some x) × (slice_get xs i ≡ Some x)
some_at [] i h = absurd (omega arith)
some_at (x ∷ xs) zero h = (x, refl, refl)
some_at (x ∷ xs) (suc i) h = some_at xs i (omega arith)

pub last_there : (xs : List Stamp) → 0 < length xs → (x : Stamp) × (get_elem? xs (length xs - 1) ≡ some x) × (slice_get xs (length xs - 1) ≡ Some x)
last_there xs h = some_at xs (length xs - 1) (omega arith)

-- the same, with the number that the code has
pub stores_at : (room slots id : ℕ) (me : Me (Unit {0}) CellKnowledge) (p x : ℕ) → p ≡ place (length me.0.seen) + length me.0.pending → me.0.writes ≡ true → 0 < me.0.room → length me.0.seen < me.0.room → length me.0.pending < 6
    → Allows (Kept room) slots id me p (λ _. x) (λ _. Stored (step slots p x 0 none) me x)
stores_at room slots id me p x is does some_room below few = subst (λ (q : ℕ). Allows (Kept room) slots id me q (λ _. x) (λ _. Stored (step slots q x 0 none) me x)) (sym is) (stores room slots id me x does some_room below few)

pub lengthens_at : (room slots id : ℕ) (me : Me (Unit {0}) CellKnowledge) (n : ℕ) (x : Stamp) → n ≡ length me.0.seen → me.0.writes ≡ true → 0 < me.0.room → length me.0.seen < me.0.room → me.0.pending ≡ stamp_words x → IsWhole x → HeightsRise (me.0.seen ++ x ∷ [])
    → Allows (Kept room) slots id me 0 (λ _. n + 1) (λ _. Lengthened (step slots 0 (n + 1) 0 none) me (n + 1))
lengthens_at room slots id me n x is does some_room below stored whole rising =
    subst (λ (q : ℕ). Allows (Kept room) slots id me 0 (λ _. q + 1) (λ _. Lengthened (step slots 0 (q + 1) 0 none) me (q + 1))) (sym is) (lengthens room slots id me x does some_room below stored whole rising)

pub last_height_snoc : (xs : List Stamp) (x : Stamp) → last_height (xs ++ x ∷ []) ≡ x.height
last_height_snoc [] x = refl
last_height_snoc (y ∷ []) x = refl
last_height_snoc (y ∷ z ∷ ys) x = last_height_snoc (z ∷ ys) x

pub rises_snoc : (xs : List Stamp) (x : Stamp) → HeightsRise xs → x.height ≡ last_height xs + 1 → HeightsRise (xs ++ x ∷ [])
rises_snoc [] x rises next = tt
rises_snoc (s ∷ []) x rises next = (next, tt)
rises_snoc (s ∷ t ∷ xs) x rises next = (rises.0, rises_snoc (t ∷ xs) x rises.1 next)
