-- Lists of masks, and what a change of one entry makes of them.
use Rattle.std.proofs.Common.{◌≡◌, ℕ, zero, suc, ◌+◌, ◌<◌, Bool, true, false, cond, List, [], ◌∷◌, ◌++◌, length, take, set, get_or, Option, Some, None, is_some, refl, sym, ap, subst, ◌∙◌, arith}
use Rattle.std.proofs.lemmas.List.{take_more, append-nil}
use Rattle.rapid_model.specs.Process.{Process, same_bytes}
use Rattle.rapid_model.proofs.Orders.{same_bytes_decides}
use Rattle.rapid_cut.specs.declared.mask.Masks.{Masks}
use Rattle.rapid_cut.specs.Listed.{masks_at, StandsAt, PutsMasks}
use Rattle.rapid_model.proofs.Among.{same_turned}

-- the masks of the first list, or those of the second
abbrev pub first_of : Option Masks → Option Masks → Option Masks
first_of None o = o
first_of (Some m) o = Some m

pub beside : (xs ys : List (Process × Masks)) (q : Process) → masks_at (xs ++ ys) q ≡ first_of (masks_at xs q) (masks_at ys q)
beside [] ys q = refl
beside (x ∷ xs) ys q =
    ap (λ o. cond (same_bytes q x.0) (Some x.1) o) (beside xs ys q) ∙ inside (same_bytes q x.0)
  where
    inside : (b : Bool) → cond b (Some x.1) (first_of (masks_at xs q) (masks_at ys q)) ≡ first_of (cond b (Some x.1) (masks_at xs q)) (masks_at ys q)
    inside true = refl
    inside false = refl

-- what is at a place of the list, whatever stands for none
any_at : (es : List (Process × Masks)) (i : ℕ) (d e : Process × Masks) → i < length es → get_or es i d ≡ get_or es i e
any_at [] i d e l = absurd (omega (arith, l))
any_at (x ∷ es) zero d e l = refl
any_at (x ∷ es) (suc i) d e l = any_at es i d e (omega (arith, l))

pub own_at : (es : List (Process × Masks)) (s : Process) (i : ℕ) (r : Process × Masks) → i < length es → same_bytes s (get_or es i r).0 ≡ true → (d : Process × Masks) → (get_or es i d).0 ≡ s
own_at es s i r l h d = ap (λ (x : Process × Masks). x.0) (any_at es i d r l) ∙ sym ((same_bytes_decides s (get_or es i r).0).0 h)

-- an entry of another process adds nothing
pub none_more : (es : List (Process × Masks)) (s : Process) (i : ℕ) (r : Process × Masks) → i < length es → masks_at (take i es) s ≡ None → same_bytes s (get_or es i r).0 ≡ false → masks_at (take (i + 1) es) s ≡ None
none_more es s i r l none h =
    ap (λ xs. masks_at xs s) (take_more es i r l) ∙ beside (take i es) (get_or es i r ∷ []) s ∙ ap (λ o. first_of o (masks_at (get_or es i r ∷ []) s)) none
    ∙ ap (λ b. cond b (Some (get_or es i r).1) None) h

-- what a skipped entry says
skipped : (b : Bool) (m : Masks) (o : Option Masks) → cond b (Some m) o ≡ None → (b ≡ false) × (o ≡ None)
skipped true m o h = cc
skipped false m o h = (refl, h)

found_from : (es : List (Process × Masks)) (s : Process) (place : ℕ) (d : Process × Masks) → place < length es → (get_or es place d).0 ≡ s → masks_at (take place es) s ≡ None → masks_at es s ≡ Some (get_or es place d).1
found_from [] s place d l k f = absurd (omega (arith, l))
found_from (e ∷ es) s zero d l k f = ap (λ b. cond b (Some e.1) (masks_at es s)) ((same_bytes_decides s e.0).1 (sym k))
found_from (e ∷ es) s (suc place) d l k f =
    let o = skipped (same_bytes s e.0) e.1 (masks_at (take place es) s) f in
    ap (λ b. cond b (Some e.1) (masks_at es s)) o.0 ∙ found_from es s place d (omega (arith, l)) k o.1

pub set_from : (es : List (Process × Masks)) (s : Process) (place : ℕ) (d : Process × Masks) (m : Masks) → place < length es → (get_or es place d).0 ≡ s → masks_at (take place es) s ≡ None
    → (q : Process) → masks_at (set es place ((get_or es place d).0, m)) q ≡ cond (same_bytes s q) (Some m) (masks_at es q)
set_from [] s place d m l k f q = absurd (omega (arith, l))
set_from (e ∷ es) s zero d m l k f q =
    here (same_bytes q e.0) (same_bytes s q) (same_turned q e.0 ∙ ap (λ p. same_bytes p q) k)
  where
    here : (a b : Bool) → a ≡ b → cond a (Some m) (masks_at es q) ≡ cond b (Some m) (cond a (Some e.1) (masks_at es q))
    here true true h = refl
    here false false h = refl
    here true false h = cc
    here false true h = cc
set_from (e ∷ es) s (suc place) d m l k f q =
    let o = skipped (same_bytes s e.0) e.1 (masks_at (take place es) s) f in
    ap (λ r. cond (same_bytes q e.0) (Some e.1) r) (set_from es s place d m (omega (arith, l)) k o.1 q)
    ∙ there (same_bytes q e.0) (same_bytes s q) (λ h. ap (λ p. same_bytes p e.0) (sym ((same_bytes_decides s q).0 h)) ∙ o.0)
  where
    there : (a b : Bool) → (b ≡ true → a ≡ false) → cond a (Some e.1) (cond b (Some m) (masks_at es q)) ≡ cond b (Some m) (cond a (Some e.1) (masks_at es q))
    there true true h = (let no : true ≡ false = h refl in cc)
    there true false h = refl
    there false true h = refl
    there false false h = refl

module _ (es : List (Process × Masks)) (s : Process) where
  -- the masks there are those of the process
  pub found_at : (place : ℕ) (d : Process × Masks) → StandsAt es s place → masks_at es s ≡ Some (get_or es place d).1
  found_at place d h = found_from es s place d h.within (h.own d) h.first

  -- other masks there are other masks for the process, whatever stands behind the list
  pub set_at : (place : ℕ) (d : Process × Masks) (m : Masks) (ys : List (Process × Masks)) → StandsAt es s place
      → (q : Process) → masks_at (set es place ((get_or es place d).0, m) ++ ys) q ≡ cond (same_bytes s q) (Some m) (masks_at (es ++ ys) q)
  set_at place d m ys h q =
      beside (set es place ((get_or es place d).0, m)) ys q ∙ ap (λ o. first_of o (masks_at ys q)) (set_from es s place d m h.within (h.own d) h.first q)
      ∙ inside (same_bytes s q) ∙ ap (λ o. cond (same_bytes s q) (Some m) o) (sym (beside es ys q))
    where
      inside : (b : Bool) → first_of (cond b (Some m) (masks_at es q)) (masks_at ys q) ≡ cond b (Some m) (first_of (masks_at es q) (masks_at ys q))
      inside true = refl
      inside false = refl

  -- if the process has none in the list, masks behind it are its masks
  pub behind : (m : Masks) (ys ns : List (Process × Masks)) → masks_at es s ≡ None → ((q : Process) → masks_at ns q ≡ cond (same_bytes s q) (Some m) (masks_at ys q))
      → (q : Process) → masks_at (es ++ ns) q ≡ cond (same_bytes s q) (Some m) (masks_at (es ++ ys) q)
  behind m ys ns none at q =
      beside es ns q ∙ ap (λ o. first_of (masks_at es q) o) (at q)
      ∙ inside (masks_at es q) (same_bytes s q) (λ h. ap (masks_at es) (sym ((same_bytes_decides s q).0 h)) ∙ none)
      ∙ ap (λ o. cond (same_bytes s q) (Some m) o) (sym (beside es ys q))
    where
      inside : (o : Option Masks) (b : Bool) → (b ≡ true → o ≡ None) → first_of o (cond b (Some m) (masks_at ys q)) ≡ cond b (Some m) (first_of o (masks_at ys q))
      inside None b h = refl
      inside (Some n) false h = refl
      inside (Some n) true h = (let no : Some n ≡ None = h refl in cc)

  one_more : (m : Masks) (ys : List (Process × Masks)) (q : Process) → masks_at ((s, m) ∷ ys) q ≡ cond (same_bytes s q) (Some m) (masks_at ys q)
  one_more m ys q = ap (λ b. cond b (Some m) (masks_at ys q)) (same_turned q s)

  pub pushed : (m : Masks) (ys : List (Process × Masks)) → masks_at es s ≡ None → (q : Process) → masks_at (es ++ (s, m) ∷ ys) q ≡ cond (same_bytes s q) (Some m) (masks_at (es ++ ys) q)
  pushed m ys none = behind m ys ((s, m) ∷ ys) none (one_more m ys)

  -- an entry more of a process that has one counts for nothing
  pub repeated : (m : Masks) → is_some (masks_at es s) ≡ true → (q : Process) → masks_at (es ++ (s, m) ∷ []) q ≡ masks_at es q
  repeated m there q =
      beside es ((s, m) ∷ []) q ∙ ap (λ o. first_of (masks_at es q) o) (one_more m [] q)
      ∙ inside (masks_at es q) (same_bytes s q) (λ h. ap (λ p. is_some (masks_at es p)) (sym ((same_bytes_decides s q).0 h)) ∙ there)
    where
      inside : (o : Option Masks) (b : Bool) → (b ≡ true → is_some o ≡ true) → first_of o (cond b (Some m) None) ≡ o
      inside (Some n) b h = refl
      inside None false h = refl
      inside None true h = (let no : false ≡ true = h refl in cc)

  pub pushed_last : (m : Masks) → masks_at es s ≡ None → (q : Process) → masks_at (es ++ (s, m) ∷ []) q ≡ cond (same_bytes s q) (Some m) (masks_at es q)
  pushed_last m none q = pushed m [] none q ∙ ap (λ l. cond (same_bytes s q) (Some m) (masks_at l q)) (append-nil es)

  pub pushed_before : (m : Masks) (ys : List (Process × Masks)) → masks_at es s ≡ None → (q : Process) → masks_at ((es ++ (s, m) ∷ []) ++ ys) q ≡ cond (same_bytes s q) (Some m) (masks_at (es ++ ys) q)
  pushed_before m ys none q =
      beside (es ++ (s, m) ∷ []) ys q ∙ ap (λ o. first_of o (masks_at ys q)) (pushed_last m none q)
      ∙ inside (same_bytes s q) ∙ ap (λ o. cond (same_bytes s q) (Some m) o) (sym (beside es ys q))
    where
      inside : (b : Bool) → first_of (cond b (Some m) (masks_at es q)) (masks_at ys q) ≡ cond b (Some m) (first_of (masks_at es q) (masks_at ys q))
      inside true = refl
      inside false = refl

  -- if the process has none in the list, those behind it count
  pub past : (ys : List (Process × Masks)) → masks_at es s ≡ None → masks_at (es ++ ys) s ≡ masks_at ys s
  past ys none = beside es ys s ∙ ap (λ o. first_of o (masks_at ys s)) none

  pub in_front : (place : ℕ) (d : Process × Masks) (ys : List (Process × Masks)) → StandsAt es s place → masks_at (es ++ ys) s ≡ Some (get_or es place d).1
  in_front place d ys h = beside es ys s ∙ ap (λ o. first_of o (masks_at ys s)) (found_at place d h)

pub is_none : (o : Option Masks) → is_some o ≡ false → o ≡ None
is_none None h = refl
is_none (Some m) h = cc

-- a map with the masks of the first entries, and with those of one more
module _ (es : List (Process × Masks)) (i : ℕ) (x : Process × Masks) (l : i < length es) (is : x ≡ get_or es i x) (ms : List (Process × Masks)) (so_far : (q : Process) → masks_at ms q ≡ masks_at (take i es) q) where
  one_longer : (q : Process) → masks_at (take (i + 1) es) q ≡ masks_at (take i es ++ x ∷ []) q
  one_longer q = ap (λ xs. masks_at xs q) (take_more es i x l ∙ ap (λ y. take i es ++ y ∷ []) (sym is))

  pub map_more : (ns : List (Process × Masks)) → is_some (masks_at ms x.0) ≡ false → ((q : Process) → masks_at ns q ≡ cond (same_bytes x.0 q) (Some x.1) (masks_at ms q)) → (q : Process) → masks_at ns q ≡ masks_at (take (i + 1) es) q
  map_more ns new at q =
      at q ∙ ap (λ o. cond (same_bytes x.0 q) (Some x.1) o) (so_far q)
      ∙ sym (pushed_last (take i es) x.0 x.1 (sym (so_far x.0) ∙ is_none (masks_at ms x.0) new) q) ∙ sym (one_longer q)

  pub map_same : is_some (masks_at ms x.0) ≡ true → (q : Process) → masks_at ms q ≡ masks_at (take (i + 1) es) q
  map_same there q = so_far q ∙ sym (repeated (take i es) x.0 x.1 (ap is_some (sym (so_far x.0)) ∙ there) q) ∙ sym (one_longer q)

-- ---- masks that are put

-- at the place of the process
pub put_at : (es ys : List (Process × Masks)) (s : Process) (place : ℕ) (x : Process × Masks) (m : Masks) → x ≡ get_or es place x → StandsAt es s place → PutsMasks s m (es ++ ys) (set es place (x.0, m) ++ ys)
put_at es ys s place x m is stands q = ap (λ (y : Process × Masks). masks_at (set es place (y.0, m) ++ ys) q) is ∙ set_at es s place x m ys stands q

-- at the end of the list
pub put_last : (es ys ns : List (Process × Masks)) (s kept : Process) (m : Masks) → kept ≡ s → ns ≡ es ++ (kept, m) ∷ [] → masks_at es s ≡ None → PutsMasks s m (es ++ ys) (ns ++ ys)
put_last es ys ns s kept m same is none q =
    ap (λ xs. masks_at (xs ++ ys) q) (is ∙ ap (λ (p : Process). es ++ (p, m) ∷ []) same) ∙ pushed_before es s m ys none q

-- in what took over both lists, behind which there was nothing
pub moved : (es fs ms cleared others ns : List (Process × Masks)) (s : Process) (m : Masks) → ms ≡ [] → cleared ≡ [] → others ≡ [] → PutsMasks s m (es ++ fs) ns → PutsMasks s m (es ++ (fs ++ ms)) (cleared ++ (others ++ ns))
moved es fs ms cleared others ns s m no_more first second put =
    subst (λ xs. PutsMasks s m xs (cleared ++ (others ++ ns))) (ap (λ l. es ++ l) (sym (append-nil fs) ∙ ap (λ l. fs ++ l) (sym no_more)))
    (subst (λ ys. PutsMasks s m (es ++ fs) ys) (sym (λ i. first i ++ (second i ++ ns))) put)
