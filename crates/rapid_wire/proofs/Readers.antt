-- Readers that give exactly what is spelt, and how they are put together.
use Rattle.std.proofs.Common.{◌≡◌, ℕ, zero, suc, ◌^◌, ◌<◌, ◌≤◌, Bool, true, false, cond, ltb, List, [], ◌∷◌, ◌++◌, length, get_or, take, drop, Option, Some, None, refl, sym, ap, subst, ◌∙◌, append_assoc, arith, inl, inr}
use Rattle.std.specs.Prelude.{All, map}
use Rattle.std.specs.List.{concat, AllByRecursion}
use Rattle.std.specs.Int.{w16, to_be_bytes, from_be_bytes}
use Rattle.std.proofs.lemmas.Bool.{cases_lt, ltb-false, le-ltb}
use Rattle.std.proofs.lemmas.Nat.{be_bytes_2, from_be_bytes-to_be_bytes_2}
use Rattle.std.proofs.lemmas.List.{take_at, drop_at, take-append-drop, length-append, length-take-le, get_or_past}
use Rattle.std.proofs.lemmas.List.Elements.{All-take, All-drop, All-head, All-from_recursion, recursion_from_All}
use Rattle.std.proofs.Math.Seq.{take-append_seam, drop-append_seam}
use Rattle.rapid_wire.specs.Reading.{Reader, ◌>>=◌, both, made, only, many, counted, byte_at, front_at, number_at}

-- numbers that are bytes
abbrev pub AreBytes : List ℕ → Type 0
AreBytes bytes = All (λ b. b < 256) bytes

-- what is read is spelt so, and follows the rule
abbrev pub Takes : {A : Type 0} → (A → Type 0) → (A → List ℕ) → Reader A → Type 0
Takes {A} P spell read = (bytes : List ℕ) (x : A × List ℕ) → AreBytes bytes → read bytes ≡ Some x → P x.0 × (bytes ≡ spell x.0 ++ x.1)

-- what is spelt so is read again, whatever follows it
abbrev pub Again : {A : Type 0} → (A → Type 0) → (A → List ℕ) → Reader A → Type 0
Again {A} P spell read = (x : A) (rest : List ℕ) → P x → read (spell x ++ rest) ≡ Some (x, rest)

abbrev pub Reads : {A : Type 0} → (A → Type 0) → (A → List ℕ) → Reader A → Type 0
Reads P spell read = Takes P spell read × Again P spell read

-- ---- steps

pub bind_some : {A B : Type 0} (r : Option A) (f : A → Option B) (y : B) → (r >>= f) ≡ Some y → (x : A) × (r ≡ Some x) × (f x ≡ Some y)
bind_some None f y e = absurd cc
bind_some (Some x) f y e = (x, refl, e)

abbrev done : {A : Type 0} → A → Option A
done x = Some x

pub some_is : {A : Type 0} (x y : A) → done x ≡ done y → x ≡ y
some_is x y e = cc

pub if_some : {A : Type 0} (b : Bool) (x y : A) → cond b (Some x) None ≡ Some y → (b ≡ true) × (x ≡ y)
if_some true x y e = (refl, cc)
if_some false x y e = absurd cc

pub unless_some : {A : Type 0} (b : Bool) (x y : A) → cond b None (Some x) ≡ Some y → (b ≡ false) × (x ≡ y)
unless_some true x y e = absurd cc
unless_some false x y e = (refl, cc)

pub rest_bytes : (bytes text rest : List ℕ) → AreBytes bytes → bytes ≡ text ++ rest → AreBytes rest
rest_bytes bytes text rest h e =
    subst AreBytes (drop-append_seam text rest) (All-drop (λ b. b < 256) (length text) (text ++ rest) (subst AreBytes e h))

pub front_bytes : (bytes text rest : List ℕ) → AreBytes bytes → bytes ≡ text ++ rest → AreBytes text
front_bytes bytes text rest h e =
    subst AreBytes (take-append_seam text rest) (All-take (λ b. b < 256) (length text) (text ++ rest) (subst AreBytes e h))

pub bounded : (l : List ℕ) → AreBytes l → (i : ℕ) → get_or l i 0 < 256
bounded l h i =
    elim (cases_lt i (length l)) [
      | inl within ↦ h i 0 within
      | inr out ↦ (let e = get_or_past l i 0 out in omega (arith, e))
    ]

-- ---- put together

pub reads_both : {A B : Type 0} (P : A → Type 0) (Q : B → Type 0) (f : A → List ℕ) (g : B → List ℕ) (r : Reader A) (s : Reader B) → Reads P f r → Reads Q g s →
    Reads (λ p. P p.0 × Q p.1) (λ p. f p.0 ++ g p.1) (both r s)
reads_both {A} {B} P Q f g r s h k = (takes, again)
  where
    takes : Takes (λ p. P p.0 × Q p.1) (λ p. f p.0 ++ g p.1) (both r s)
    takes bytes x b e =
        let one = bind_some (r bytes) (λ u. s u.1 >>= λ v. Some ((u.0, v.0), v.1)) x e in
        let two = bind_some (s one.0.1) (λ v. Some ((one.0.0, v.0), v.1)) x one.2 in
        let t = h.0 bytes one.0 b one.1 in
        let u = k.0 one.0.1 two.0 (rest_bytes bytes (f one.0.0) one.0.1 b t.1) two.1 in
        let whole : (A × B) × List ℕ = ((one.0.0, two.0.0), two.0.1) in
        subst (λ (z : (A × B) × List ℕ). (P z.0.0 × Q z.0.1) × (bytes ≡ (f z.0.0 ++ g z.0.1) ++ z.1)) (some_is whole x two.2)
        ((t.0, u.0), t.1 ∙ ap (λ l. f one.0.0 ++ l) u.1 ∙ sym (append_assoc (f one.0.0) (g two.0.0) two.0.1))

    again : Again (λ p. P p.0 × Q p.1) (λ p. f p.0 ++ g p.1) (both r s)
    again x rest p =
        ap (both r s) (append_assoc (f x.0) (g x.1) rest)
        ∙ ap (λ o. o >>= λ u. s u.1 >>= λ v. Some ((u.0, v.0), v.1)) (h.1 x.0 (g x.1 ++ rest) p.0)
        ∙ ap (λ o. o >>= λ v. Some ((x.0, v.0), v.1)) (k.1 x.1 rest p.1)

pub reads_made : {A B : Type 0} (P : A → Type 0) (f : A → List ℕ) (r : Reader A) (to : A → B) (from : B → A) → ((a : A) → from (to a) ≡ a) → ((b : B) → to (from b) ≡ b) →
    Reads P f r → Reads (λ b. P (from b)) (λ b. f (from b)) (made to r)
reads_made {A} {B} P f r to from forth back h = (takes, again)
  where
    takes : Takes (λ b. P (from b)) (λ b. f (from b)) (made to r)
    takes bytes x b e =
        let one = bind_some (r bytes) (λ u. Some (to u.0, u.1)) x e in
        let t = h.0 bytes one.0 b one.1 in
        let whole : B × List ℕ = (to one.0.0, one.0.1) in
        subst (λ (z : B × List ℕ). P (from z.0) × (bytes ≡ f (from z.0) ++ z.1)) (some_is whole x one.2)
        (subst (λ (a : A). P a × (bytes ≡ f a ++ one.0.1)) (sym (forth one.0.0)) t)

    again : Again (λ b. P (from b)) (λ b. f (from b)) (made to r)
    again b rest p = ap (λ o. o >>= λ u. Some (to u.0, u.1)) (h.1 (from b) rest p) ∙ ap (λ c. Some (c, rest)) (back b)

pub reads_only : {A : Type 0} (P Q : A → Type 0) (f : A → List ℕ) (test : A → Bool) (r : Reader A) → ((x : A) → P x → test x ≡ true → Q x) → ((x : A) → Q x → P x × (test x ≡ true)) →
    Reads P f r → Reads Q f (only test r)
reads_only {A} P Q f test r pass holds h = (takes, again)
  where
    takes : Takes Q f (only test r)
    takes bytes x b e =
        let one = bind_some (r bytes) (λ u. cond (test u.0) (Some u) None) x e in
        let t = h.0 bytes one.0 b one.1 in
        let passed = if_some (test one.0.0) one.0 x one.2 in
        subst (λ (z : A × List ℕ). Q z.0 × (bytes ≡ f z.0 ++ z.1)) passed.1 (pass one.0.0 t.0 passed.0, t.1)

    again : Again Q f (only test r)
    again x rest q =
        ap (λ o. o >>= λ u. cond (test u.0) (Some u) None) (h.1 x rest (holds x q).0)
        ∙ ap (λ b. cond b (Some (x, rest)) None) (holds x q).1

-- the same under another rule and another spelling
pub reads_as : {A : Type 0} (P Q : A → Type 0) (f g : A → List ℕ) (r : Reader A) → ((x : A) → P x → Q x) → ((x : A) → Q x → P x) → ((x : A) → f x ≡ g x) → Reads P f r → Reads Q g r
reads_as {A} P Q f g r to from same h = (takes, again)
  where
    takes : Takes Q g r
    takes bytes x b e = let t = h.0 bytes x b e in (to x.0 t.0, t.1 ∙ ap (λ l. l ++ x.1) (same x.0))

    again : Again Q g r
    again x rest q = ap (λ l. r (l ++ rest)) (sym (same x)) ∙ h.1 x rest (from x q)

-- many values
many_takes : {A : Type 0} (P : A → Type 0) (f : A → List ℕ) (r : Reader A) → Takes P f r → (n : ℕ) (bytes : List ℕ) (xs : List A × List ℕ) → AreBytes bytes → many n r bytes ≡ Some xs →
    AllByRecursion P xs.0 × (length xs.0 ≡ n) × (bytes ≡ concat (map f xs.0) ++ xs.1)
unfolding many
many_takes {A} P f r h zero bytes xs b e =
    let whole : List A × List ℕ = ([], bytes) in
    subst (λ (z : List A × List ℕ). AllByRecursion P z.0 × (length z.0 ≡ 0) × (bytes ≡ concat (map f z.0) ++ z.1)) (some_is whole xs e) (tt, refl, refl)
many_takes {A} P f r h (suc n) bytes xs b e =
    let one = bind_some (r bytes) (λ x. many n r x.1 >>= λ y. Some (x.0 ∷ y.0, y.1)) xs e in
    let two = bind_some (many n r one.0.1) (λ y. Some (one.0.0 ∷ y.0, y.1)) xs one.2 in
    let t = h bytes one.0 b one.1 in
    let u = many_takes P f r h n one.0.1 two.0 (rest_bytes bytes (f one.0.0) one.0.1 b t.1) two.1 in
    let whole : List A × List ℕ = (one.0.0 ∷ two.0.0, two.0.1) in
    subst (λ (z : List A × List ℕ). AllByRecursion P z.0 × (length z.0 ≡ suc n) × (bytes ≡ concat (map f z.0) ++ z.1)) (some_is whole xs two.2)
    ((t.0, u.0), ap suc u.1, t.1 ∙ ap (λ l. f one.0.0 ++ l) u.2 ∙ sym (append_assoc (f one.0.0) (concat (map f two.0.0)) two.0.1))

many_again : {A : Type 0} (P : A → Type 0) (f : A → List ℕ) (r : Reader A) → Again P f r → (xs : List A) (rest : List ℕ) → AllByRecursion P xs →
    many (length xs) r (concat (map f xs) ++ rest) ≡ Some (xs, rest)
unfolding many
many_again P f r h [] rest p = refl
many_again P f r h (x ∷ xs) rest p =
    ap (many (suc (length xs)) r) (append_assoc (f x) (concat (map f xs)) rest)
    ∙ ap (λ o. o >>= λ u. many (length xs) r u.1 >>= λ y. Some (u.0 ∷ y.0, y.1)) (h x (concat (map f xs) ++ rest) p.0)
    ∙ ap (λ o. o >>= λ y. Some (x ∷ y.0, y.1)) (many_again P f r h xs rest p.1)

pub reads_counted : {A : Type 0} (P : A → Type 0) (f : A → List ℕ) (r : Reader A) (N : ℕ → Type 0) (enc : ℕ → List ℕ) (count : Reader ℕ) → Reads N enc count → Reads P f r →
    Reads (λ xs. All P xs × N (length xs)) (λ xs. enc (length xs) ++ concat (map f xs)) (counted count r)
reads_counted {A} P f r N enc count k h = (takes, again)
  where
    takes : Takes (λ xs. All P xs × N (length xs)) (λ xs. enc (length xs) ++ concat (map f xs)) (counted count r)
    takes bytes xs b e =
        let one = bind_some (count bytes) (λ n. many n.0 r n.1) xs e in
        let t = k.0 bytes one.0 b one.1 in
        let u = many_takes P f r h.0 one.0.0 one.0.1 xs (rest_bytes bytes (enc one.0.0) one.0.1 b t.1) one.2 in (
          (All-from_recursion P xs.0 u.0, subst N (sym u.1) t.0),
          t.1 ∙ ap (λ l. enc one.0.0 ++ l) u.2 ∙ sym (append_assoc (enc one.0.0) (concat (map f xs.0)) xs.1)
              ∙ ap (λ n. (enc n ++ concat (map f xs.0)) ++ xs.1) (sym u.1),
        )

    again : Again (λ xs. All P xs × N (length xs)) (λ xs. enc (length xs) ++ concat (map f xs)) (counted count r)
    again xs rest p =
        ap (counted count r) (append_assoc (enc (length xs)) (concat (map f xs)) rest)
        ∙ ap (λ o. o >>= λ n. many n.0 r n.1) (k.1 (length xs) (concat (map f xs) ++ rest) p.1)
        ∙ many_again P f r h.1 xs rest (recursion_from_All P xs p.0)

-- ---- the first pieces

pub reads_byte : Reads (λ b. b < 256) (λ b. b ∷ []) byte_at
unfolding byte_at
reads_byte = (takes, λ x rest p. refl)
  where
    takes : Takes (λ b. b < 256) (λ b. b ∷ []) byte_at
    takes [] x b e = absurd cc
    takes (y ∷ ys) x b e =
        let whole : ℕ × List ℕ = (y, ys) in
        subst (λ (z : ℕ × List ℕ). (z.0 < 256) × (y ∷ ys ≡ (z.0 ∷ []) ++ z.1)) (some_is whole x e) (All-head (λ b. b < 256) y ys b, refl)

pub reads_front : (n : ℕ) → Reads (λ p. (length p ≡ n) × AreBytes p) (λ p. p) (front_at n)
reads_front n = (takes, again)
  where
    takes : Takes (λ p. (length p ≡ n) × AreBytes p) (λ p. p) (front_at n)
    takes bytes x b e =
        let whole : List ℕ × List ℕ = (take n bytes, drop n bytes) in
        let passed = unless_some (ltb (length bytes) n) whole x e in
        let long : n ≤ length bytes = ltb-false (length bytes) n passed.0 in
        subst (λ (z : List ℕ × List ℕ). ((length z.0 ≡ n) × AreBytes z.0) × (bytes ≡ z.0 ++ z.1)) passed.1
        ((length-take-le n bytes long, All-take (λ b. b < 256) n bytes b), sym (take-append-drop n bytes))

    again : Again (λ p. (length p ≡ n) × AreBytes p) (λ p. p) (front_at n)
    again p rest h =
        let long : ltb (length (p ++ rest)) n ≡ false = le-ltb (length (p ++ rest)) n (omega (arith, length-append p rest, h.0)) in
        rw (long, take_at p rest n h.0, drop_at p rest n h.0) refl

two_bytes : (n : ℕ) → AreBytes (to_be_bytes w16 n)
two_bytes n = All-from_recursion (λ b. b < 256) (to_be_bytes w16 n) (omega arith, (omega arith, tt))

pub reads_number : Reads (λ n. n < 2 ^ 16) (to_be_bytes w16) number_at
unfolding number_at
reads_number = (takes, again)
  where
    takes : Takes (λ n. n < 2 ^ 16) (to_be_bytes w16) number_at
    takes bytes x b e =
        let one = bind_some (front_at 2 bytes) (λ u. Some (from_be_bytes w16 u.0, u.1)) x e in
        let t = (reads_front 2).0 bytes one.0 b one.1 in
        let fits = bounded one.0.0 t.0.1 in
        let spelt : to_be_bytes w16 (from_be_bytes w16 one.0.0) ≡ one.0.0 = be_bytes_2 one.0.0 _ t.0.0 fits refl in
        let whole : ℕ × List ℕ = (from_be_bytes w16 one.0.0, one.0.1) in
        subst (λ (z : ℕ × List ℕ). (z.0 < 2 ^ 16) × (bytes ≡ to_be_bytes w16 z.0 ++ z.1)) (some_is whole x one.2)
        (omega (arith, fits 0, fits 1), t.1 ∙ ap (λ l. l ++ one.0.1) (sym spelt))

    again : Again (λ n. n < 2 ^ 16) (to_be_bytes w16) number_at
    again n rest h =
        ap (λ o. o >>= λ u. Some (from_be_bytes w16 u.0, u.1)) ((reads_front 2).1 (to_be_bytes w16 n) rest (refl, two_bytes n))
        ∙ ap (λ k. Some (k, rest)) (from_be_bytes-to_be_bytes_2 n h)
