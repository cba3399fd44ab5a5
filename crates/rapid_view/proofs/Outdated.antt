-- A view that is kept while later ones are published.
use Rattle.std.proofs.Common.{◌≡◌, ◌≢◌, ◌∙◌, suc, ◌<◌, ◌≤◌, List, [], ◌∷◌, ◌++◌, length, refl, sym, ap, subst, arith, append_assoc, append-nil}
use Rattle.std.specs.Prelude.{◌-◌, slice_get, Some}
use Rattle.rapid_model.specs.Configuration.{Stamp}
use Rattle.rapid_model.specs.PublishedList.{HeightsRise, IsBeginning}
use Rattle.rapid_view.specs.Seen.{WasSeen, last_height}
use Rattle.rapid_view.proofs.Beginnings.{begins_longer}

-- ---- the last stamp

abbrev IsLast : List Stamp → Stamp → Type 0
IsLast seen s = slice_get seen (length seen - 1) ≡ Some s

last_later : (x y : Stamp) (ys : List Stamp) (s : Stamp) → IsLast (x ∷ y ∷ ys) s → IsLast (y ∷ ys) s
last_later x y ys s is =
    let next : length (x ∷ y ∷ ys) - 1 ≡ suc (length (y ∷ ys) - 1) = omega arith in
    subst (λ n. slice_get (x ∷ y ∷ ys) n ≡ Some s) next is

last_sooner : (x y : Stamp) (ys : List Stamp) (s : Stamp) → IsLast (y ∷ ys) s → IsLast (x ∷ y ∷ ys) s
last_sooner x y ys s is =
    let next : length (x ∷ y ∷ ys) - 1 ≡ suc (length (y ∷ ys) - 1) = omega arith in
    subst (λ n. slice_get (x ∷ y ∷ ys) n ≡ Some s) (sym next) is

ends_in : (before : List Stamp) (s : Stamp) → IsLast (before ++ s ∷ []) s
ends_in [] s = refl
ends_in (b ∷ []) s = last_sooner b s [] s refl
ends_in (b ∷ c ∷ before) s = last_sooner b c (before ++ s ∷ []) s (ends_in (c ∷ before) s)

last_is : (seen : List Stamp) (s : Stamp) → IsLast seen s → last_height seen ≡ s.height
last_is [] s is = cc
last_is (x ∷ []) s is = let same : x ≡ s = cc in ap (λ (y : Stamp). y.height) same
last_is (x ∷ y ∷ ys) s is = last_is (y ∷ ys) s (last_later x y ys s is)

-- ---- what was seen

pub still_seen : (seen more : List Stamp) (s : Stamp) → WasSeen seen s → IsBeginning seen more → WasSeen more s
still_seen seen more s was later = (was.0, begins_longer (was.0 ++ s ∷ []) seen more was.1 later)

pub last_was_seen : (seen : List Stamp) (s : Stamp) → IsLast seen s → WasSeen seen s
last_was_seen [] s is = cc
last_was_seen (x ∷ []) s is = let same : x ≡ s = cc in ([], ([], ap (λ (y : Stamp). y ∷ []) same))
last_was_seen (x ∷ y ∷ ys) s is =
    let was = last_was_seen (y ∷ ys) s (last_later x y ys s is) in
    (x ∷ was.0, (was.1.0, ap (λ (l : List Stamp). x ∷ l) was.1.1))

-- ---- what came later

rises_from : (s : Stamp) (rest : List Stamp) → HeightsRise (s ∷ rest) → s.height ≤ last_height (s ∷ rest)
rises_from s [] rises = omega arith
rises_from s (r ∷ rest) rises = let above = rises_from r rest rises.1 in omega (arith, rises.0, above)

rises_above : (before : List Stamp) (s r : Stamp) (rest : List Stamp) → HeightsRise (before ++ s ∷ r ∷ rest) → s.height < last_height (before ++ s ∷ r ∷ rest)
rises_above [] s r rest rises = let above = rises_from r rest rises.1 in omega (arith, rises.0, above)
rises_above (b ∷ []) s r rest rises = rises_above [] s r rest rises.1
rises_above (b ∷ c ∷ before) s r rest rises = rises_above (c ∷ before) s r rest rises.1

-- A stamp that was seen, and was not the last one then, is not the last one later.
pub not_last_later : (met now : List Stamp) (s : Stamp) → WasSeen met s → IsBeginning met now → HeightsRise now → slice_get met (length met - 1) ≢ Some s → slice_get now (length now - 1) ≢ Some s
not_last_later met now s was later rises other is = by was.1.0 was.1.1
  where
    by : (more : List Stamp) → met ≡ (was.0 ++ s ∷ []) ++ more → ⊥
    by [] e = other (subst (λ l. IsLast l s) (sym (e ∙ append-nil (was.0 ++ s ∷ []))) (ends_in was.0 s))
    by (r ∷ rest) e =
        let whole : now ≡ was.0 ++ s ∷ r ∷ (rest ++ later.0) =
        later.1 ∙ ap (λ l. l ++ later.0) (e ∙ append_assoc was.0 (s ∷ []) (r ∷ rest)) ∙ append_assoc was.0 (s ∷ r ∷ rest) later.0 in
        let above : s.height < last_height now = subst (λ l. s.height < last_height l) (sym whole) (rises_above was.0 s r (rest ++ later.0) (subst HeightsRise whole rises)) in
        let same : last_height now ≡ s.height = last_is now s is in
        omega (arith, above, same)

-- The same, if another stamp was the last one then.
pub outdated : (seen met now : List Stamp) (s found : Stamp) → WasSeen seen s → IsBeginning seen met → IsLast met found → s ≢ found → IsBeginning met now → HeightsRise now → slice_get now (length now - 1) ≢ Some s
outdated seen met now s found was early last differ later rises =
    not_last_later met now s (still_seen seen met s was early) later rises (λ is. let same : s ≡ found = cc in differ same)
