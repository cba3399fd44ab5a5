-- Truth values, orderings and options, by cases.
use Rattle.std.proofs.Common.{◌≡◌, ◌≤◌, Bool, true, false, cond, not, ◌&&◌, ◌||◌, refl, sym, ◌∙◌, Option, Some, None, arith}
use Rattle.std.specs.declared.cmp.Ordering.{Ordering}
use Rattle.std.specs.declared.cmp.Ordering.TheVariants.{Less, Equal, Greater}
use Rattle.std.specs.Ordering.{is_lt, is_eq, ordering_reverse}

-- ---- truth values

pub and_is : (a b : Bool) → (b ≡ true → a ≡ true) → (a && b) ≡ b
and_is true b h = refl
and_is false true h = h refl
and_is false false h = refl

pub or_swap : (a b c : Bool) → (a || (b || c)) ≡ (b || (a || c))
or_swap true true c = refl
or_swap true false c = refl
or_swap false b c = refl

pub or_twice : (a r : Bool) → (a || r) ≡ (a || (a || r))
or_twice true r = refl
or_twice false r = refl

pub if_false : (b c : Bool) → cond b false c ≡ (not b && c)
if_false true c = refl
if_false false c = refl

pub not_both : {A : Type 0} (b : Bool) → b ≡ true → b ≡ false → A
not_both b h k = let never : true ≡ false = sym h ∙ k in absurd cc

-- what holds more often counts as much or more
pub counts_fewer : (a b : Bool) → (a ≡ true → b ≡ true) → cond a 1 0 ≤ cond b 1 0
counts_fewer true b h = rw (h refl) (omega arith)
counts_fewer false b h = omega arith

-- ---- orderings

pub less_is : (o : Ordering) → is_lt o ≡ true → o ≡ Less
less_is Less h = refl
less_is Equal h = cc
less_is Greater h = cc

pub equal_is : (o : Ordering) → is_eq o ≡ true → o ≡ Equal
equal_is Less h = cc
equal_is Equal h = refl
equal_is Greater h = cc

pub less_differs : (o : Ordering) → is_lt o ≡ true → is_eq o ≡ false
less_differs Less h = refl
less_differs Equal h = cc
less_differs Greater h = cc

pub not_back : (o : Ordering) → is_lt o ≡ true → is_lt (ordering_reverse o) ≡ false
not_back Less h = refl
not_back Equal h = cc
not_back Greater h = cc

-- ---- options

pub none_if : {A : Type 0} (o : Option A) → ((x : A) → o ≡ Some x → ⊥) → o ≡ None
none_if None h = refl
none_if (Some x) h = absurd (h x refl)
