-- Processes that ascend, told by neighbours.
use Rattle.std.proofs.Common.{◌≡◌, Bool, true, false, ◌&&◌, List, [], ◌∷◌, refl, sym, ap, ◌∙◌, arith}
use Rattle.std.specs.Prelude.{All}
use Rattle.std.specs.List.{list_all}
use Rattle.std.specs.declared.cmp.Ordering.{Ordering}
use Rattle.std.specs.Ordering.{is_lt}
use Rattle.std.specs.Cmp.{IsTotalOrder}
use Rattle.std.proofs.lemmas.Cmp.{nat_list_cmp_total}
use Rattle.std.proofs.lemmas.Bool.{and_parts, and_from}
use Rattle.std.proofs.lemmas.List.Elements.{All-head}
use Rattle.rapid_model.specs.Tags.{is_below, ascend_from}
use Rattle.rapid_model.specs.Process.{Process, IsProcess, process_cmp}
use Rattle.rapid_model.specs.Cut.{is_ascending}
use Rattle.rapid_model.proofs.Logic.{less_is}

-- the test of a total order passes on
pub is_lt_trans : {K : Type 0} {R : K → K → Ordering} → IsTotalOrder R → (x y z : K) → is_lt (R x y) ≡ true
    → is_lt (R y z) ≡ true → is_lt (R x z) ≡ true
is_lt_trans {K} {R} o x y z p q = ap is_lt (o.trans x y z (less_is (R x y) p) (less_is (R y z) q))

-- what x passes with y, and y with all of zs, x passes with all of zs
pub all_later : {X : Type 0} (lt : X → X → Bool) → ((x y z : X) → lt x y ≡ true → lt y z ≡ true → lt x z ≡ true)
    → (x y : X) (zs : List X) → lt x y ≡ true → list_all (lt y) zs ≡ true → list_all (lt x) zs ≡ true
all_later lt t x y [] h k = refl
all_later lt t x y (z ∷ zs) h k =
    let p = and_parts (lt y z) (list_all (lt y) zs) k in
    and_from (lt x z) (list_all (lt x) zs) (t x y z h p.0) (all_later lt t x y zs h p.1)

-- a test that follows from two others
follows : (a b c d : Bool) → (a ≡ true → c ≡ true → b ≡ true) → (a && (c && d)) ≡ ((a && b) && (c && d))
follows false b c d h = refl
follows true b true d h = ap (λ x. x && d) (sym (h refl refl))
follows true true false d h = refl
follows true false false d h = refl

-- each is above the one before it: so each is below all that follow
from_one : (p : Process) (ps : List Process) → ascend_from p ps ≡ is_ascending (p ∷ ps)
from_one p [] = refl
from_one p (q ∷ qs) =
    ap (λ b. is_below p q && b) (from_one q qs)
    ∙ follows (is_below p q) (list_all (λ r. is_lt (process_cmp p r)) qs) (list_all (λ r. is_lt (process_cmp q r)) qs) (is_ascending qs)
    (all_later is_below (is_lt_trans nat_list_cmp_total) p q qs)

-- the first is above the empty string
pub ascend_is : (ps : List Process) → All IsProcess ps → ascend_from [] ps ≡ is_ascending ps
ascend_is [] h = refl
ascend_is ([] ∷ ps) h = let one = All-head IsProcess [] ps h in absurd (omega (arith, one.long))
ascend_is ((b ∷ p) ∷ ps) h = from_one (b ∷ p) ps
