-- The two founders of the worked runs can found a configuration.
use Rattle.std.proofs.Common.{◌≡◌, ◌==◌, Bool, true, ◌&&◌, [], ◌∷◌, length, drop, refl, sym, subst, arith}
use Rattle.rapid_safety.proofs.Basics.{nat_lt, list_all, and_parts, eqb-true, AllPass-from_list_all}
use Rattle.rapid_safety.proofs.Values.{Process, IsProcess, AreParams, AreMembers}
use Rattle.rapid_model.specs.Process.{same_bytes}
use Rattle.rapid_model.specs.Tags.{AreTags, tags_of}
use Rattle.rapid_model.proofs.Orders.{same_bytes_decides}
use Rattle.rapid_safety.specs.Examples.{two}
use Rattle.std.proofs.lemmas.Bool.{ltb-true}

-- the test that these bytes are those of a process without tags
abbrev is_process : Process → Bool
is_process p = length p == 23 && list_all (λ b. nat_lt b 256) p && same_bytes (drop 22 p) (0 ∷ [])

no_tags : AreTags [] (0 ∷ [])
no_tags = record { few = omega arith; tags = refl; ascending = refl; spelt = refl }

process_if : (p : Process) → is_process p ≡ true → IsProcess p
process_if p h =
    let parts = and_parts (length p == 23 && list_all (λ b. nat_lt b 256) p) (same_bytes (drop 22 p) (0 ∷ [])) h in
    let front = and_parts (length p == 23) (list_all (λ b. nat_lt b 256) p) parts.0 in
    let long : length p ≡ 23 = eqb-true _ _ front.0 in
    record {
      long = omega (arith, long);
      bytes = λ k d i. ltb-true _ _ (AllPass-from_list_all (λ b. nat_lt b 256) p front.1 k d i);
      tags = subst (λ t. AreTags (tags_of t) t) (sym ((same_bytes_decides (drop 22 p) (0 ∷ [])).0 parts.1)) no_tags;
    }

pub params_fit : AreParams two.params
params_fit = record { some = omega arith; below = omega arith; rings = omega arith; few = omega arith }

pub founders_fit : AreMembers two.members
founders_fit =
    record {
      few = omega arith;
      processes = λ k d i. process_if _ (AllPass-from_list_all is_process two.members refl k d i);
      identifiers = refl;
      endpoints = refl;
    }
