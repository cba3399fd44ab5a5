-- The member that a member observes on a ring: nobody beyond the rings.
use Rattle.std.proofs.Common.{◌≡◌, ℕ, Bool, true, false, cond, List, [], ◌∷◌, Some, None, Option, refl}
use Rattle.std.specs.Prelude.{nat_lt}
use Rattle.std.specs.Option.{option_map, option_eq}
use Rattle.std.specs.List.{find}
use Rattle.rapid_model.specs.Process.{Process, same_bytes}
use Rattle.rapid_model.specs.Configuration.{Configuration}
use Rattle.rapid_model.specs.Ring.{observers_of, ring_observer, subject_on}
use Rattle.rapid_model.specs.World.{observed_in}

-- whom me observes on ring k, if there is such a ring
abbrev seen : Configuration → Process → ℕ → Bool → List Process → Option Process
seen c me k b ms = find (λ s. option_eq same_bytes (cond b (ring_observer c.members k s) None) (Some me)) ms

nobody : (c : Configuration) (me : Process) (k : ℕ) (ms : List Process) → seen c me k false ms ≡ None
nobody c me k [] = refl
nobody c me k (m ∷ ms) = nobody c me k ms

with_it : (c : Configuration) (o : Option Process) → o ≡ option_map (λ (x : Configuration × Process). x.1) (option_map (λ (s : Process). (c, s)) o)
with_it c None = refl
with_it c (Some s) = refl

by_ring : (c : Configuration) (me : Process) (k : ℕ) (b : Bool) →
    seen c me k b c.members ≡ option_map (λ (x : Configuration × Process). x.1) (cond b (option_map (λ (s : Process). (c, s)) (seen c me k b c.members)) None)
by_ring c me k true = with_it c (seen c me k true c.members)
by_ring c me k false = nobody c me k c.members

-- it is the one whom its rings say
pub observed_is : (c : Configuration) (me : Process) (k : ℕ) → subject_on c me k ≡ option_map (λ (x : Configuration × Process). x.1) (observed_in (Some c) me k)
unfolding observers_of
observed_is c me k = by_ring c me k (nat_lt k c.params.k)
