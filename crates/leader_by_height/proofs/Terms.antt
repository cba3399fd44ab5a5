-- What is taken behind an action: of later heights, or of the same leader at the same height.
use Rattle.std.specs.Prelude.{if◌then◌else◌}
use Rattle.std.proofs.Common.{◌≡◌, ◌⊎◌, inl, inr, zero, suc, ◌<◌, Bool, true, false, List, [], ◌∷◌, Option, Some, refl, sym, ap, subst, ◌∙◌, arith}
use Rattle.std.specs.List.{Contains}
use Rattle.std.proofs.lemmas.Bool.Decides.{nat_tests}
use Rattle.rapid_model.proofs.Orders.{same_bytes_decides}
use Rattle.leader_by_height.specs.declared.fence.Action.{Action}
use Rattle.leader_by_height.specs.Fencing.{may_follow, taken_of}

-- of a later height, or of the same leader at the same height
abbrev IsBehind : Action → Action → Type 0
IsBehind last a = (last.height < a.height) ⊎ ((last.height ≡ a.height) × (last.leader ≡ a.leader))

contains_none : {X : Type 0} (x : X) → Contains [] x → ⊥
contains_none x h = omega (arith, h.1)

contains_cons : {X : Type 0} (y : X) (ys : List X) (x : X) → Contains (y ∷ ys) x → (y ≡ x) ⊎ Contains ys x
contains_cons y ys x (zero, h, e) = inl e
contains_cons y ys x (suc k, h, e) = inr (k, omega arith, e)

follows : (last a : Action) → may_follow (Some last) a ≡ true → IsBehind last a
follows last a e = grind (arith, nat_tests, same_bytes_decides last.leader a.leader)

behind_behind : (a b c : Action) → IsBehind a b → IsBehind b c → IsBehind a c
behind_behind a b c (inl p) (inl q) = inl (omega arith)
behind_behind a b c (inl p) (inr q) = inl (omega (arith, q.0))
behind_behind a b c (inr p) (inl q) = inl (omega (arith, p.0))
behind_behind a b c (inr p) (inr q) = inr (p.0 ∙ q.0, p.1 ∙ q.1)

one_leader_behind : (a b : Action) → IsBehind a b → a.height ≡ b.height → a.leader ≡ b.leader
one_leader_behind a b (inl p) e = absurd (omega arith)
one_leader_behind a b (inr p) e = p.1

-- an action that is the first, or behind it
behind_or_first : (l a b : Action) (ys : List Action) → IsBehind l a → (Contains ys b → IsBehind a b) → (a ≡ b) ⊎ Contains ys b → IsBehind l b
behind_or_first l a b ys f i (inl e) = subst (λ c. IsBehind l c) e f
behind_or_first l a b ys f i (inr h) = behind_behind l a b f (i h)

behind_step : (l a b : Action) (xs ys : List Action) (t : Bool) → may_follow (Some l) a ≡ t → (Contains ys b → IsBehind a b) → (Contains xs b → IsBehind l b) → Contains (if t then (a ∷ ys) else xs) b → IsBehind l b
behind_step l a b xs ys true e i j h = behind_or_first l a b ys (follows l a e) i (contains_cons a ys b h)
behind_step l a b xs ys false e i j h = j h

all_behind : (l : Action) (all : List Action) (b : Action) → Contains (taken_of (Some l) all) b → IsBehind l b
all_behind l [] b h = absurd (contains_none b h)
all_behind l (a ∷ more) b h =
    behind_step l a b (taken_of (Some l) more) (taken_of (Some a) more) (may_follow (Some l) a) refl (all_behind a more b) (all_behind l more b) h

abbrev AreOfOne : Action → Action → Type 0
AreOfOne a b = a.height ≡ b.height → a.leader ≡ b.leader

one_step_both : (x a b : Action) (ys : List Action) → ((c : Action) → Contains ys c → IsBehind x c) → (Contains ys a → Contains ys b → AreOfOne a b) → (x ≡ a) ⊎ Contains ys a → (x ≡ b) ⊎ Contains ys b → AreOfOne a b
one_step_both x a b ys behind i (inl p) (inl q) e = sym (ap (λ (c : Action). c.leader) p) ∙ ap (λ (c : Action). c.leader) q
one_step_both x a b ys behind i (inl p) (inr q) e =
    sym (ap (λ (c : Action). c.leader) p) ∙ one_leader_behind x b (behind b q) (ap (λ (c : Action). c.height) p ∙ e)
one_step_both x a b ys behind i (inr p) (inl q) e =
    sym (one_leader_behind x a (behind a p) (ap (λ (c : Action). c.height) q ∙ sym e)) ∙ ap (λ (c : Action). c.leader) q
one_step_both x a b ys behind i (inr p) (inr q) e = i p q e

one_step : (x a b : Action) (xs ys : List Action) (t : Bool) → ((c : Action) → Contains ys c → IsBehind x c) → (Contains ys a → Contains ys b → AreOfOne a b) → (Contains xs a → Contains xs b → AreOfOne a b) → Contains (if t then (x ∷ ys) else xs) a → Contains (if t then (x ∷ ys) else xs) b → AreOfOne a b
one_step x a b xs ys true behind i j h k = one_step_both x a b ys behind i (contains_cons x ys a h) (contains_cons x ys b k)
one_step x a b xs ys false behind i j h k = j h k

pub one_leader : (last : Option Action) (all : List Action) (a b : Action) → Contains (taken_of last all) a → Contains (taken_of last all) b → AreOfOne a b
one_leader last [] a b h k = absurd (contains_none a h)
one_leader last (x ∷ more) a b h k =
    one_step x a b (taken_of last more) (taken_of (Some x) more) (may_follow last x) (all_behind x more) (one_leader (Some x) more a b) (one_leader last more a b) h k
