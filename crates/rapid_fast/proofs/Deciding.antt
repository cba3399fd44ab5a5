-- One more vote at a fast round, by whether its position has voted.
use Rattle.std.proofs.Common.{◌≡◌, ℕ, ◌+◌, ◌<◌, ◌≤◌, arith, Bool, true, false, cond, ◌==◌, refl, sym, ap, subst, ◌∙◌, Option, Some, None}
use Rattle.std.proofs.lemmas.Bool.Decides.{nat_tests}
use Rattle.std.specs.Ordering.{nat_cmp}
use Rattle.std.specs.FinSet as set
use Rattle.rapid_model.specs.Cut.{Cut}
use Rattle.rapid_model.specs.Quorum.{fast_size}
use Rattle.rapid_model.specs.FastRound.{FastRound, Counts, count_of, one_more, fast_decision}
use Rattle.rapid_model.proofs.Rounds.{hear_vote-heard, hear_vote-new}
use Rattle.rapid_fast.specs.OwnRound.{OwnRound, after_vote, IsRound}
use Rattle.rapid_fast.proofs.Counting.{counted-one_more}

pub decision-known : (f : FastRound) (p : ℕ) (v : Cut) → set.contains f.heard p ≡ true → None ≡ fast_decision f p v
unfolding fast_decision
decision-known f p v h = rw h refl

decision-new : (f : FastRound) (p : ℕ) (v : Cut) → set.contains f.heard p ≡ false → (b : Bool) → (count_of f.counts v + 1 == fast_size f.size) ≡ b → cond b (Some v) None ≡ fast_decision f p v
unfolding fast_decision
decision-new f p v h b e = rw h (ap (λ t. cond t (Some v) None) (sym e))

pub after_vote-known : (r : OwnRound) (p : ℕ) (v : Cut) → set.contains r.round.heard p ≡ true → r ≡ after_vote r p v
after_vote-known r p v h = λ i. record { position = r.position; round = sym (hear_vote-heard r.round p v h) i }

-- if fewer have voted than one less than a fast quorum, no next vote decides
pub decides_not : (r : OwnRound) → IsRound r → set.len r.round.heard + 1 < fast_size r.round.size → (p : ℕ) (v : Cut) → fast_decision r.round p v ≡ None
decides_not r is few p v = by (set.contains r.round.heard p) refl
  where
    not_full : (count_of r.round.counts v + 1 == fast_size r.round.size) ≡ false
    not_full = let most = is.counted v in grind (arith, nat_tests)

    by : (b : Bool) → set.contains r.round.heard p ≡ b → fast_decision r.round p v ≡ None
    by true h = sym (decision-known r.round p v h)
    by false h = sym (decision-new r.round p v h false not_full)

-- the fields of a round r, at a vote of a position that is not among those heard
module _ (r : OwnRound) (n own : ℕ) (s : set.FinSet nat_cmp) (m : Counts) (view : record { position = own; round = record { size = n; heard = s; counts = m } } ≡ r) (p : ℕ) (v : Cut) (new : set.contains s p ≡ false) where
  pub decided_now : (full : ℕ) (d : Option Cut) → full ≡ fast_size n → d ≡ cond (count_of m v + 1 == full) (Some v) None → d ≡ fast_decision r.round p v
  decided_now full d size e =
      e ∙ ap (λ k. cond (count_of m v + 1 == k) (Some v) None) size
      ∙ decision-new (record { size = n; heard = s; counts = m }) p v new _ refl ∙ ap (λ (q : OwnRound). fast_decision q.round p v) view

  pub heard_now : (t : set.FinSet nat_cmp) (l : Counts) → t ≡ set.insert s p → l ≡ one_more m v → record { position = own; round = record { size = n; heard = t; counts = l } } ≡ after_vote r p v
  heard_now t l a b =
      (λ i. record { position = own; round = record { size = n; heard = a i; counts = b i } })
      ∙ (λ i. record { position = own; round = sym (hear_vote-new (record { size = n; heard = s; counts = m }) p v new) i })
      ∙ ap (λ q. after_vote q p v) view

  pub round_kept : (t : set.FinSet nat_cmp) (l : Counts) → t ≡ set.insert s p → l ≡ one_more m v → IsRound (record { position = own; round = record { size = n; heard = s; counts = m } }) → IsRound (record { position = own; round = record { size = n; heard = t; counts = l } })
  round_kept t l a b is =
      record {
        few = is.few;
        counted = λ w. subst (λ x. count_of l w ≤ set.len x) (sym a) (subst (λ x. count_of x w ≤ set.len (set.insert s p)) (sym b) (counted-one_more m s p v new is.counted w));
      }
