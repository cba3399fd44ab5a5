-- The rings that the pairs of a member name are those on which it observes another.
use Rattle.std.proofs.Common.{◌≡◌, ℕ, zero, suc, ◌+◌, ◌<◌, ◌≤◌, ◌==◌, Bool, true, false, ◌&&◌, ◌||◌, List, [], ◌∷◌, map, Some, None, Option, arith, refl, sym, ap, ap₂, ◌∙◌, inl, inr}
use Rattle.std.specs.Prelude.{is_some, filter_map, if◌then◌else◌}
use Rattle.std.specs.Option.{option_map}
use Rattle.std.specs.List.{range_with_len, list_any, cons_option}
use Rattle.std.proofs.lemmas.Bool.{cases_lt}
use Rattle.rapid_model.specs.Process.{Process}
use Rattle.rapid_model.specs.Configuration.{Configuration}
use Rattle.rapid_model.specs.Ring.{observers_of, subject_on, subjects_of}
use Rattle.rapid_model.specs.Edge.{fresh_edge}
use Rattle.rapid_model.specs.Monitors.{fresh_monitors}
use Rattle.rapid_monitor.specs.Slots.{slot_for}

same_number : (n : ℕ) → (n == n) ≡ true
same_number n = grind arith

other_number : (m n : ℕ) → m < n → (m == n) ≡ false
other_number m n h = grind arith

module _ (f : ℕ → Option Process) (k : ℕ) where
  -- a pair names the ring if its number is one of these that has a process
  abbrev pairs : List ℕ → List (ℕ × Process)
  pairs ks = filter_map (λ j. option_map (λ s. (j, s)) (f j)) ks

  and_none : (b : Bool) → (b && false) ≡ false
  and_none true = refl
  and_none false = refl

  and_some : (b : Bool) → (b && true) ≡ b
  and_some true = refl
  and_some false = refl

  abbrev has : List ℕ → Bool
  has ks = list_any (λ j. (j == k) && is_some (f j)) ks

  named : (ks : List ℕ) → list_any (λ x. x.0 == k) (pairs ks) ≡ has ks
  named [] = refl
  named (j ∷ ks) =
      let rest = named ks in
      elim (f j) as (λ o. list_any (λ x. x.0 == k) (cons_option (option_map (λ (s : Process). (j, s)) o) (pairs ks)) ≡ (((j == k) && is_some o) || has ks)) [
        | None ↦ rest ∙ sym (ap (λ b. b || has ks) (and_none (j == k)))
        | Some s ↦ ap (λ b. (j == k) || b) rest ∙ sym (ap (λ b. b || has ks) (and_some (j == k)))
      ]

  past : (a n : ℕ) → k < a → list_any (λ j. (j == k) && is_some (f j)) (range_with_len a n) ≡ false
  past a zero h = refl
  past a (suc n) h = rw (later) (past (a + 1) n (omega (arith, h)))
    where
      later : (a == k) ≡ false
      later = grind arith

  within : (a n : ℕ) → a ≤ k → k < a + n → list_any (λ j. (j == k) && is_some (f j)) (range_with_len a n) ≡ is_some (f k)
  within a zero h l = absurd (omega arith)
  within a (suc n) h l =
      elim (cases_lt a k) [
        | inl less ↦
            let other : (a == k) ≡ false = grind (arith, less) in
            rw other (within (a + 1) n (omega (arith, less)) (omega (arith, l)))
        | inr least ↦
            let here : a ≡ k = omega (arith, least, h) in
            let same : (a == k) ≡ true = grind (arith, here) in
            let rest = past (a + 1) n (omega (arith, here)) in
            rw (same, rest, here) (or_none (is_some (f k)))
      ]
    where
      or_none : (b : Bool) → (b || false) ≡ b
      or_none true = refl
      or_none false = refl

-- two functions that agree on a range
range_same : {X : Type 0} (g h : ℕ → X) (a n : ℕ) → ((k : ℕ) → a ≤ k → k < a + n → g k ≡ h k) → map g (range_with_len a n) ≡ map h (range_with_len a n)
range_same g h a zero same = refl
range_same g h a (suc n) same =
    ap₂ (λ x xs. x ∷ xs) (same a (omega arith) (omega arith)) (range_same g h (a + 1) n (λ k l u. same k (omega (arith, l)) (omega (arith, u))))

slot_is : (o : Option Process) {b : Bool} → b ≡ is_some o → (if b then Some fresh_edge else None) ≡ option_map (λ (s : Process). fresh_edge) o
slot_is None e = rw e refl
slot_is (Some s) e = rw e refl

-- the slots of the pairs of a member
pub slots_are : (c : Configuration) (me : Process) (n : ℕ) → n ≡ (observers_of c).params.k → map (slot_for (subjects_of c me)) (range_with_len 0 n) ≡ fresh_monitors c me
unfolding observers_of
slots_are c me n e =
    rw e (range_same (slot_for (subjects_of c me)) (λ k. option_map (λ s. fresh_edge) (subject_on c me k)) 0 c.params.k
    (λ k l u. slot_is (subject_on c me k) (named (subject_on c me) k (range_with_len 0 c.params.k) ∙ within (subject_on c me) k 0 c.params.k l u)))
