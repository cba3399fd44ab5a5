-- The members but for one.
use Rattle.std.proofs.Common.{◌≡◌, ℕ, zero, suc, ◌+◌, ◌<◌, ◌≤◌, Bool, true, false, cond, not, List, [], ◌∷◌, ◌++◌, filter, length, take, drop, slice_get, refl, sym, ap, subst, ◌∙◌, Some, None, arith}
use Rattle.std.specs.Prelude.{position, nat_lt}
use Rattle.std.specs.List.{list_all, position_or_len}
use Rattle.std.specs.Ordering.{is_lt}
use Rattle.std.proofs.lemmas.Bool.{and_parts}
use Rattle.rapid_model.specs.Process.{Process, identifier, bytes_cmp, same_bytes}
use Rattle.rapid_model.specs.Configuration.{Configuration, AreMembers, identifiers_ascend}
use Rattle.rapid_model.specs.Packets.{other_members}
use Rattle.rapid_model.proofs.Orders.{same_bytes_decides}
use Rattle.rapid_safety.proofs.Members.{not_below_itself}
use Rattle.rapid_world.specs.Recipients.{without}
use Rattle.rapid_model.proofs.Among.{same_turned}

abbrev others : Process → List Process → List Process
others me ms = filter (λ p. not (same_bytes p me)) ms

-- who stands below all of these is none of them
all_others : (me : Process) (ms : List Process) → list_all (λ q. is_lt (bytes_cmp (identifier me) (identifier q))) ms ≡ true → others me ms ≡ ms
all_others me [] h = refl
all_others me (m ∷ ms) h = by (same_bytes m me) refl (all_others me ms (and_parts _ _ h).1)
  where
    by : (b : Bool) → same_bytes m me ≡ b → others me ms ≡ ms → cond (not b) (m ∷ others me ms) (others me ms) ≡ m ∷ ms
    by true e rest = absurd (not_below_itself (identifier me) (identifier m) (ap identifier (sym ((same_bytes_decides m me).0 e))) (and_parts _ _ h).0)
    by false e rest = ap (λ l. m ∷ l) rest

-- the members without the one at the place
without_one : (me : Process) (ms : List Process) → identifiers_ascend ms ≡ true →
    others me ms ≡ take (position_or_len (same_bytes me) ms) ms ++ drop (suc (position_or_len (same_bytes me) ms)) ms
without_one me [] h = refl
without_one me (m ∷ ms) h = by (same_bytes me m) refl (without_one me ms (and_parts _ _ h).1)
  where
    k : ℕ
    k = position_or_len (same_bytes me) ms

    by : (b : Bool) → same_bytes me m ≡ b → others me ms ≡ take k ms ++ drop (suc k) ms →
        others me (m ∷ ms) ≡ take (cond (not b) (1 + k) 0) (m ∷ ms) ++ drop (suc (cond (not b) (1 + k) 0)) (m ∷ ms)
    by true e rest =
        let is : me ≡ m = (same_bytes_decides me m).0 e in
        ap (λ b. cond (not b) (m ∷ others me ms) (others me ms)) (same_turned m me ∙ e)
        ∙ all_others me ms (subst (λ (p : Process). list_all (λ q. is_lt (bytes_cmp (identifier p) (identifier q))) ms ≡ true) (sym is) (and_parts _ _ h).0)
    by false e rest =
        let one : 1 + k ≡ suc k = omega arith in
        ap (λ b. cond (not b) (m ∷ others me ms) (others me ms)) (same_turned m me ∙ e)
        ∙ ap (λ l. m ∷ l) rest
        ∙ sym (ap (λ j. take j (m ∷ ms) ++ drop (suc j) (m ∷ ms)) one)

whole : (ms : List Process) (k : ℕ) → length ms ≤ k → take k ms ++ drop (suc k) ms ≡ ms
whole [] zero h = refl
whole [] (suc k) h = refl
whole (m ∷ ms) zero h = absurd (omega arith)
whole (m ∷ ms) (suc k) h = ap (λ l. m ∷ l) (whole ms k (omega arith))

-- the other members are those without the one at the place of me
pub others_are : (c : Configuration) (me : Process) → AreMembers c.members → other_members (Some c) me ≡ without c.members (position (same_bytes me) c.members)
others_are c me are = without_one me c.members are.identifiers ∙ by (nat_lt k (length c.members)) refl
  where
    k : ℕ
    k = position_or_len (same_bytes me) c.members

    by : (b : Bool) → nat_lt k (length c.members) ≡ b → take k c.members ++ drop (suc k) c.members ≡ without c.members (cond b (Some k) None)
    by true e = refl
    by false e = whole c.members k (Prim.grind (arith, e))

-- what stands at a place of those without one
pub gets_below : (ms : List Process) (i j : ℕ) → j < i → slice_get (take i ms ++ drop (suc i) ms) j ≡ slice_get ms j
gets_below ms zero j h = absurd (omega arith)
gets_below [] (suc i) j h = refl
gets_below (m ∷ ms) (suc i) zero h = refl
gets_below (m ∷ ms) (suc i) (suc j) h = gets_below ms i j (omega arith)

pub gets_above : (ms : List Process) (i j : ℕ) → i ≤ j → slice_get (take i ms ++ drop (suc i) ms) j ≡ slice_get ms (suc j)
gets_above [] zero j h = refl
gets_above [] (suc i) j h = refl
gets_above (m ∷ ms) zero j h = refl
gets_above (m ∷ ms) (suc i) zero h = absurd (omega arith)
gets_above (m ∷ ms) (suc i) (suc j) h = gets_above ms i j (omega arith)

pub shorter : (ms : List Process) (i : ℕ) → i < length ms → length (take i ms ++ drop (suc i) ms) + 1 ≡ length ms
shorter [] i h = absurd (omega arith)
shorter (m ∷ ms) zero h = omega arith
shorter (m ∷ ms) (suc i) h = let r = shorter ms i (omega arith) in omega arith
