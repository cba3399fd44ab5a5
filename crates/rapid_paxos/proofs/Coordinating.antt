-- What a coordinator keeps as promises come, and the cut that it asks for.
use Rattle.std.proofs.Common.{◌≡◌, ℕ, ◌+◌, ◌-◌, ◌≤◌, Bool, true, false, cond, not, nat_le, List, [], ◌∷◌, length, get_or, refl, sym, ap, subst, ◌∙◌, arith, Option, Some, None, unwrap_or, inl, inr, eq-eqb, ne_eqb}
use Rattle.std.specs.List.{find}
use Rattle.std.specs.Option.{option_map}
use Rattle.std.specs.Ordering.{nat_cmp}
use Rattle.std.specs.Cmp.{nat_cmp_total}
use Rattle.std.specs.FinSet as set
use Rattle.std.specs.FinMap as map
use Rattle.std.proofs.lemmas.Bool.{cases_lt, le-leb, lt-leb, and_parts, not-true}
use Rattle.rapid_model.specs.Cut.{Cut, cut_cmp}
use Rattle.rapid_model.specs.Quorum.{fast_size, classic_size}
use Rattle.rapid_model.specs.Ballot.{Ballot, Vote}
use Rattle.rapid_model.specs.FastRound.{Counts, count_of, one_more}
use Rattle.rapid_model.specs.Coordinator.{Coordinator, counts_promise, with_report, after_report, accept_cut, value_of, value_by, is_forced}
use Rattle.rapid_fast.proofs.Counting.{counted-one_more}
use Rattle.rapid_paxos.specs.Invariants.{IsCoordinator}

none_counted : (v : Cut) → count_of map.empty v ≡ 0
none_counted v = ap (λ o. unwrap_or o 0) (map.get-empty cut_cmp v)

pub nothing_counted : (m : Counts) (s : set.FinSet nat_cmp) → m ≡ map.empty → (v : Cut) → count_of m v ≤ set.len s
nothing_counted m s e v = let none : count_of m v ≡ 0 = ap (λ x. count_of x v) e ∙ none_counted v in omega (arith, none)

-- ---- one more promise

module _ (c : Coordinator) (is : IsCoordinator c) (p : ℕ) (new : set.contains c.heard p ≡ false) (s : set.FinSet nat_cmp) (e : s ≡ set.insert c.heard p) where
  kept : (top : Option Ballot) (m : Counts) → ((w : Cut) → count_of m w ≤ set.len (set.insert c.heard p)) → IsCoordinator (record { size = c.size; position = c.position; ballot = c.ballot; heard = s; top = top; counts = m })
  kept top m few =
      record {
        member = is.member;
        few = is.few;
        counted = λ w. subst (λ x. count_of m w ≤ set.len x) (sym e) (few w);
        last = is.last;
      }

  pub kept_same : IsCoordinator (record { size = c.size; position = c.position; ballot = c.ballot; heard = s; top = c.top; counts = c.counts })
  kept_same =
      kept c.top c.counts (λ w.
      let more : set.len (set.insert c.heard p) ≡ set.len c.heard + 1 = set.len-insert nat_cmp_total c.heard p ∙ ap (λ b. cond b (set.len c.heard) (set.len c.heard + 1)) new in
      omega (arith, more, is.counted w))

  pub kept_more : (m : Counts) (v : Cut) → m ≡ one_more c.counts v → IsCoordinator (record { size = c.size; position = c.position; ballot = c.ballot; heard = s; top = c.top; counts = m })
  kept_more m v f = kept c.top m (λ w. subst (λ x. count_of x w ≤ set.len (set.insert c.heard p)) (sym f) (counted-one_more c.counts c.heard p v new is.counted w))

  pub kept_higher : (top : Option Ballot) (l m : Counts) (v : Cut) → l ≡ map.empty → m ≡ one_more l v → IsCoordinator (record { size = c.size; position = c.position; ballot = c.ballot; heard = s; top = top; counts = m })
  kept_higher top l m v f g =
      kept top m (λ w. subst (λ x. count_of x w ≤ set.len (set.insert c.heard p)) (sym g) (counted-one_more l c.heard p v new (nothing_counted l c.heard f) w))

-- ---- the cut that is asked for

first_or : (f : Cut × ℕ → Bool) (x : Cut × ℕ) → Some x.0 ≡ Some (unwrap_or (option_map (λ (z : Cut × ℕ). z.0) (find f (x ∷ []))) x.0)
first_or f x = by (f x)
  where
    by : (b : Bool) → Some x.0 ≡ Some (unwrap_or (option_map (λ (z : Cut × ℕ). z.0) (cond b (Some x) None)) x.0)
    by true = refl
    by false = refl

value-some : (size promised : ℕ) (es : List (Cut × ℕ)) (own : Option Cut) (d : Cut × ℕ) → 1 ≤ length es → value_by size promised es own ≡ Some (unwrap_or (option_map (λ (z : Cut × ℕ). z.0) (find (λ z. is_forced size promised z.1) es)) (get_or es 0 d).0)
value-some size promised [] own d h = absurd (omega arith)
value-some size promised (x ∷ []) own d h = first_or (λ z. is_forced size promised z.1) x
value-some size promised (x ∷ y ∷ ys) own d h = refl

forced_at : (size promised enough n : ℕ) → enough ≡ fast_size size + promised - size → nat_le enough n ≡ is_forced size promised n
forced_at size promised enough n e =
    elim (cases_lt (n + size) (fast_size size + promised)) [
      | inl short ↦ lt-leb enough n (omega arith) ∙ sym (lt-leb (fast_size size + promised) (n + size) short)
      | inr full ↦ le-leb enough n (omega arith) ∙ sym (le-leb (fast_size size + promised) (n + size) full)
    ]

-- the cut chosen among those that were reported at the highest ballot
pub value_chosen : (c : Coordinator) (es : List (Cut × ℕ)) (own : Option Cut) (x : Cut × ℕ) (enough : ℕ) (o : Option Cut) (v : Cut) →
    es ≡ map.entries c.counts → 1 ≤ length es → x ≡ get_or es 0 x → enough ≡ fast_size c.size + set.len c.heard - c.size →
    o ≡ option_map (λ (e : Cut × ℕ). e.0) (find (λ (e : Cut × ℕ). nat_le enough e.1) es) → v ≡ unwrap_or o x.0 → Some v ≡ value_of c own
value_chosen c es own x enough o v entries some least e found chosen =
    ap (λ w. Some w) (chosen ∙ (λ i. unwrap_or ((found ∙ ap (λ f. option_map (λ (z : Cut × ℕ). z.0) (find f es)) (λ j z. forced_at c.size (set.len c.heard) enough z.1 e j)) i) ((least i).0)))
    ∙ sym (value-some c.size (set.len c.heard) es own x some) ∙ ap (λ l. value_by c.size (set.len c.heard) l own) entries

-- ---- which promises count

pub ignored : (c : Coordinator) (p : ℕ) (b : Ballot) (vote : Option (Vote Cut)) → counts_promise c p b ≡ false → after_report c p b vote ≡ c
unfolding after_report
ignored c p b vote h = rw h refl

pub taken : (c : Coordinator) (p : ℕ) (b : Ballot) (vote : Option (Vote Cut)) → counts_promise c p b ≡ true → after_report c p b vote ≡ with_report (record { size = c.size; position = c.position; ballot = c.ballot; heard = set.insert c.heard p; top = c.top; counts = c.counts }) vote
unfolding after_report
taken c p b vote h = rw h refl

pub is_new : (c : Coordinator) (p : ℕ) (b : Ballot) → counts_promise c p b ≡ true → set.contains c.heard p ≡ false
is_new c p b h = not-true _ (and_parts _ (not (set.contains c.heard p)) h).1

pub no_accept : (c : Coordinator) (p : ℕ) (b : Ballot) (vote : Option (Vote Cut)) (own : Option Cut) → counts_promise c p b ≡ false → None ≡ accept_cut c p b vote own
unfolding accept_cut
no_accept c p b vote own h = rw h refl

pub not_complete : (c : Coordinator) (p : ℕ) (b : Ballot) (vote : Option (Vote Cut)) (own : Option Cut) → counts_promise c p b ≡ true → (set.len c.heard + 1 ≡ classic_size c.size → ⊥) → None ≡ accept_cut c p b vote own
unfolding accept_cut
not_complete c p b vote own h n = rw h (rw (ne_eqb (set.len c.heard + 1) (classic_size c.size) n) refl)

pub complete : (c : Coordinator) (p : ℕ) (b : Ballot) (vote : Option (Vote Cut)) (own : Option Cut) → counts_promise c p b ≡ true → set.len c.heard + 1 ≡ classic_size c.size → accept_cut c p b vote own ≡ value_of (after_report c p b vote) own
unfolding accept_cut
complete c p b vote own h n = rw h (rw (eq-eqb (set.len c.heard + 1) (classic_size c.size) n) refl)

pub room_for : (m : Counts) (s : set.FinSet nat_cmp) → ((w : Cut) → count_of m w ≤ set.len s) → set.len s ≤ 1024 → (v : Cut) → count_of m v ≤ 1024
room_for m s few all v = omega (arith, few v, all)
