-- Processes at their places among members.
use Rattle.std.proofs.Common.{◌≡◌, ℕ, zero, suc, ◌<◌, ◌≤◌, Bool, true, false, not, ◌&&◌, ◌||◌, cond, List, [], ◌∷◌, length, get_or, refl, sym, ap, ◌∙◌, inl, inr, arith}
use Rattle.std.specs.Prelude.{All, nat_lt, Ok, Err}
use Rattle.std.specs.List.{list_all, list_any, insert}
use Rattle.std.specs.List.Sorted.{IsBinarySearchResult}
use Rattle.std.specs.declared.cmp.Ordering.{Ordering}
use Rattle.std.specs.declared.cmp.Ordering.TheVariants.{Less, Equal, Greater}
use Rattle.std.specs.Ordering.{is_lt, is_eq}
use Rattle.std.proofs.lemmas.Bool.{and_parts, and_from, lt-ltb, le-ltb, cases_lt, or_parts}
use Rattle.std.proofs.lemmas.List.Elements.{All-cons}
use Rattle.rapid_model.specs.Process.{Process, IsProcess, identifier, endpoint, bytes_cmp, process_cmp, same_bytes, same_identifier, same_endpoint}
use Rattle.rapid_model.specs.Configuration.{AreMembers, identifiers_ascend, endpoints_differ}
use Rattle.rapid_model.specs.Apply.{collides, insert_process, with_joiners}
use Rattle.rapid_config.specs.Endpoints.{AreEndpointsOf}
use Rattle.rapid_endpoint.proofs.Ascents.{is_lt_trans, all_later}
use Rattle.rapid_config.proofs.Ascending.{bytes_total, below_by_identifier, flipped}
use Rattle.rapid_config.proofs.Differing.{Gains, gained, same_flips}
use Rattle.rapid_config.proofs.Places.{by_identifier, rising, any_at, any_none}
use Rattle.rapid_model.proofs.Logic.{or_swap}

-- a process stands where a search for its identifier ends
pub insert_is : (j : Process) (ps : List Process) (i : ℕ) → i ≤ length ps → ((k : ℕ) (d : Process) → k < i → process_cmp (get_or ps k d) j ≡ Less) → ((k : ℕ) (d : Process) → i ≤ k → k < length ps → process_cmp j (get_or ps k d) ≡ Less) → insert ps i j ≡ insert_process j ps
insert_is j [] zero l below above = refl
insert_is j [] (suc i) l below above = absurd (omega (arith, l))
insert_is j (q ∷ qs) zero l below above = sym (ap (λ o. cond (is_lt o) (j ∷ q ∷ qs) (q ∷ insert_process j qs)) (above 0 q (omega arith) (omega arith)))
insert_is j (q ∷ qs) (suc i) l below above =
    ap (λ r. q ∷ r) (insert_is j qs i (omega (arith, l)) (λ k d m. below (suc k) d (omega (arith, m))) (λ k d m n. above (suc k) d (omega (arith, m)) (omega (arith, n))))
    ∙ sym (ap (λ o. cond (is_lt o) (j ∷ q ∷ qs) (q ∷ insert_process j qs)) (flipped q j Less (below 0 q (omega arith))))

and_swap : (a b c : Bool) → (a && (b && c)) ≡ (b && (a && c))
and_swap true true c = refl
and_swap true false c = refl
and_swap false true c = refl
and_swap false false c = refl

all_insert : (t : Process → Bool) (j : Process) (ps : List Process) → list_all t (insert_process j ps) ≡ (t j && list_all t ps)
all_insert t j [] = refl
all_insert t j (q ∷ qs) =
    elim (is_lt (process_cmp j q)) as (λ b. list_all t (cond b (j ∷ q ∷ qs) (q ∷ insert_process j qs)) ≡ (t j && list_all t (q ∷ qs))) [
      | true ↦ refl
      | false ↦ ap (λ b. t q && b) (all_insert t j qs) ∙ and_swap (t q) (t j) (list_all t qs)
    ]

any_insert_process : (t : Process → Bool) (j : Process) (ps : List Process) → list_any t (insert_process j ps) ≡ (t j || list_any t ps)
any_insert_process t j [] = refl
any_insert_process t j (q ∷ qs) =
    elim (is_lt (process_cmp j q)) as (λ b. list_any t (cond b (j ∷ q ∷ qs) (q ∷ insert_process j qs)) ≡ (t j || list_any t (q ∷ qs))) [
      | true ↦ refl
      | false ↦ ap (λ b. t q || b) (any_insert_process t j qs) ∙ or_swap (t q) (t j) (list_any t qs)
    ]

length_insert : (j : Process) (ps : List Process) → length (insert_process j ps) ≡ suc (length ps)
length_insert j [] = refl
length_insert j (q ∷ qs) =
    elim (is_lt (process_cmp j q)) as (λ b. length (cond b (j ∷ q ∷ qs) (q ∷ insert_process j qs)) ≡ suc (length (q ∷ qs))) [
      | true ↦ refl
      | false ↦ ap suc (length_insert j qs)
    ]

All_insert : (P : Process → Type 0) (j : Process) (ps : List Process) → P j → All P ps → All P (insert_process j ps)
All_insert P j [] x h = All-cons P j [] x h
All_insert P j (q ∷ qs) x h =
    elim (is_lt (process_cmp j q)) as (λ b. All P (cond b (j ∷ q ∷ qs) (q ∷ insert_process j qs))) [
      | true ↦ All-cons P j (q ∷ qs) x h
      | false ↦ All-cons P q (insert_process j qs) (h 0 q (omega arith)) (All_insert P j qs x (λ k d l. h (suc k) d (omega (arith, l))))
    ]

none_all : (t : Process → Bool) (ps : List Process) → list_any t ps ≡ false → list_all (λ p. not (t p)) ps ≡ true
none_all t [] h = refl
none_all t (p ∷ ps) h = let r = or_parts (t p) (list_any t ps) h in and_from (not (t p)) (list_all (λ p. not (t p)) ps) (ap not r.0) (none_all t ps r.1)

-- one with an endpoint that none has
differ_insert : (j : Process) (ps : List Process) → list_any (λ p. same_bytes (endpoint j) (endpoint p)) ps ≡ false → endpoints_differ ps ≡ true → endpoints_differ (insert_process j ps) ≡ true
differ_insert j [] n h = refl
differ_insert j (q ∷ qs) n h =
    let r = or_parts (same_bytes (endpoint j) (endpoint q)) (list_any (λ p. same_bytes (endpoint j) (endpoint p)) qs) n in
    let s = and_parts (list_all (λ p. not (same_endpoint q p)) qs) (endpoints_differ qs) h in
    elim (is_lt (process_cmp j q)) as (λ b. endpoints_differ (cond b (j ∷ q ∷ qs) (q ∷ insert_process j qs)) ≡ true) [
      | true ↦ and_from (list_all (λ p. not (same_endpoint j p)) (q ∷ qs)) (endpoints_differ (q ∷ qs)) (none_all (λ p. same_bytes (endpoint j) (endpoint p)) (q ∷ qs) n) h
      | false ↦
          and_from (list_all (λ p. not (same_endpoint q p)) (insert_process j qs)) (endpoints_differ (insert_process j qs))
          (all_insert (λ p. not (same_endpoint q p)) j qs
          ∙ and_from (not (same_endpoint q j)) (list_all (λ p. not (same_endpoint q p)) qs) (ap not (same_flips (endpoint q) (endpoint j) ∙ r.0)) s.0)
          (differ_insert j qs r.1 s.1)
    ]

-- of two identifiers that differ one is below the other, as the processes are
below_or : (j q : Process) (o : Ordering) → bytes_cmp (identifier j) (identifier q) ≡ o → is_eq o ≡ false → is_lt (process_cmp j q) ≡ is_lt (bytes_cmp (identifier j) (identifier q))
below_or j q Less e n = ap is_lt (below_by_identifier j q e) ∙ sym (ap is_lt e)
below_or j q Equal e n = cc
below_or j q Greater e n =
    ap is_lt (flipped q j Less (below_by_identifier q j (flipped (identifier j) (identifier q) Greater e))) ∙ sym (ap is_lt e)

above_is : (o : Ordering) → is_lt o ≡ false → is_eq o ≡ false → o ≡ Greater
above_is Less a b = cc
above_is Equal a b = cc
above_is Greater a b = refl

-- one with an identifier that none has
ascend_insert : (j : Process) (ps : List Process) → list_any (same_identifier j) ps ≡ false → identifiers_ascend ps ≡ true → identifiers_ascend (insert_process j ps) ≡ true
ascend_insert j [] n h = refl
ascend_insert j (q ∷ qs) n h =
    let r = or_parts (same_identifier j q) (list_any (same_identifier j) qs) n in
    let s = and_parts (list_all (λ p. is_lt (bytes_cmp (identifier q) (identifier p))) qs) (identifiers_ascend qs) h in
    let same = below_or j q (bytes_cmp (identifier j) (identifier q)) refl r.0 in
    elim (is_lt (process_cmp j q)) as (λ b. is_lt (process_cmp j q) ≡ b → identifiers_ascend (cond b (j ∷ q ∷ qs) (q ∷ insert_process j qs)) ≡ true) [
      | true ↦ λ e.
          let here : is_lt (bytes_cmp (identifier j) (identifier q)) ≡ true = sym same ∙ e in
          and_from (list_all (λ p. is_lt (bytes_cmp (identifier j) (identifier p))) (q ∷ qs)) (identifiers_ascend (q ∷ qs))
          (and_from (is_lt (bytes_cmp (identifier j) (identifier q))) (list_all (λ p. is_lt (bytes_cmp (identifier j) (identifier p))) qs) here
          (all_later (λ x y. is_lt (bytes_cmp (identifier x) (identifier y))) (λ x y z. is_lt_trans bytes_total (identifier x) (identifier y) (identifier z)) j q qs here s.0))
          h
      | false ↦ λ e.
          let back : is_lt (bytes_cmp (identifier q) (identifier j)) ≡ true = ap is_lt (flipped (identifier j) (identifier q) Greater (above_is (bytes_cmp (identifier j) (identifier q)) (sym same ∙ e) r.0)) in
          and_from (list_all (λ p. is_lt (bytes_cmp (identifier q) (identifier p))) (insert_process j qs)) (identifiers_ascend (insert_process j qs))
          (all_insert (λ p. is_lt (bytes_cmp (identifier q) (identifier p))) j qs
          ∙ and_from (is_lt (bytes_cmp (identifier q) (identifier j))) (list_all (λ p. is_lt (bytes_cmp (identifier q) (identifier p))) qs) back s.0)
          (ascend_insert j qs r.1 s.1)
    ] refl

-- the members with one more
pub members_insert : (j : Process) (ps : List Process) → AreMembers ps → IsProcess j → length ps < 1024 → list_any (same_identifier j) ps ≡ false → list_any (λ p. same_bytes (endpoint j) (endpoint p)) ps ≡ false → AreMembers (insert_process j ps)
members_insert j ps m x l n e = record {
  few = let k = length_insert j ps in omega arith;
  processes = All_insert IsProcess j ps x m.processes;
  identifiers = ascend_insert j ps n m.identifiers;
  endpoints = differ_insert j ps e m.endpoints;
}

-- the endpoints of the members with one more
pub endpoints_insert : (j : Process) (ps : List Process) (s n : List (List ℕ)) → AreEndpointsOf ps s → Gains s n (endpoint j) → AreEndpointsOf (insert_process j ps) n
endpoints_insert j ps s n h g e =
    gained s n (endpoint j) e g
    ∙ ap (λ b. same_bytes e (endpoint j) || b) (h e) ∙ sym (any_insert_process (λ p. same_bytes e (endpoint p)) j ps)

collides_is : (ps : List Process) (j : Process) → collides ps j ≡ (list_any (same_identifier j) ps || list_any (λ p. same_bytes (endpoint j) (endpoint p)) ps)
collides_is [] j = refl
collides_is (p ∷ ps) j =
    ap (λ b. (same_identifier j p || same_endpoint j p) || b) (collides_is ps j)
    ∙ shuffle (same_identifier j p) (same_endpoint j p) (list_any (same_identifier j) ps) (list_any (λ p. same_bytes (endpoint j) (endpoint p)) ps)
  where
    shuffle : (a b c d : Bool) → ((a || b) || (c || d)) ≡ ((a || c) || (b || d))
    shuffle true b c d = refl
    shuffle false true true d = refl
    shuffle false true false d = refl
    shuffle false false c d = refl

-- the members with a joiner, if it is one
abbrev pub admitted : List Process → Process → List Process
admitted ps j = cond (not (collides ps j) && nat_lt (length ps) 1024) (insert_process j ps) ps

pub no_room : (ps : List Process) (j : Process) → 1024 ≤ length ps → ps ≡ admitted ps j
no_room ps j l = sym (ap (λ b. cond b (insert_process j ps) ps) (ap (λ b. not (collides ps j) && b) (le-ltb (length ps) 1024 l) ∙ never (not (collides ps j))))
  where
    never : (a : Bool) → (a && false) ≡ false
    never true = refl
    never false = refl

pub identifier_held : (ps : List Process) (j : Process) → list_any (same_identifier j) ps ≡ true → ps ≡ admitted ps j
identifier_held ps j h = sym (ap (λ b. cond (not b && nat_lt (length ps) 1024) (insert_process j ps) ps) (collides_is ps j ∙ ap (λ b. b || list_any (λ p. same_bytes (endpoint j) (endpoint p)) ps) h))

pub endpoint_held : (ps : List Process) (j : Process) → list_any (λ p. same_bytes (endpoint j) (endpoint p)) ps ≡ true → ps ≡ admitted ps j
endpoint_held ps j h =
    sym (ap (λ b. cond (not b && nat_lt (length ps) 1024) (insert_process j ps) ps) (collides_is ps j ∙ ap (λ b. list_any (same_identifier j) ps || b) h ∙ always (list_any (same_identifier j) ps)))
  where
    always : (a : Bool) → (a || true) ≡ true
    always true = refl
    always false = refl

pub joined : (ps : List Process) (j : Process) → length ps < 1024 → list_any (same_identifier j) ps ≡ false → list_any (λ p. same_bytes (endpoint j) (endpoint p)) ps ≡ false → insert_process j ps ≡ admitted ps j
joined ps j l n e =
    sym
    (ap (λ b. cond (not b && nat_lt (length ps) 1024) (insert_process j ps) ps) (collides_is ps j ∙ ap (λ b. b || list_any (λ p. same_bytes (endpoint j) (endpoint p)) ps) n ∙ e)
    ∙ ap (λ b. cond b (insert_process j ps) ps) (lt-ltb (length ps) 1024 l))

-- joiners go in one after another
pub one_joiner : (ps : List Process) (j : Process) (js : List Process) → with_joiners ps (j ∷ js) ≡ with_joiners (admitted ps j) js
one_joiner ps j js =
    elim (not (collides ps j) && nat_lt (length ps) 1024) as (λ b. cond b (with_joiners (insert_process j ps) js) (with_joiners ps js) ≡ with_joiners (cond b (insert_process j ps) ps) js) [
      | true ↦ refl
      | false ↦ refl
    ]

-- a search by identifier that finds a member
pub held_at : (ps : List Process) (j : Process) (i : ℕ) → i < length ps → IsBinarySearchResult (by_identifier j) ps (Ok i) → list_any (same_identifier j) ps ≡ true
held_at ps j i l h = any_at (same_identifier j) ps i j l (ap is_eq (flipped (identifier (get_or ps i j)) (identifier j) Equal (h j)))

-- a search by identifier that finds none
pub none_held : (ps : List Process) (j : Process) (i : ℕ) → identifiers_ascend ps ≡ true → IsBinarySearchResult (by_identifier j) ps (Err i) → list_any (same_identifier j) ps ≡ false
none_held ps j i up h =
    let parted = h (rising ps j up) in
    any_none (same_identifier j) ps (λ k d m.
    elim (cases_lt k i) [
      | inl below ↦ ap is_eq (flipped (identifier (get_or ps k d)) (identifier j) Less (parted.0 k d (omega arith) below))
      | inr above ↦ ap is_eq (flipped (identifier (get_or ps k d)) (identifier j) Greater (parted.1 k d above m))
    ])

-- and its end is the place
pub place_of_joiner : (ps : List Process) (j : Process) (i : ℕ) → identifiers_ascend ps ≡ true → i ≤ length ps → IsBinarySearchResult (by_identifier j) ps (Err i) → insert ps i j ≡ insert_process j ps
place_of_joiner ps j i up l h =
    let parted = h (rising ps j up) in
    insert_is j ps i l (λ k d m. below_by_identifier (get_or ps k d) j (parted.0 k d (omega arith) m))
    (λ k d m n. below_by_identifier j (get_or ps k d) (flipped (identifier (get_or ps k d)) (identifier j) Greater (parted.1 k d m n)))
