-- What is found by place: the seats of members, and what members and others observe.
use Rattle.std.proofs.Common.{◌≡◌, ℕ, ◌+◌, ◌<◌, ◌≤◌, Bool, true, false, not, ◌&&◌, ◌||◌, cond, List, [], ◌∷◌, ◌++◌, map, length, get_or, take, refl, sym, ap, subst, ◌∙◌, Some, None, slice_get, position, nat_lt, arith}
use Rattle.std.specs.Prelude.{Option, filter_map}
use Rattle.std.specs.Option.{option_map, option_eq, option_to_list}
use Rattle.std.specs.List.{find, position_or_len, cons_option}
use Rattle.std.proofs.lemmas.Bool.{ltb-true, lt-ltb, le-ltb}
use Rattle.std.proofs.lemmas.List.{take_more, take_all, map-append}
use Rattle.std.proofs.lemmas.List.Elements.{filter_map-append}
use Rattle.std.proofs.lemmas.List.Folds.{list_any_at}
use Rattle.std.proofs.lemmas.List.Sums.{passes_at_first}
use Rattle.std.proofs.lemmas.Option.{slice_get-get_or}
use Rattle.rapid_model.specs.Process.{Process, same_bytes, is_in}
use Rattle.rapid_model.specs.Configuration.{Configuration, position_of}
use Rattle.rapid_model.specs.Ring.{is_next_before, ring_observer, observers_of, rings, subject_on, subjects_of}
use Rattle.rapid_model.proofs.Orders.{same_bytes_decides}
use Rattle.rapid_config.proofs.Places.{in_by_place}
use Rattle.rapid_rings.specs.Observing.{ObservesNobody, NoneObservesItself}
use Rattle.rapid_rings.specs.Seats.{Placed, HasRings}
use Rattle.rapid_rings.proofs.Rounds.{not_found}
use Rattle.rapid_rings.proofs.Subjects.{is_observer, passes_found}

-- ---- places

pub found_place : (t : Process → Bool) (ms : List Process) (i : ℕ) (d : Process) → position t ms ≡ Some i → (i < length ms) × (t (get_or ms i d) ≡ true)
found_place t ms i d h =
    elim (nat_lt (position_or_len t ms) (length ms)) as (λ b. nat_lt (position_or_len t ms) (length ms) ≡ b → cond b (Some (position_or_len t ms)) None ≡ Some i → (i < length ms) × (t (get_or ms i d) ≡ true)) [
      | true ↦ λ e h.
          let same : position_or_len t ms ≡ i = inside h in
          let within : position_or_len t ms < length ms = ltb-true (position_or_len t ms) (length ms) e in
          (subst (λ n. n < length ms) same within, subst (λ n. t (get_or ms n d) ≡ true) same (passes_at_first t ms d within))
      | false ↦ λ e h. cc
    ] refl h
  where
    inside : {x y : ℕ} → ◌≡◌ {A = Option ℕ} (Some x) (Some y) → x ≡ y
    inside e = cc

-- a process with a place is a member
pub member_at : (c : Configuration) (o : Process) (i : ℕ) → position_of c o ≡ Some i → is_in c.members o ≡ true
member_at c o i h =
    let at = found_place (same_bytes o) c.members i o h in
    list_any_at (same_bytes o) c.members i o at.0 at.1

-- the member at a place
pub found_member : (ms : List Process) (o : Process) (i : ℕ) → position (same_bytes o) ms ≡ Some i → slice_get ms i ≡ Some o
found_member ms o i h =
    let at = found_place (same_bytes o) ms i o h in
    slice_get-get_or ms i o at.0 ∙ ap Some (sym ((same_bytes_decides o (get_or ms i o)).0 at.1))

-- ---- what is observed

on_ring_there : (c : Configuration) (k : ℕ) (o : Process) → k < c.params.k → find (λ m. option_eq same_bytes (ring_observer c.members k m) (Some o)) c.members ≡ subject_on c o k
unfolding observers_of
on_ring_there c k o there =
    ap (λ b. find (λ m. option_eq same_bytes (cond b (ring_observer c.members k m) None) (Some o)) c.members) (sym (lt-ltb k c.params.k there))

on_ring_missing : (c : Configuration) (k : ℕ) (o : Process) → c.params.k ≤ k → None ≡ subject_on c o k
unfolding observers_of
on_ring_missing c k o past =
    sym (not_found (λ m. option_eq same_bytes None (Some o)) c.members (λ _ _. refl))
    ∙ ap (λ b. find (λ m. option_eq same_bytes (cond b (ring_observer c.members k m) None) (Some o)) c.members) (sym (le-ltb k c.params.k past))

-- what a ring says of a member
pub subject_there : (c : Configuration) (xs : List (List Placed)) (i k : ℕ) (o : Process) (r : Option Process)
    → HasRings c xs → i ≡ k → i < length xs → r ≡ find (λ m. option_eq same_bytes (ring_observer c.members k m) (Some o)) c.members → r ≡ subject_on c o k
subject_there c xs i k o r has same below h =
    let long = has.count in
    h ∙ on_ring_there c k o (omega (arith, long, below, same))

pub subject_missing : (c : Configuration) (xs : List (List Placed)) (i k : ℕ) (o : Process) → HasRings c xs → i ≡ k → length xs ≤ i → None ≡ subject_on c o k
subject_missing c xs i k o has same past =
    let long = has.count in
    on_ring_missing c k o (omega (arith, long, past, same))

-- ---- who is no member observes nobody

found_in : (p : Process → Bool) (ms : List Process) (o : Process) → find p ms ≡ Some o → is_in ms o ≡ true
found_in p [] o h = cc
found_in p (m ∷ ms) o h =
    elim (p m) as (λ b. cond b (Some m) (find p ms) ≡ Some o → (same_bytes o m || is_in ms o) ≡ true) [
      | true ↦ λ h. ap (λ b. b || is_in ms o) ((same_bytes_decides o m).1 (sym (inside h)))
      | false ↦ λ h. or_late (same_bytes o m) (is_in ms o) (found_in p ms o h)
    ] h
  where
    inside : {x y : Process} → ◌≡◌ {A = Option Process} (Some x) (Some y) → x ≡ y
    inside e = cc

    or_late : (a b : Bool) → b ≡ true → (a || b) ≡ true
    or_late true b h = refl
    or_late false b h = h

observes_nobody : (c : Configuration) (o : Process) → is_in c.members o ≡ false → (k : ℕ) → subject_on c o k ≡ None
unfolding observers_of
observes_nobody c o out k =
    elim (nat_lt k c.params.k) as (λ b. find (λ m. option_eq same_bytes (cond b (ring_observer c.members k m) None) (Some o)) c.members ≡ None) [
      | true ↦ not_found (λ m. option_eq same_bytes (ring_observer c.members k m) (Some o)) c.members (λ m _. never m)
      | false ↦ not_found (λ m. option_eq same_bytes None (Some o)) c.members (λ _ _. refl)
    ]
  where
    never : (m : Process) → option_eq same_bytes (ring_observer c.members k m) (Some o) ≡ false
    never m =
        elim (option_eq same_bytes (ring_observer c.members k m) (Some o)) as (λ b. option_eq same_bytes (ring_observer c.members k m) (Some o) ≡ b → b ≡ false) [
          | true ↦ λ e. sym (found_in (is_next_before c.members k m) c.members o (is_observer (ring_observer c.members k m) o e)) ∙ out
          | false ↦ λ e. refl
        ] refl

no_pairs : {X : Type 0} (f : ℕ → Option X) (ks : List ℕ) → ((k : ℕ) → f k ≡ None) → filter_map f ks ≡ []
no_pairs f [] h = refl
no_pairs f (k ∷ ks) h = ap (λ o. cons_option o (filter_map f ks)) (h k) ∙ no_pairs f ks h

-- who has no place is no member
no_member : (c : Configuration) (o : Process) → position_of c o ≡ None → is_in c.members o ≡ false
no_member c o none = sym (in_by_place (same_bytes o) c.members) ∙ ap is_any none
  where
    is_any : Option ℕ → Bool
    is_any None = false
    is_any (Some _) = true

pub stranger_observes_nobody : (c : Configuration) (o : Process) → position_of c o ≡ None → [] ≡ subjects_of c o
stranger_observes_nobody c o none =
    sym (no_pairs (λ k. option_map (λ s. (k, s)) (subject_on c o k)) (rings (observers_of c)) (λ k. ap (option_map (λ s. (k, s))) (observes_nobody c o (no_member c o none) k)))

pub stranger_has_no_subject : (c : Configuration) (o : Process) (k : ℕ) → position_of c o ≡ None → None ≡ subject_on c o k
stranger_has_no_subject c o k none = sym (observes_nobody c o (no_member c o none) k)

pub stranger_is_no_observer : (c : Configuration) (o : Process) → (observers_of c).is_member o ≡ false → ObservesNobody (observers_of c) o
unfolding observers_of
stranger_is_no_observer c o out k s h =
    elim (nat_lt k c.params.k) as (λ b. cond b (ring_observer c.members k s) None ≡ Some o → ⊥) [
      | true ↦ λ e. no_both (is_in c.members o) (found_in (is_next_before c.members k s) c.members o e) out
      | false ↦ λ e. cc
    ] h
  where
    no_both : (b : Bool) → b ≡ true → b ≡ false → ⊥
    no_both b t f = cc

pub none_observes_itself : (c : Configuration) → NoneObservesItself (observers_of c)
unfolding observers_of
none_observes_itself c k s h =
    elim (nat_lt k c.params.k) as (λ b. cond b (ring_observer c.members k s) None ≡ Some s → ⊥) [
      | true ↦ λ e. no_both (same_bytes s s) _ ((same_bytes_decides s s).1 refl) (passes_found (is_next_before c.members k s) c.members s e)
      | false ↦ λ e. cc
    ] h
  where
    no_both : (a b : Bool) → a ≡ true → (not a && b) ≡ true → ⊥
    no_both true b t h = cc
    no_both false b t h = cc

-- ---- lists

-- one more of a list, under a function
pub map_push : {X Y : Type 0} (f : X → Y) (xs : List X) (i : ℕ) (x : X) → i < length xs → x ≡ get_or xs i x → map f (take (i + 1) xs) ≡ map f (take i xs) ++ f x ∷ []
map_push f xs i x lt is =
    ap (map f) (take_more xs i x lt ∙ ap (λ p. take i xs ++ p ∷ []) (sym is)) ∙ map-append f (take i xs) (x ∷ [])

pub map_whole : {X Y : Type 0} (f : X → Y) (xs : List X) (i : ℕ) → length xs ≤ i → map f (take i xs) ≡ map f xs
map_whole f xs i le = ap (map f) (take_all i xs le)

one_or_none : {X : Type 0} (o : Option X) → cons_option o [] ≡ option_to_list o
one_or_none None = refl
one_or_none (Some x) = refl

-- one more of a list, under a function that may give nothing
pub filter_map_push : {X Y : Type 0} (f : X → Option Y) (xs : List X) (i : ℕ) (x : X) → i < length xs → x ≡ get_or xs i x → filter_map f (take (i + 1) xs) ≡ filter_map f (take i xs) ++ option_to_list (f x)
filter_map_push f xs i x lt is =
    ap (filter_map f) (take_more xs i x lt ∙ ap (λ p. take i xs ++ p ∷ []) (sym is))
    ∙ filter_map-append f (take i xs) (x ∷ []) ∙ ap (λ ys. filter_map f (take i xs) ++ ys) (one_or_none (f x))
