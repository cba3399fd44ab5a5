-- What a member observes on a ring: the member in the seat next after its own.
use Rattle.std.proofs.Common.{◌≡◌, ℕ, Bool, true, false, not, ◌&&◌, ◌||◌, cond, List, [], ◌∷◌, refl, sym, ap, subst, ◌∙◌, Some, None}
use Rattle.std.specs.Prelude.{Option}
use Rattle.std.specs.Option.{option_map, option_eq}
use Rattle.std.specs.List.{list_all, find}
use Rattle.std.specs.declared.cmp.Ordering.{Ordering}
use Rattle.std.specs.declared.cmp.Ordering.TheVariants.{Less, Equal, Greater}
use Rattle.std.specs.Ordering.{ordering_reverse, is_eq}
use Rattle.rapid_model.specs.Process.{Process, same_bytes, is_in}
use Rattle.rapid_model.specs.Ring.{is_between, is_next_before, ring_observer}
use Rattle.rapid_model.proofs.Orders.{same_bytes_decides}
use Rattle.rapid_rings.specs.Seats.{Seat, seat_cmp, same_seat, seat, seats_of, is_below, sits_between, IsNextBefore, IsNextAfter}
use Rattle.rapid_rings.proofs.Rounds.{same_seat_is, turned, only_one, contains-seats, seated, seats_have, found, not_found, apart, each_passes, observer_in_seat}
use Rattle.std.proofs.lemmas.Bool.{and_parts, not-true}

rotated : (a b c : Bool) → (a || b || c) ≡ false → (b || c || a) ≡ false
rotated true b c h = cc
rotated false true c h = cc
rotated false false true h = cc
rotated false false false h = refl

-- of two seats one is between a third and the other
one_after : (o x m : Seat) → same_seat x o ≡ false → same_seat m o ≡ false → sits_between o x m ≡ false → sits_between o m x ≡ false → x ≡ m
one_after o x m p q h k =
    only_one x m o p q
    (rotated (is_below o x && is_below x m) (is_below x m && is_below m o) (is_below m o && is_below o x) h)
    (rotated (is_below o m && is_below m x) (is_below m x && is_below x o) (is_below x o && is_below o m) k)

pub is_observer : (r : Option Process) (o : Process) → option_eq same_bytes r (Some o) ≡ true → r ≡ Some o
is_observer None o h = cc
is_observer (Some p) o h = ap Some ((same_bytes_decides p o).0 h)

pub passes_found : (p : Process → Bool) (ms : List Process) (o : Process) → find p ms ≡ Some o → p o ≡ true
passes_found p [] o h = cc
passes_found p (m ∷ ms) o h =
    elim (p m) as (λ b. p m ≡ b → cond b (Some m) (find p ms) ≡ Some o → p o ≡ true) [
      | true ↦ λ e h. subst (λ x. p x ≡ true) (inside h) e
      | false ↦ λ e h. passes_found p ms o h
    ] refl h
  where
    inside : {x y : Process} → ◌≡◌ {A = Option Process} (Some x) (Some y) → x ≡ y
    inside e = cc

pub turned_apart : (x s : Seat) → same_seat x s ≡ false → same_seat s x ≡ false
turned_apart x s h = ap is_eq (turned x s) ∙ still_apart (seat_cmp x s) h
  where
    still_apart : (o : Ordering) → is_eq o ≡ false → is_eq (ordering_reverse o) ≡ false
    still_apart Less h = refl
    still_apart Equal h = cc
    still_apart Greater h = refl

-- the member whose observer is o is the one in the seat next after
pub subject_in_seat : (k : ℕ) (ms : List Process) (o : Process) (r : Option Seat) → is_in ms o ≡ true → IsNextAfter (seats_of k ms) (seat k o) r
    → option_map (λ x. x.1) r ≡ find (λ m. option_eq same_bytes (ring_observer ms k m) (Some o)) ms
subject_in_seat k ms o None there h =
    sym (not_found (λ m. option_eq same_bytes (ring_observer ms k m) (Some o)) ms (λ m at.
    let same = same_seat_is (seat k m) (seat k o) (h (seat k m) (contains-seats k ms (seat k m) ∙ seats_have k ms m at)) in
    ap (λ (y : Seat). option_eq same_bytes (ring_observer ms k y.1) (Some o)) same
    ∙ ap (λ (r : Option Process). option_eq same_bytes r (Some o)) (sym (observer_in_seat k ms o None h))))
subject_in_seat k ms o (Some x) there h =
    let is = seated k ms x (sym (contains-seats k ms x) ∙ h.0) in
    sym (found (λ m. option_eq same_bytes (ring_observer ms k m) (Some o)) ms x.1 is.1 (passes is.0) (λ m at observed. only is.0 is.1 m at (is_observer (ring_observer ms k m) o observed)))
  where
    own_seat_next : x ≡ seat k x.1 → IsNextBefore (seats_of k ms) (seat k x.1) (Some (seat k o))
    own_seat_next e = (
      contains-seats k ms (seat k o) ∙ seats_have k ms o there,
      subst (λ y. same_seat (seat k o) y ≡ false) e (turned_apart x (seat k o) h.1),
      λ q at. subst (λ y. sits_between (seat k o) q y ≡ false) e (h.2 q at),
    )

    passes : x ≡ seat k x.1 → option_eq same_bytes (ring_observer ms k x.1) (Some o) ≡ true
    passes e =
        ap (λ (r : Option Process). option_eq same_bytes r (Some o)) (sym (observer_in_seat k ms x.1 (Some (seat k o)) (own_seat_next e)))
        ∙ (same_bytes_decides o o).1 refl

    only : x ≡ seat k x.1 → is_in ms x.1 ≡ true → (m : Process) → is_in ms m ≡ true → ring_observer ms k m ≡ Some o → m ≡ x.1
    only e in_ring m at observed =
        let parts = and_parts (not (same_bytes o m)) (list_all (λ q. not (is_between k o q m)) ms) (passes_found (is_next_before ms k m) ms o observed) in
        let free = not-true (is_between k o x.1 m) (each_passes (λ q. not (is_between k o q m)) ms x.1 parts.1 in_ring) in
        sym (ap (λ (y : Seat). y.1) (one_after (seat k o) (seat k x.1) (seat k m)
        (subst (λ y. same_seat y (seat k o) ≡ false) e h.1)
        (turned_apart (seat k o) (seat k m) (apart k o m (not-true (same_bytes o m) parts.0)))
        free
        (subst (λ y. sits_between (seat k o) (seat k m) y ≡ false) e (h.2 (seat k m) (contains-seats k ms (seat k m) ∙ seats_have k ms m at)))))
