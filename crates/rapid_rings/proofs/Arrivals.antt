-- The seats on the rings of the next configuration, made of those before.
use Rattle.std.proofs.Common.{◌≡◌, ℕ, zero, suc, ◌+◌, ◌-◌, ◌<◌, ◌≤◌, Bool, true, false, cond, not, ◌&&◌, List, [], ◌∷◌, ◌++◌, map, filter, length, get_or, refl, sym, ap, subst, ◌∙◌, Option, Some, None, inl, inr, arith, length-append, append_assoc}
use Rattle.std.specs.Prelude.{All, position, is_some}
use Rattle.std.specs.Option.{option_map}
use Rattle.std.specs.List.{list_any, range_with_len, cons_option, IsDistinct}
use Rattle.std.specs.List.Sorted.{IsPermutation}
use Rattle.std.specs.declared.cmp.Ordering.{Ordering}
use Rattle.std.specs.declared.cmp.Ordering.TheVariants.{Less, Equal, Greater}
use Rattle.std.specs.Ordering.{is_lt, is_eq, ordering_reverse}
use Rattle.std.specs.Cmp.{IsTotalOrder, eq_by_cmp_equiv, then_total, on_total}
use Rattle.std.specs.FinSet as set
use Rattle.std.proofs.lemmas.Bool.{cases_lt}
use Rattle.std.proofs.lemmas.List.{length-map, get_or-map, get_or_append_left, get_or-append_right, map-append}
use Rattle.std.proofs.lemmas.List.Elements.{All-append, All-filter}
use Rattle.std.proofs.lemmas.List.Folds.{list_any_at}
use Rattle.std.proofs.lemmas.List.Kept.{AllPairs-filter}
use Rattle.std.proofs.lemmas.List.Sorted.{IsPermutation-map, All-permutation, list_any-IsPermutation, ranks_by, sorted_far}
use Rattle.std.proofs.lemmas.List.FromFn.{get_or-range_with_len, length-range_with_len}
use Rattle.std.proofs.lemmas.Map.Keys.{IsDistinct-from_apart, IsDistinct-IsPermutation, apart_from_distinct}
use Rattle.std.proofs.lemmas.Map.Made.{is_member-filter}
use Rattle.rapid_model.specs.Process.{Process, bytes_cmp, identifier, same_bytes, is_in}
use Rattle.rapid_model.specs.Configuration.{identifiers_ascend}
use Rattle.std.proofs.lemmas.Cmp.{nat_cmp_total}
use Rattle.rapid_model.proofs.Orders.{processes_total, same_bytes_decides}
use Rattle.rapid_config.proofs.Ascending.{kept_ascends}
use Rattle.rapid_config.proofs.Places.{in_by_place}
use Rattle.rapid_rings.specs.Seats.{Seat, Placed, seat, seats_of, seat_cmp, same_seat, is_below, placed_cmp, placed, with_member, move_to, moved, PlacedAscend, IsOrder}
use Rattle.rapid_rings.specs.Seats as seats
use Rattle.rapid_rings.specs.Following.{places_of_new}
use Rattle.rapid_rings.proofs.Rounds.{seats_total, seats_exact, same_seat_is, own_seat, apart, contains-seats, turned}
use Rattle.rapid_rings.proofs.Stretches.{Rise, rise_ascends, rise_apart}
use Rattle.rapid_rings.proofs.Lookups.{found_place}
use Rattle.rapid_rings.proofs.Following.{own_and_in, seats_after}
use Rattle.rapid_rings.proofs.Orders.{same_order, one_place, nobody, none_placed}
use Rattle.rapid_model.proofs.Among.{filter_among}

-- ---- seats that are put in order

pub placed_total : IsTotalOrder placed_cmp
placed_total = then_total (on_total (λ (x : Placed). x.0) processes_total) (on_total (λ (x : Placed). x.1) nat_cmp_total)

-- seats in order, of which no two are the same, rise
pub in_order : (k : ℕ) (ms : List Process) (xs ys : List Placed) → identifiers_ascend ms ≡ true → All (λ x. x.1 < length ms) xs → IsDistinct same_seat (seats.seated ms xs)
    → set.from_list (seats.seated ms xs) ≡ seats_of k ms → IsPermutation xs ys → PlacedAscend ys → IsOrder k ms ys
in_order k ms xs ys up valid apart_all all moved_there ascend =
    record {
      places = places;
      ascend = λ i j d l m.
          let n : j < length ys = subst (λ n. j < n) (length-map ys (with_member ms)) m in
          let a = get_or (seats.seated ms ys) i d in
          let b = get_or (seats.seated ms ys) j d in
          below a b
          (ap is_lt (sym (turned a b)) ∙ falls i j d (omega (arith, l)) n)
          (apart_from_distinct same_seat (seats.seated ms ys) i j d (IsDistinct-IsPermutation same_seat ((eq_by_cmp_equiv seats_total).symm) (seats.seated ms xs) (seats.seated ms ys) there apart_all) l m);
      seats = set.same_set seats_total seats_exact _ _ (λ q.
          set.contains-from_list seats_total (seats.seated ms ys) q ∙ sym (list_any-IsPermutation (same_seat q) (seats.seated ms xs) (seats.seated ms ys) there)
          ∙ sym (set.contains-from_list seats_total (seats.seated ms xs) q) ∙ ap (λ r. set.contains r q) all);
    }
  where
    places : All (λ x. x.1 < length ms) ys
    places = All-permutation (λ (x : Placed). x.1 < length ms) xs ys moved_there valid

    there : IsPermutation (seats.seated ms xs) (seats.seated ms ys)
    there = IsPermutation-map (with_member ms) xs ys moved_there

    falls : (i j : ℕ) (d : Seat) → i ≤ j → j < length ys → is_below (get_or (seats.seated ms ys) j d) (get_or (seats.seated ms ys) i d) ≡ false
    falls i j d le n =
        ap (λ a. is_below a (get_or (seats.seated ms ys) i d)) (get_or-map (with_member ms) ys j none_placed d n)
        ∙ ap (is_below (with_member ms (get_or ys j none_placed))) (get_or-map (with_member ms) ys i none_placed d (omega (arith, le, n)))
        ∙ ap is_lt (sym (same_order ms (get_or ys j none_placed) (get_or ys i none_placed) up (places j none_placed n) (places i none_placed (omega (arith, le, n)))))
        ∙ sorted_far (λ x y. is_lt (placed_cmp x y)) (ranks_by placed_total (λ (y : Placed). y)) ys ascend i j none_placed le n

    less : (o : Ordering) → is_lt (ordering_reverse o) ≡ false → is_eq o ≡ false → is_lt o ≡ true
    less Less h k = refl
    less Equal h k = cc
    less Greater h k = cc

    below : (a b : Seat) → is_lt (ordering_reverse (seat_cmp a b)) ≡ false → same_seat a b ≡ false → is_below a b ≡ true
    below a b h k = less (seat_cmp a b) h k

-- the seats of a ring ascend by place
pub placed_ascend : (ms : List Process) (xs : List Placed) → identifiers_ascend ms ≡ true → All (λ x. x.1 < length ms) xs → Rise (seats.seated ms xs) → PlacedAscend xs
placed_ascend ms xs up valid rise i d z l =
    let e : length (seats.seated ms xs) ≡ length xs = length-map xs (with_member ms) in
    ap is_lt (same_order ms (get_or xs (i + 1) d) (get_or xs i d) up (valid (i + 1) d l) (valid i d (omega (arith, l))))
    ∙ ap (λ a. is_below a (with_member ms (get_or xs i d))) (sym (get_or-map (with_member ms) xs (i + 1) d nobody l))
    ∙ ap (is_below (get_or (seats.seated ms xs) (i + 1) nobody)) (sym (get_or-map (with_member ms) xs i d nobody (omega (arith, l))))
    ∙ rise_ascends (seats.seated ms xs) rise i nobody z (omega (arith, l, e))

-- ---- seats that are apart

rise_distinct : (xs : List Seat) → Rise xs → IsDistinct same_seat xs
rise_distinct xs up = IsDistinct-from_apart same_seat xs (λ i j d l m. rise_apart xs up i j d l m)

-- the seats of members are apart
members_distinct : (k : ℕ) (ps : List Process) → identifiers_ascend ps ≡ true → IsDistinct same_seat (map (seat k) ps)
members_distinct k ps up =
    IsDistinct-from_apart same_seat (map (seat k) ps) (λ i j d l m.
    let n : j < length ps = subst (λ n. j < n) (length-map ps (seat k)) m in
    let a = get_or ps i [] in
    let b = get_or ps j [] in
    ap (λ x. same_seat x (get_or (map (seat k) ps) j d)) (get_or-map (seat k) ps i [] d (omega (arith, l, n)))
    ∙ ap (same_seat (seat k a)) (get_or-map (seat k) ps j [] d n)
    ∙ apart k a b (differ a b (λ e. let same = one_place ps i j up (omega (arith, l, n)) n e in omega (arith, same, l))))
  where
    differ : (a b : Process) → (a ≡ b → ⊥) → same_bytes a b ≡ false
    differ a b ne =
        elim (same_bytes a b) as (λ t. same_bytes a b ≡ t → t ≡ false) [
          | true ↦ λ e. absurd (ne ((same_bytes_decides a b).0 e))
          | false ↦ λ e. refl
        ] refl

distinct_append : (xs ys : List Seat) → IsDistinct same_seat xs → IsDistinct same_seat ys → ((i j : ℕ) (d : Seat) → i < length xs → j < length ys → same_seat (get_or xs i d) (get_or ys j d) ≡ false) → IsDistinct same_seat (xs ++ ys)
distinct_append xs ys h k cross =
    IsDistinct-from_apart same_seat (xs ++ ys) (λ i j d l m.
    let long : length (xs ++ ys) ≡ length xs + length ys = length-append xs ys in
    elim (cases_lt j (length xs)) [
      | inl left ↦
          ap (λ a. same_seat a (get_or (xs ++ ys) j d)) (get_or_append_left xs ys d i (omega (arith, l, left)))
          ∙ ap (same_seat (get_or xs i d)) (get_or_append_left xs ys d j left)
          ∙ apart_from_distinct same_seat xs i j d h l left
      | inr right ↦
          ap (same_seat (get_or (xs ++ ys) i d)) (get_or-append_right xs ys (length xs) j d refl right)
          ∙ elim (cases_lt i (length xs)) [
            | inl left ↦
                ap (λ a. same_seat a (get_or ys (j - length xs) d)) (get_or_append_left xs ys d i left)
                ∙ cross i (j - length xs) d left (omega (arith, right, m, long))
            | inr both ↦
                ap (λ a. same_seat a (get_or ys (j - length xs) d)) (get_or-append_right xs ys (length xs) i d refl both)
                ∙ apart_from_distinct same_seat ys (i - length xs) (j - length xs) d k (omega (arith, l, both)) (omega (arith, right, m, long))
          ]
    ])

-- those that stay and those that came are apart
pub all_apart : (k : ℕ) (old new : List Process) (xs : List Seat) → identifiers_ascend new ≡ true → Rise xs → set.from_list xs ≡ seats_of k old
    → IsDistinct same_seat (filter (λ (q : Seat). is_in new q.1) xs ++ map (seat k) (filter (λ m. not (is_in old m)) new))
all_apart k old new xs up rise is =
    distinct_append stay come (rise_distinct stay (AllPairs-filter (λ x y. is_below x y ≡ true) (λ (q : Seat). is_in new q.1) xs rise)) (members_distinct k newcomers newcomers_ascend) cross
  where
    stay : List Seat
    stay = filter (λ (q : Seat). is_in new q.1) xs

    newcomers : List Process
    newcomers = filter (λ m. not (is_in old m)) new

    newcomers_ascend : identifiers_ascend newcomers ≡ true
    newcomers_ascend = kept_ascends (λ x y. is_lt (bytes_cmp (identifier x) (identifier y))) identifiers_ascend refl (λ _ _. refl) (λ m. not (is_in old m)) new up

    come : List Seat
    come = map (seat k) newcomers

    parts : (a b : Bool) → (a && b) ≡ true → (a ≡ true) × (b ≡ true)
    parts true b h = (refl, h)
    parts false b h = cc

    was : (a : Seat) → list_any (same_seat a) stay ≡ true → is_in old a.1 ≡ true
    was a h =
        let kept = parts (list_any (same_seat a) xs) (is_in new a.1)
        (sym (is_member-filter (eq_by_cmp_equiv seats_total) (λ (x : Seat). is_in new x.1) a (λ y e. ap (λ (x : Seat). is_in new x.1) (same_seat_is a y e)) xs) ∙ h) in
        (parts (same_seat a (seat k a.1)) (is_in old a.1)
        (sym (own_and_in k old a) ∙ sym (contains-seats k old a) ∙ ap (λ r. set.contains r a) (sym is) ∙ set.contains-from_list seats_total xs a ∙ kept.0)).1

    was_not : (b : Seat) → list_any (same_seat b) come ≡ true → is_in old b.1 ≡ false
    was_not b h =
        let new_one = (parts (same_seat b (seat k b.1)) (is_in newcomers b.1) (sym (own_and_in k newcomers b) ∙ h)).1 in
        out (is_in old b.1) (parts (is_in new b.1) (not (is_in old b.1)) (sym (filter_among (λ m. not (is_in old m)) new b.1) ∙ new_one)).1
      where
        out : (b : Bool) → not b ≡ true → b ≡ false
        out true h = cc
        out false h = refl

    cross : (i j : ℕ) (d : Seat) → i < length stay → j < length come → same_seat (get_or stay i d) (get_or come j d) ≡ false
    cross i j d l m =
        let a = get_or stay i d in
        let b = get_or come j d in
        elim (same_seat a b) as (λ t. same_seat a b ≡ t → t ≡ false) [
          | true ↦ λ e.
              let no : true ≡ false = sym (was a (list_any_at (same_seat a) stay i d l (own_seat a))) ∙ ap (λ (x : Seat). is_in old x.1) (same_seat_is a b e) ∙ was_not b (list_any_at (same_seat b) come j d m (own_seat b)) in
              cc
          | false ↦ λ e. refl
        ] refl

-- ---- seats with their members

-- the seats of members at places are those of the members
seated_placed : (k : ℕ) (ms : List Process) (ps : List ℕ) → seats.seated ms (map (placed k ms) ps) ≡ map (seat k) (map (λ p. get_or ms p []) ps)
seated_placed k ms [] = refl
seated_placed k ms (p ∷ ps) = ap (λ (ss : List Seat). seat k (get_or ms p []) ∷ ss) (seated_placed k ms ps)

-- the members at all places from one on
at_places : (ms before : List Process) (n : ℕ) → n ≡ length before → map (λ p. get_or (before ++ ms) p []) (range_with_len n (length ms)) ≡ ms
at_places [] before n e = refl
at_places (m ∷ ms) before n e =
    let first : get_or (before ++ m ∷ ms) n [] ≡ m = get_or-append_right before (m ∷ ms) n n [] (sym e) (omega arith) ∙ ap (λ i. get_or (m ∷ ms) i []) (minus_self n) in
    let longer : n + 1 ≡ length (before ++ m ∷ []) = sym (length-append before (m ∷ []) ∙ ap (λ i. i + 1) (sym e)) in
    ap (λ (q : Process). q ∷ map (λ p. get_or (before ++ m ∷ ms) p []) (range_with_len (n + 1) (length ms))) first
    ∙ ap (λ (ps : List Process). m ∷ ps) (ap (λ (all : List Process). map (λ p. get_or all p []) (range_with_len (n + 1) (length ms))) (sym (append_assoc before (m ∷ []) ms)) ∙ at_places ms (before ++ m ∷ []) (n + 1) longer)
  where
    minus_self : (n : ℕ) → n - n ≡ 0
    minus_self n = omega arith

filter_at : (ms : List Process) (g : Process → Bool) (ps : List ℕ) → map (λ p. get_or ms p []) (filter (λ p. g (get_or ms p [])) ps) ≡ filter g (map (λ p. get_or ms p []) ps)
filter_at ms g [] = refl
filter_at ms g (p ∷ ps) =
    elim (g (get_or ms p [])) as (λ b. map (λ p. get_or ms p []) (cond b (p ∷ filter (λ p. g (get_or ms p [])) ps) (filter (λ p. g (get_or ms p [])) ps)) ≡ cond b (get_or ms p [] ∷ filter g (map (λ p. get_or ms p []) ps)) (filter g (map (λ p. get_or ms p []) ps))) [
      | true ↦ ap (λ (qs : List Process). get_or ms p [] ∷ qs) (filter_at ms g ps)
      | false ↦ filter_at ms g ps
    ]

pub seats_of_all : (k : ℕ) (ms : List Process) → seats.seated ms (map (placed k ms) (range_with_len 0 (length ms))) ≡ map (seat k) ms
seats_of_all k ms = seated_placed k ms (range_with_len 0 (length ms)) ∙ ap (map (seat k)) (at_places ms [] 0 refl)

pub seats_of_new : (k : ℕ) (old ms : List Process) → seats.seated ms (map (placed k ms) (places_of_new old ms)) ≡ map (seat k) (filter (λ m. not (is_in old m)) ms)
seats_of_new k old ms =
    seated_placed k ms (places_of_new old ms)
    ∙ ap (map (seat k)) (filter_at ms (λ m. not (is_in old m)) (range_with_len 0 (length ms)) ∙ ap (filter (λ m. not (is_in old m))) (at_places ms [] 0 refl))

-- all numbers of a range are below its end
pub range_below : (n : ℕ) → All (λ p. p < n) (range_with_len 0 n)
range_below n i d l =
    let long = length-range_with_len 0 n in
    let e = get_or-range_with_len 0 n i d (omega (arith, l, long)) in
    omega (arith, e, l, long)

-- a member's seat at its new place, if it has one
pub seats_moved : (old ms : List Process) (xs : List Placed) → All (λ x. x.1 < length old) xs
    → (seats.seated ms (moved (map (λ p. position (same_bytes p) ms) old) xs) ≡ filter (λ (q : Seat). is_in ms q.1) (seats.seated old xs)) × All (λ x. x.1 < length ms) (moved (map (λ p. position (same_bytes p) ms) old) xs)
seats_moved old ms [] valid = (refl, λ i d l. absurd (omega (arith, l)))
seats_moved old ms (x ∷ xs) valid =
    let m = get_or old x.1 [] in
    let there : move_to (map (λ p. position (same_bytes p) ms) old) x.1 ≡ position (same_bytes m) ms = get_or-map (λ p. position (same_bytes p) ms) old x.1 [] None (valid 0 x (omega arith)) in
    let rest = seats_moved old ms xs (λ i d l. valid (suc i) d (omega (arith, l))) in
    by (move_to (map (λ p. position (same_bytes p) ms) old) x.1) (position (same_bytes m) ms) there refl (in_by_place (same_bytes m) ms) rest
  where
    Both : List Placed → List Seat → Type 0
    Both kept left = (seats.seated ms kept ≡ left) × All (λ x. x.1 < length ms) kept

    by : (to o : Option ℕ) → to ≡ o → position (same_bytes (get_or old x.1 [])) ms ≡ o → is_some (position (same_bytes (get_or old x.1 [])) ms) ≡ is_in ms (get_or old x.1 [])
        → Both (moved (map (λ p. position (same_bytes p) ms) old) xs) (filter (λ (q : Seat). is_in ms q.1) (seats.seated old xs))
        → Both (cons_option (option_map (λ p. (x.0, p)) to) (moved (map (λ p. position (same_bytes p) ms) old) xs)) (filter (λ (q : Seat). is_in ms q.1) (with_member old x ∷ seats.seated old xs))
    by to None e at in_ms rest =
        let out : is_in ms (get_or old x.1 []) ≡ false = sym in_ms ∙ ap is_some at in
        both (ap (λ o. cons_option (option_map (λ p. (x.0, p)) o) (moved (map (λ p. position (same_bytes p) ms) old) xs)) e)
        (ap (λ b. cond b (with_member old x ∷ filter (λ (q : Seat). is_in ms q.1) (seats.seated old xs)) (filter (λ (q : Seat). is_in ms q.1) (seats.seated old xs))) out) rest
      where
        both : {a b : List Placed} {c d : List Seat} → a ≡ b → c ≡ d → Both b d → Both a c
        both e f h = (ap (seats.seated ms) e ∙ h.0 ∙ sym f, subst (λ (l : List Placed). All (λ x. x.1 < length ms) l) (sym e) h.1)
    by to (Some p) e at in_ms rest =
        let is : is_in ms (get_or old x.1 []) ≡ true = sym in_ms ∙ ap is_some at in
        let place = found_place (same_bytes (get_or old x.1 [])) ms p [] at in
        let same : get_or ms p [] ≡ get_or old x.1 [] = sym ((same_bytes_decides (get_or old x.1 []) (get_or ms p [])).0 place.1) in
        both (ap (λ o. cons_option (option_map (λ p. (x.0, p)) o) (moved (map (λ p. position (same_bytes p) ms) old) xs)) e)
        (ap (λ b. cond b (with_member old x ∷ filter (λ (q : Seat). is_in ms q.1) (seats.seated old xs)) (filter (λ (q : Seat). is_in ms q.1) (seats.seated old xs))) is) (
          ap (λ (m : Process). (x.0, m) ∷ seats.seated ms (moved (map (λ p. position (same_bytes p) ms) old) xs)) same ∙ ap (λ (ss : List Seat). with_member old x ∷ ss) rest.0,
          λ i d l. first i d l rest.1 place.0,
        )
      where
        both : {a b : List Placed} {c d : List Seat} → a ≡ b → c ≡ d → Both b d → Both a c
        both e f h = (ap (seats.seated ms) e ∙ h.0 ∙ sym f, subst (λ (l : List Placed). All (λ x. x.1 < length ms) l) (sym e) h.1)

        first : (i : ℕ) (d : Placed) → i < length ((x.0, p) ∷ moved (map (λ p. position (same_bytes p) ms) old) xs) → All (λ x. x.1 < length ms) (moved (map (λ p. position (same_bytes p) ms) old) xs) → p < length ms
            → (get_or ((x.0, p) ∷ moved (map (λ p. position (same_bytes p) ms) old) xs) i d).1 < length ms
        first zero d l h k = k
        first (suc i) d l h k = h i d (omega (arith, l))

-- ---- the orders of rings

seats_made : (k : ℕ) (ms : List Process) → ◌≡◌ {A = seats.Seats} (set.from_list (map (seat k) ms)) (seats_of k ms)
unfolding seats_of
seats_made k ms = refl

pub placed_below : (k : ℕ) (ms : List Process) (ps : List ℕ) → All (λ p. p < length ms) ps → All (λ x. x.1 < length ms) (map (placed k ms) ps)
placed_below k ms ps h i d l =
    let n : i < length ps = subst (λ n. i < n) (length-map ps (placed k ms)) l in
    subst (λ (x : Placed). x.1 < length ms) (sym (get_or-map (placed k ms) ps i 0 d n)) (h i 0 n)

pub new_below : (old ms : List Process) → All (λ p. p < length ms) (places_of_new old ms)
new_below old ms = All-filter (λ i. not (is_in old (get_or ms i []))) (λ p. p < length ms) (range_with_len 0 (length ms)) (range_below (length ms))

-- the seats of all members, sorted
pub order_of_all : (k : ℕ) (ms : List Process) (ps : List ℕ) (made sorted : List Placed) → identifiers_ascend ms ≡ true → ps ≡ range_with_len 0 (length ms) → made ≡ map (placed k ms) ps
    → IsPermutation made sorted → PlacedAscend sorted → IsOrder k ms sorted
order_of_all k ms ps made sorted up all is there ascend =
    in_order k ms made sorted up
    (subst (λ (xs : List Placed). All (λ x. x.1 < length ms) xs) (sym e) (placed_below k ms (range_with_len 0 (length ms)) (range_below (length ms))))
    (subst (IsDistinct same_seat) (sym same) (members_distinct k ms up))
    (ap (λ (ss : List Seat). set.from_list {R = seat_cmp} ss) same ∙ seats_made k ms)
    there ascend
  where
    e : made ≡ map (placed k ms) (range_with_len 0 (length ms))
    e = is ∙ ap (map (placed k ms)) all

    same : seats.seated ms made ≡ map (seat k) ms
    same = ap (seats.seated ms) e ∙ seats_of_all k ms

-- what goes into the ring of the members that follow
pub record Follow (k : ℕ) (old ms : List Process) (xs : List Placed) (places : List (Option ℕ)) (newcomers : List ℕ) : Type 0 where
  pub up : identifiers_ascend ms ≡ true
  pub order : IsOrder k old xs
  pub moves : places ≡ map (λ p. position (same_bytes p) ms) old
  pub arrivals : newcomers ≡ places_of_new old ms

pub stay_seated : (k : ℕ) (old ms : List Process) (xs : List Placed) (places : List (Option ℕ)) (newcomers : List ℕ) (kept : List Placed) → Follow k old ms xs places newcomers → kept ≡ moved places xs
    → (seats.seated ms kept ≡ filter (λ (q : Seat). is_in ms q.1) (seats.seated old xs)) × All (λ x. x.1 < length ms) kept
stay_seated k old ms xs places newcomers kept f is =
    subst (λ (ys : List Placed). (seats.seated ms ys ≡ filter (λ (q : Seat). is_in ms q.1) (seats.seated old xs)) × All (λ x. x.1 < length ms) ys)
    (sym (is ∙ ap (λ (ps : List (Option ℕ)). moved ps xs) f.moves))
    (seats_moved old ms xs f.order.places)

-- those that stay ascend
pub stay_ascend : (k : ℕ) (old ms : List Process) (xs : List Placed) (places : List (Option ℕ)) (newcomers : List ℕ) (kept : List Placed) → Follow k old ms xs places newcomers → kept ≡ moved places xs → PlacedAscend kept
stay_ascend k old ms xs places newcomers kept f is =
    let stay = stay_seated k old ms xs places newcomers kept f is in
    placed_ascend ms kept f.up stay.1 (subst Rise (sym stay.0) (AllPairs-filter (λ x y. is_below x y ≡ true) (λ (q : Seat). is_in ms q.1) (seats.seated old xs) f.order.ascend))

-- those that stay and those that came, in order
pub order_after : (k : ℕ) (old ms : List Process) (xs : List Placed) (places : List (Option ℕ)) (newcomers : List ℕ) (kept more sorted : List Placed) → Follow k old ms xs places newcomers
    → kept ≡ moved places xs → more ≡ map (placed k ms) newcomers → IsPermutation (kept ++ more) sorted → PlacedAscend sorted → IsOrder k ms sorted
order_after k old ms xs places newcomers kept more sorted f is come there ascend =
    in_order k ms (kept ++ more) sorted f.up
    (All-append (λ x. x.1 < length ms) kept more stay.1 (subst (λ (ys : List Placed). All (λ x. x.1 < length ms) ys) (sym e) (placed_below k ms (places_of_new old ms) (new_below old ms))))
    (subst (IsDistinct same_seat) (sym same) (all_apart k old ms (seats.seated old xs) f.up f.order.ascend f.order.seats))
    (ap (λ (ss : List Seat). set.from_list {R = seat_cmp} ss) same ∙ seats_after k old ms (seats.seated old xs) f.order.seats)
    there ascend
  where
    e : more ≡ map (placed k ms) (places_of_new old ms)
    e = come ∙ ap (map (placed k ms)) f.arrivals

    stay : (seats.seated ms kept ≡ filter (λ (q : Seat). is_in ms q.1) (seats.seated old xs)) × All (λ x. x.1 < length ms) kept
    stay = stay_seated k old ms xs places newcomers kept f is

    same : seats.seated ms (kept ++ more) ≡ filter (λ (q : Seat). is_in ms q.1) (seats.seated old xs) ++ map (seat k) (filter (λ m. not (is_in old m)) ms)
    same =
        map-append (with_member ms) kept more
        ∙ ap (λ (ss : List Seat). ss ++ seats.seated ms more) stay.0
        ∙ ap (λ (ss : List Seat). filter (λ (q : Seat). is_in ms q.1) (seats.seated old xs) ++ ss) (ap (seats.seated ms) e ∙ seats_of_new k old ms)
