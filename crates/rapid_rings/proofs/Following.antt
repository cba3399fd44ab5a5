-- The next rings are made of the rings before.
use Rattle.std.proofs.Common.{◌≡◌, ℕ, ◌+◌, ◌<◌, Bool, true, false, cond, not, ◌&&◌, ◌||◌, List, [], ◌∷◌, ◌++◌, get_or, Option, Some, None, inl, inr, ◌⊎◌, ◌≤◌, arith, slice_get, position, map, filter, length, refl, sym, ap, subst, ◌∙◌}
use Rattle.std.specs.Prelude.{Ok, Err, Result, IfOk}
use Rattle.std.specs.List.{list_any, range_with_len}
use Rattle.std.specs.declared.cmp.Ordering.TheVariants.{Equal}
use Rattle.std.specs.Cmp.{both_ways, eq_by_cmp_equiv, tied_itself}
use Rattle.std.specs.FinSet as set
use Rattle.std.proofs.lemmas.Map.Made.{is_member-filter}
use Rattle.std.proofs.lemmas.List.{append-nil, get_or_default, get_or-map, length-map}
use Rattle.std.proofs.lemmas.Option.{slice_get_cases, get_or_from_slice_get}
use Rattle.std.proofs.lemmas.List.Elements.{filter-append}
use Rattle.std.proofs.lemmas.List.Folds.{list_any-append}
use Rattle.rapid_model.specs.Configuration.{identifiers_ascend}
use Rattle.rapid_model.specs.Process.{Process, identifier, same_bytes, is_in}
use Rattle.rapid_model.proofs.Orders.{same_bytes_decides}
use Rattle.rapid_config.proofs.Ascending.{bytes_total}
use Rattle.rapid_config.proofs.Places.{found_at, by_identifier}
use Rattle.rapid_rings.specs.Seats.{Seat, Seats, seat, seats_of, same_seat}
use Rattle.rapid_rings.proofs.Lookups.{found_member}
use Rattle.rapid_rings.proofs.Numbers.{range_more}
use Rattle.rapid_rings.proofs.Sets.{own}
use Rattle.rapid_rings.proofs.Rounds.{seats_total, seats_exact, contains-seats, seated, seats_have, same_seat_is, own_seat}
use Rattle.rapid_model.proofs.Among.{filter_among}

-- ---- the seats of the next ring

pub own_and_in : (k : ℕ) (ms : List Process) (q : Seat) → list_any (same_seat q) (map (seat k) ms) ≡ (same_seat q (seat k q.1) && is_in ms q.1)
own_and_in k ms q =
    both_ways _ _
    (λ h. let at = seated k ms q h in and_both (same_seat q (seat k q.1)) (is_in ms q.1) (subst (λ x. same_seat q x ≡ true) at.0 (own_seat q)) at.1)
    (λ h. let at = both (same_seat q (seat k q.1)) (is_in ms q.1) h in subst (λ x. list_any (same_seat x) (map (seat k) ms) ≡ true) (sym (same_seat_is q (seat k q.1) at.0)) (seats_have k ms q.1 at.1))
  where
    and_both : (a b : Bool) → a ≡ true → b ≡ true → (a && b) ≡ true
    and_both true b h e = e
    and_both false b h e = cc

    both : (a b : Bool) → (a && b) ≡ true → (a ≡ true) × (b ≡ true)
    both true b h = (refl, h)
    both false b h = cc

left_and_come : (w o n : Bool) → (((w && o) && n) || (w && (n && not o))) ≡ (w && n)
left_and_come true true true = refl
left_and_come true true false = refl
left_and_come true false true = refl
left_and_come true false false = refl
left_and_come false o n = refl

-- the seats of those that stay and of those that came are those of the members
pub seats_after : (k : ℕ) (old new : List Process) (xs : List Seat) → set.from_list xs ≡ seats_of k old
    → ◌≡◌ {A = Seats} (set.from_list (filter (λ (q : Seat). is_in new q.1) xs ++ map (seat k) (filter (λ m. not (is_in old m)) new))) (seats_of k new)
seats_after k old new xs b =
    set.same_set seats_total seats_exact _ (seats_of k new) (λ q.
    set.contains-from_list seats_total _ q
    ∙ list_any-append (same_seat q) (filter (λ (q : Seat). is_in new q.1) xs) (map (seat k) (filter (λ m. not (is_in old m)) new))
    ∙ ap (λ c. c || list_any (same_seat q) (map (seat k) (filter (λ m. not (is_in old m)) new)))
    (is_member-filter (eq_by_cmp_equiv seats_total) (λ (x : Seat). is_in new x.1) q (λ y e. ap (λ (x : Seat). is_in new x.1) (same_seat_is q y e)) xs
    ∙ ap (λ c. c && is_in new q.1) (sym (set.contains-from_list seats_total xs q) ∙ ap (λ r. set.contains r q) b ∙ contains-seats k old q ∙ own_and_in k old q))
    ∙ ap (λ c. ((same_seat q (seat k q.1) && is_in old q.1) && is_in new q.1) || c)
    (own_and_in k (filter (λ m. not (is_in old m)) new) q ∙ ap (λ c. same_seat q (seat k q.1) && c) (filter_among (λ m. not (is_in old m)) new q.1))
    ∙ left_and_come (same_seat q (seat k q.1)) (is_in old q.1) (is_in new q.1)
    ∙ sym (contains-seats k new q ∙ own_and_in k new q))

-- ---- what is made of rings before

pub if_ok : {A E : Type 0} {P Q : A → Type 0} (r : Result A E) → ((x : A) → P x → Q x) → IfOk r P → IfOk r Q
if_ok (Ok x) f h = f x h
if_ok (Err e) f h = h

-- one more number of those that are left by a test
pub left_more : (g : ℕ → Bool) (n : ℕ) → filter (λ i. not (g i)) (range_with_len 0 (n + 1)) ≡ cond (g n) (filter (λ i. not (g i)) (range_with_len 0 n)) (filter (λ i. not (g i)) (range_with_len 0 n) ++ n ∷ [])
left_more g n =
    ap (filter (λ i. not (g i))) (range_more n) ∙ filter-append (λ i. not (g i)) (range_with_len 0 n) (n ∷ []) ∙ one (g n)
  where
    one : (b : Bool) → filter (λ i. not (g i)) (range_with_len 0 n) ++ cond (not b) (n ∷ []) [] ≡ cond b (filter (λ i. not (g i)) (range_with_len 0 n)) (filter (λ i. not (g i)) (range_with_len 0 n) ++ n ∷ [])
    one true = append-nil (filter (λ i. not (g i)) (range_with_len 0 n))
    one false = refl

-- a member that is where it was guessed to be
pub at_guess : (ms : List Process) (p q : Process) (i : ℕ) → identifiers_ascend ms ≡ true → i < length ms → q ≡ get_or ms i q → same_bytes p q ≡ true → position (same_bytes p) ms ≡ Some i
at_guess ms p q i up l at t =
    let here : q ≡ get_or ms i p = at ∙ get_or_default ms i q p l in
    let same : p ≡ get_or ms i p = (same_bytes_decides p q).0 t ∙ here in
    found_at ms p i up l
    (λ d. subst (λ x. by_identifier p x ≡ Equal) (same ∙ get_or_default ms i p d l) (tied_itself bytes_total (identifier p)))
    (subst (λ x. same_bytes p x ≡ true) here t)

-- a process that stands at a place after stood at the place before that names it
pub stays_there : (olds news : List Process) (places : List (Option ℕ)) (g i : ℕ) → identifiers_ascend olds ≡ true → places ≡ map (λ p. position (same_bytes p) news) olds → slice_get places g ≡ Some (Some i) → Some g ≡ position (same_bytes (get_or news i [])) olds
stays_there olds news places g i up b h =
    let at = slice_get_cases places g in
    from at.1
  where
    from : ((x : Option ℕ) × (g < length places) × (slice_get places g ≡ Some x) × (get_or places g x ≡ x)) ⊎ ((length places ≤ g) × (slice_get places g ≡ None)) → Some g ≡ position (same_bytes (get_or news i [])) olds
    from (inr (_, e)) = absurd (some_is_not_none (sym h ∙ e))
      where
        some_is_not_none : ◌≡◌ {A = Option (Option ℕ)} (Some (Some i)) None → ⊥
        some_is_not_none e = cc
    from (inl (x, l, e, _)) =
        let within : g < length olds = omega (arith, l, ap (λ (ps : List (Option ℕ)). length ps) b, length-map olds (λ p. position (same_bytes p) news)) in
        let o = get_or olds g [] in
        let named : position (same_bytes o) news ≡ Some i =
        sym (get_or-map (λ p. position (same_bytes p) news) olds g [] None within) ∙ ap (λ (ps : List (Option ℕ)). get_or ps g None) (sym b) ∙ get_or_from_slice_get places g (Some i) None h in
        let same : get_or news i [] ≡ o = get_or_from_slice_get news i o [] (found_member news o i named) in
        sym (at_guess olds (get_or news i []) o g up within (sym (get_or_default olds g o [] within)) (subst (λ q. same_bytes q o ≡ true) (sym same) (own o)))
