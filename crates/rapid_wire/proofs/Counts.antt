-- Lists are judged by the number that they announce: another than they may have, and they are nothing.
use Rattle.std.proofs.Common.{◌≡◌, ℕ, zero, suc, ◌<◌, ◌≤◌, Bool, true, false, cond, eqb, List, [], ◌∷◌, length, map, arith, Option, Some, None, refl, sym, ap, subst, ◌∙◌}
use Rattle.std.specs.Prelude.{◌&&◌, nat_le}
use Rattle.std.proofs.lemmas.Bool.{lt-ltb, leb-true, and_parts}
use Rattle.rapid_model.specs.Process.{Process}
use Rattle.std.proofs.lemmas.List.{length-map}
use Rattle.rapid_model.specs.Alert.{Alert}
use Rattle.rapid_model.specs.Message.{AlertItem, item_of}
use Rattle.rapid_wire.specs.Reading.{Reader, ◌>>=◌, only, many, counted, all_of, byte_at, number_at, process_at, is_cut, cut_at, item_at, is_batch, items_at, are_observers, observers_at}
use Rattle.rapid_wire.proofs.Readers.{bind_some, some_is, if_some}

-- as many values are read as were announced
pub as_many : {A : Type 0} (r : Reader A) (n : ℕ) (bytes : List ℕ) (xs : List A × List ℕ) → many n r bytes ≡ Some xs → length xs.0 ≡ n
unfolding many
as_many {A} r zero bytes xs e =
    let whole : List A × List ℕ = ([], bytes) in
    subst (λ (z : List A × List ℕ). length z.0 ≡ 0) (some_is whole xs e) refl
as_many {A} r (suc n) bytes xs e =
    let one = bind_some (r bytes) (λ x. many n r x.1 >>= λ y. Some (x.0 ∷ y.0, y.1)) xs e in
    let two = bind_some (many n r one.0.1) (λ y. Some (one.0.0 ∷ y.0, y.1)) xs one.2 in
    let whole : List A × List ℕ = (one.0.0 ∷ two.0.0, two.0.1) in
    subst (λ (z : List A × List ℕ). length z.0 ≡ suc n) (some_is whole xs two.2) (ap suc (as_many r n one.0.1 two.0 two.1))

-- no list that can be read passes the test
none_passes : {A : Type 0} (test : List A → Bool) (read : Option (List A × List ℕ)) → ((xs : List A × List ℕ) → read ≡ Some xs → test xs.0 ≡ false)
    → ((read >>= λ x. cond (test x.0) (Some x) None) >>= λ x. cond (eqb (length x.1) 0) (Some x.0) None) ≡ None
none_passes test None h = refl
none_passes test (Some x) h = rw (h x refl) refl

-- nor does one of the announced length
none_announced : {A : Type 0} (test : List A → Bool) (r : Reader A) (count : Reader ℕ) (bytes rest : List ℕ) (n : ℕ) → count bytes ≡ Some (n, rest)
    → ((xs : List A) → length xs ≡ n → test xs ≡ false) → all_of (only test (counted count r)) bytes ≡ None
none_announced test r count bytes rest n e h =
    rw (e) (none_passes test (many n r rest) (λ xs k. h xs.0 (as_many r n rest xs k)))

-- each list of the announced length passes
all_announced : {A : Type 0} (test : List A → Bool) (r : Reader A) (count : Reader ℕ) (bytes rest after : List ℕ) (n : ℕ) (xs : List A) (u : Unit {0})
    → count bytes ≡ Some (n, rest) → many n r rest ≡ Some (xs, after) → ((ys : List A) → length ys ≡ n → test ys ≡ true)
    → cond (eqb (length after) 0) (Some tt) None ≡ Some u → all_of (only test (counted count r)) bytes ≡ Some xs
all_announced test r count bytes rest after n xs u e m h end =
    let passes = h xs (as_many r n rest (xs, after) m) in
    let none = (if_some (eqb (length after) 0) tt u end).0 in
    rw (e, m, passes, none) refl

no_cut : (xs : List Process) → 1536 < length xs → is_cut xs ≡ false
no_cut [] more = refl
no_cut (p ∷ ps) more = rw (lt-ltb 1536 (length (p ∷ ps)) more) refl

-- no cut has more than 1,536 processes
pub too_many_in_cut : (bytes rest : List ℕ) (n : ℕ) → number_at bytes ≡ Some (n, rest) → 1536 < n → all_of cut_at bytes ≡ None
unfolding cut_at
too_many_in_cut bytes rest n e more =
    none_announced is_cut process_at number_at bytes rest n e (λ xs k. no_cut xs (subst (λ m. 1536 < m) (sym k) more))

-- the number is neither zero nor above the most
abbrev pub is_within : ℕ → ℕ → Bool
is_within most n = nat_le 1 n && nat_le n most

pub bounds : (most n : ℕ) → is_within most n ≡ true → (1 ≤ n) × (n ≤ most)
bounds most n h = let p = and_parts (nat_le 1 n) (nat_le n most) h in (leb-true 1 n p.0, leb-true n most p.1)

-- a batch has 1 to 2,048 alerts
pub no_batch_announced : (bytes rest : List ℕ) (n : ℕ) → number_at bytes ≡ Some (n, rest) → is_within 2048 n ≡ false → all_of items_at bytes ≡ None
unfolding items_at
no_batch_announced bytes rest n e h =
    none_announced is_batch item_at number_at bytes rest n e (λ xs k. ap (is_within 2048) k ∙ h)

pub batch_announced : (bytes rest after : List ℕ) (n : ℕ) (xs : List AlertItem) (u : Unit {0}) → number_at bytes ≡ Some (n, rest)
    → many n item_at rest ≡ Some (xs, after) → is_within 2048 n ≡ true → cond (eqb (length after) 0) (Some tt) None ≡ Some u → all_of items_at bytes ≡ Some xs
unfolding items_at
batch_announced bytes rest after n xs u e m h end =
    all_announced is_batch item_at number_at bytes rest after n xs u e m (λ ys k. ap (is_within 2048) k ∙ h) end

-- a joiner has 1 to 16 observers
pub no_observers_announced : (bytes rest : List ℕ) (n : ℕ) → byte_at bytes ≡ Some (n, rest) → is_within 16 n ≡ false → all_of observers_at bytes ≡ None
unfolding observers_at
no_observers_announced bytes rest n e h =
    none_announced are_observers process_at byte_at bytes rest n e (λ xs k. ap (is_within 16) k ∙ h)

pub observers_announced : (bytes rest after : List ℕ) (n : ℕ) (os : List Process) (u : Unit {0}) → byte_at bytes ≡ Some (n, rest)
    → many n process_at rest ≡ Some (os, after) → is_within 16 n ≡ true → cond (eqb (length after) 0) (Some tt) None ≡ Some u → all_of observers_at bytes ≡ Some os
unfolding observers_at
observers_announced bytes rest after n os u e m h end =
    all_announced are_observers process_at byte_at bytes rest after n os u e m (λ ys k. ap (is_within 16) k ∙ h) end

-- as many are read, which is neither none nor more than there may be
pub some_and_few : {A : Type 0} (r : Reader A) (most n : ℕ) (bytes after : List ℕ) (xs : List A) → many n r bytes ≡ Some (xs, after) → is_within most n ≡ true
    → (1 ≤ length xs) × (length xs ≤ most)
some_and_few r most n bytes after xs m h = bounds most (length xs) (ap (is_within most) (as_many r n bytes (xs, after) m) ∙ h)

pub some_and_few_alerts : (xs : List Alert) (n : ℕ) (bytes after : List ℕ) → many n item_at bytes ≡ Some (map item_of xs, after) → is_within 2048 n ≡ true
    → (1 ≤ length xs) × (length xs ≤ 2048)
some_and_few_alerts xs n bytes after m h =
    let has = some_and_few item_at 2048 n bytes after (map item_of xs) m h in
    let same = length-map xs item_of in
    let some = has.0 in
    let few = has.1 in
    (omega (arith, some, same), omega (arith, few, same))
