-- Journals that grow by an event.
use Rattle.std.proofs.Common.{◌≡◌, ℕ, zero, suc, ◌+◌, ◌<◌, ◌≤◌, Bool, true, false, cond, List, [], ◌∷◌, ◌++◌, length, refl, sym, ap, ◌∙◌, arith, append_assoc, append-nil, length-append, replicate}
use Rattle.std.specs.Prelude.{◌-◌, ◌^◌, nat_lt, slice_get, option_to_list, Option, Some, None, IsSome, Result, Ok, Err, OnOk}
use Rattle.rapid_model.specs.Configuration.{Configuration}
use Rattle.rapid_model.specs.Node.{Event, EdgeDown, Tick, Receive, Leave}
use Rattle.rapid_model.specs.Journal.{JournalRecord, Ticks, Other, events_of, journal_events, with_tick, with_event, is_kept}
use Rattle.rapid_desk.specs.declared.journal.JournalRecord.{JournalRecord as Kept}
use Rattle.rapid_desk.specs.declared.journal.JournalRecord.TheVariants as kept
use Rattle.rapid_desk.specs.Records.{record_of, records_of, last_ticks, joins, added_by}

-- ---- numbers

pub is_below : (m n : ℕ) → nat_lt m n ≡ true → m < n
is_below m n e = grind arith

pub not_below : (m n : ℕ) → nat_lt m n ≡ false → n ≤ m
not_below m n e = grind arith

-- ---- ticks

abbrev ticked : Bool → ℕ → List JournalRecord
ticked b n = cond b (Ticks (n + 1) ∷ []) (Ticks n ∷ Ticks 1 ∷ [])

pub joined : (init : List JournalRecord) (n : ℕ) → nat_lt n (2 ^ 32 - 1) ≡ true → with_tick (init ++ Ticks n ∷ []) ≡ init ++ Ticks (n + 1) ∷ []
joined [] n h = ap (λ b. ticked b n) h
joined (x ∷ []) n h = ap (λ l. x ∷ l) (ap (λ b. ticked b n) h)
joined (x ∷ y ∷ init) n h = ap (λ l. x ∷ l) (joined (y ∷ init) n h)

last_apart : (r : JournalRecord) → joins (r ∷ []) ≡ false → with_tick (r ∷ []) ≡ r ∷ Ticks 1 ∷ []
last_apart (Ticks n) h = ap (λ b. ticked b n) h
last_apart (Other e) h = refl

pub tick_length : (j : List JournalRecord) → length (with_tick j) ≡ length j + cond (joins j) 0 1
tick_length [] = refl
tick_length (Ticks n ∷ []) = by (nat_lt n (2 ^ 32 - 1))
  where
    by : (b : Bool) → length (ticked b n) ≡ 1 + cond b 0 1
    by true = refl
    by false = refl
tick_length (Other e ∷ []) = refl
tick_length (x ∷ y ∷ j) = let h = tick_length (y ∷ j) in omega (arith, h)

-- ---- the ticks at the end

-- a tick more is joined to as many ticks
abbrev takes_tick : Option ℕ → Bool
takes_tick None = false
takes_tick (Some n) = nat_lt n (2 ^ 32 - 1)

pub joins_by_ticks : (j : List JournalRecord) → joins j ≡ takes_tick (last_ticks j)
joins_by_ticks [] = refl
joins_by_ticks (Ticks n ∷ []) = refl
joins_by_ticks (Other e ∷ []) = refl
joins_by_ticks (x ∷ y ∷ j) = joins_by_ticks (y ∷ j)

ticks_push : (init : List JournalRecord) (r : JournalRecord) → last_ticks (init ++ r ∷ []) ≡ last_ticks (r ∷ [])
ticks_push [] r = refl
ticks_push (x ∷ []) r = refl
ticks_push (x ∷ y ∷ init) r = ticks_push (y ∷ init) r

-- the last record of the code
abbrev pub ticks_at : Option Configuration → Option Kept → Option ℕ
ticks_at c None = None
ticks_at c (Some r) = last_ticks (record_of c r ∷ [])

ticks_last : (c : Option Configuration) (x : Kept) (js : List Kept) → last_ticks (records_of c (x ∷ js)) ≡ ticks_at c (slice_get (x ∷ js) (length js))
ticks_last c x [] = refl
ticks_last c x (y ∷ js) = ticks_last c y js

last_place : (n : ℕ) → suc n - 1 ≡ n
last_place n = omega arith

pub last_is_at : (c : Option Configuration) (js : List Kept) (r : Option Kept) → r ≡ slice_get js (length js - 1) → last_ticks (records_of c js) ≡ ticks_at c r
last_is_at c [] r is = sym (ap (ticks_at c) is)
last_is_at c (x ∷ js) r is = ticks_last c x js ∙ ap (λ k. ticks_at c (slice_get (x ∷ js) k)) (sym (last_place (length js))) ∙ sym (ap (ticks_at c) is)

pub records_push : (c : Option Configuration) (init : List Kept) (r : Kept) → records_of c (init ++ r ∷ []) ≡ records_of c init ++ record_of c r ∷ []
records_push c [] r = refl
records_push c (x ∷ init) r = ap (λ l. record_of c x ∷ l) (records_push c init r)

-- a tick more is joined to a number that has room for it
pub ticks_below : (j : List JournalRecord) (n : ℕ) → joins j ≡ true → last_ticks j ≡ Some n → n < 4294967295
ticks_below j n h at = is_below n 4294967295 (ap takes_tick (sym at) ∙ sym (joins_by_ticks j) ∙ h)

pub some_ticks : (j : List JournalRecord) → joins j ≡ true → last_ticks j ≡ None → ⊥
some_ticks j h none = let wrong : true ≡ false = sym h ∙ joins_by_ticks j ∙ ap takes_tick none in cc

ticks_are : (r : JournalRecord) (n : ℕ) → last_ticks (r ∷ []) ≡ Some n → r ≡ Ticks n
ticks_are (Ticks m) n h = cc
ticks_are (Other e) n h = cc

some_last : (c : Option Configuration) (js : List Kept) (n : ℕ) → last_ticks (records_of c js) ≡ Some n → 0 < length js
some_last c [] n h = cc
some_last c (x ∷ js) n h = omega arith

-- the last record comes back with a tick more
pub grown : (c : Option Configuration) (js init new : List Kept) (r : Option Kept) (m n : ℕ) → js ≡ init ++ option_to_list r → m ≡ length js → (0 < m → IsSome r) → joins (records_of c js) ≡ true → last_ticks (records_of c js) ≡ Some n → new ≡ init ++ kept.Ticks (n + 1) ∷ []
    → records_of c new ≡ with_tick (records_of c js)
grown c js init new None m n is len some h at now = let wrong : false ≡ true = some (omega (arith, len, some_last c js n at)) in cc
grown c js init new (Some r) m n is len some h at now =
    let end : records_of c js ≡ records_of c init ++ record_of c r ∷ [] = ap (records_of c) is ∙ records_push c init r in
    let last : record_of c r ≡ Ticks n = ticks_are (record_of c r) n (sym (ticks_push (records_of c init) (record_of c r)) ∙ ap last_ticks (sym end) ∙ at) in
    let few : nat_lt n (2 ^ 32 - 1) ≡ true = ap takes_tick (sym at) ∙ sym (joins_by_ticks (records_of c js)) ∙ h in
    ap (records_of c) now ∙ records_push c init (kept.Ticks (n + 1)) ∙ sym (joined (records_of c init) n few)
    ∙ ap (λ x. with_tick (records_of c init ++ x ∷ [])) (sym last) ∙ ap with_tick (sym end)

pub apart_all : (j : List JournalRecord) → joins j ≡ false → with_tick j ≡ j ++ Ticks 1 ∷ []
apart_all [] h = refl
apart_all (r ∷ []) h = last_apart r h
apart_all (x ∷ y ∷ j) h = ap (λ l. x ∷ l) (apart_all (y ∷ j) h)

-- ---- the events of a journal

pub events_append : (j k : List JournalRecord) → journal_events (j ++ k) ≡ journal_events j ++ journal_events k
events_append [] k = refl
events_append (r ∷ j) k = ap (λ l. events_of r ++ l) (events_append j k) ∙ sym (append_assoc (events_of r) (journal_events j) (journal_events k))

push_tick : (n : ℕ) → replicate n Tick ++ Tick ∷ [] ≡ Tick ∷ replicate n Tick
push_tick zero = refl
push_tick (suc n) = ap (λ l. Tick ∷ l) (push_tick n)

more_ticks : (n m : ℕ) → m ≡ suc n → replicate m Tick ≡ Tick ∷ replicate n Tick
more_ticks n m e = ap (λ k. replicate k Tick) e

pub ticked_events : (j : List JournalRecord) → journal_events (with_tick j) ≡ journal_events j ++ Tick ∷ []
ticked_events [] = refl
ticked_events (Ticks n ∷ []) = by (nat_lt n (2 ^ 32 - 1))
  where
    by : (b : Bool) → journal_events (ticked b n) ≡ (replicate n Tick ++ []) ++ Tick ∷ []
    by true =
        append-nil (replicate (n + 1) Tick) ∙ more_ticks n (n + 1) (omega arith) ∙ sym (push_tick n)
        ∙ ap (λ l. l ++ Tick ∷ []) (sym (append-nil (replicate n Tick)))
    by false = ap (λ l. l ++ Tick ∷ []) (sym (append-nil (replicate n Tick)))
ticked_events (Other e ∷ []) = refl
ticked_events (x ∷ y ∷ j) =
    ap (λ l. events_of x ++ l) (ticked_events (y ∷ j)) ∙ sym (append_assoc (events_of x) (journal_events (y ∷ j)) (Tick ∷ []))

-- ---- any event

abbrev pub is_kept_event : Event → Bool
is_kept_event Tick = true
is_kept_event (EdgeDown id k p) = true
is_kept_event (Receive m) = is_kept m.body
is_kept_event Leave = true

pub event_length : (j : List JournalRecord) (e : Event) → length (with_event j e) ≡ length j + added_by j e
event_length j Tick = tick_length j
event_length j (EdgeDown id k p) = length-append j (Other (EdgeDown id k p) ∷ [])
event_length j Leave = length-append j (Other Leave ∷ [])
event_length j (Receive m) = by (is_kept m.body)
  where
    by : (b : Bool) → length (cond b (j ++ Other (Receive m) ∷ []) j) ≡ length j + cond b 1 0
    by true = length-append j (Other (Receive m) ∷ [])
    by false = omega arith

pub kept_events : (j : List JournalRecord) (e : Event) → is_kept_event e ≡ true → journal_events (with_event j e) ≡ journal_events j ++ e ∷ []
kept_events j Tick h = ticked_events j
kept_events j (EdgeDown id k p) h = events_append j (Other (EdgeDown id k p) ∷ [])
kept_events j Leave h = events_append j (Other Leave ∷ [])
kept_events j (Receive m) h = ap (λ b. journal_events (cond b (j ++ Other (Receive m) ∷ []) j)) h ∙ events_append j (Other (Receive m) ∷ [])

pub left_out : (j : List JournalRecord) (e : Event) → is_kept_event e ≡ false → with_event j e ≡ j
left_out j Tick h = cc
left_out j (EdgeDown id k p) h = cc
left_out j Leave h = cc
left_out j (Receive m) h = ap (λ b. cond b (j ++ Other (Receive m) ∷ []) j) h

pub on_ok : {A B : Type 0} {P Q : Type 0} (r : Result A B) → (P → Q) → OnOk r P → OnOk r Q
on_ok (Ok a) f h = f h
on_ok (Err e) f h = tt
