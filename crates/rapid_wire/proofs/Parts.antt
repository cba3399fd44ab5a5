-- The parts of frames are read exactly if they are spelt.
use Rattle.std.proofs.Common.{◌≡◌, ℕ, ◌+◌, ◌^◌, ◌<◌, ◌≤◌, ◌⊎◌, inl, inr, Bool, true, false, not, ◌&&◌, ◌||◌, cond, eqb, List, [], ◌∷◌, ◌++◌, length, drop, Option, Some, None, refl, sym, ap, subst, ◌∙◌, arith}
use Rattle.std.specs.Prelude.{All, map, is_none, nat_lt, nat_le, Result, Ok, Err}
use Rattle.std.specs.Result.{result_ok}
use Rattle.std.specs.List.{concat}
use Rattle.std.specs.Int.{w16, to_be_bytes}
use Rattle.std.proofs.lemmas.List.{drop-drop}
use Rattle.std.proofs.lemmas.Bool.{ltb-false, ltb-true, le-ltb, lt-ltb, leb-true, le-leb, eqb-true}
use Rattle.rapid_model.specs.Tags.{TagsFault}
use Rattle.rapid_model.specs.Process as model
use Rattle.rapid_model.specs.Process.{Process, IsProcess}
use Rattle.rapid_model.specs.Cut.{Cut, IsCut, is_ascending, cut_bytes}
use Rattle.rapid_model.specs.Alert.{Kind, Remove, Join}
use Rattle.rapid_model.specs.Ballot.{Ballot, Vote, IsBallot, IsClassicBallot, fast_ballot}
use Rattle.rapid_model.specs.Reading.{TooMany, NotSorted}
use Rattle.rapid_model.specs.Message.{AlertItem, Answer, Safe, EndpointInUse, ConfigurationChanged, TooManyJoiners}
use Rattle.rapid_model.specs.Frame.{IsId, IsItem, IsBatch, IsReport, IsAnswer, ballot_bytes, kind_byte, item_bytes, report_bytes, answer_bytes}
use Rattle.rapid_wire.specs.Reading.{◌>>=◌, both, made, counted, byte_at, front_at, number_at, process_at, id_at, is_cut, cut_at, ballot_of, is_classic, is_ballot, numbers_at, classic_at, ballot_at, vote_from, report_from, report_at, kind_from, kind_at, item_from, item_at, is_batch, items_at, are_observers, observers_at, safe_from, answer_from, answer_at}
use Rattle.rapid_model.proofs.Processes.{process_read, process_taken}
use Rattle.rapid_wire.proofs.Readers.{AreBytes, Takes, Again, Reads, bind_some, some_is, front_bytes, rest_bytes, reads_both, reads_made, reads_only, reads_as, reads_counted, reads_byte, reads_front, reads_number}

-- what is read as an option is read
was_ok : {A E : Type 0} (r : Result A E) (x : A) → result_ok r ≡ Some x → r ≡ Ok x
was_ok (Ok y) x e = ap Ok (some_is y x e)
was_ok (Err f) x e = absurd cc

pub reads_process : Reads IsProcess (λ p. p) process_at
unfolding process_at
reads_process = (takes, λ p rest h. ap result_ok (process_read p rest h))
  where
    takes : Takes IsProcess (λ p. p) process_at
    takes bytes x b e =
        let t = process_taken bytes x (was_ok (model.process_at bytes) x e) in
        (record { long = t.long; bytes = front_bytes bytes x.0 x.1 b t.spelt; tags = t.tags }, t.spelt)

pub reads_id : Reads IsId (λ p. p) id_at
unfolding id_at
reads_id =
    reads_as (λ p. (length p ≡ 32) × AreBytes p) IsId (λ p. p) (λ p. p) (front_at 32)
    (λ p h. record { length = h.0; bytes = h.1 }) (λ p h. (h.length, h.bytes)) (λ p. refl) (reads_front 32)

map_same : (ps : List (List ℕ)) → map (λ p. p) ps ≡ ps
map_same [] = refl
map_same (p ∷ ps) = ap (λ qs. p ∷ qs) (map_same ps)

-- ---- cuts

no_fault : (a b : Bool) → is_none (cond a (Some TooMany) (cond (not b) (Some NotSorted) None)) ≡ true → (a ≡ false) × (b ≡ true)
no_fault true b e = absurd cc
no_fault false true e = (refl, refl)
no_fault false false e = absurd cc

without_fault : (a b : Bool) → a ≡ false → b ≡ true → is_none (cond a (Some TooMany) (cond (not b) (Some NotSorted) None)) ≡ true
without_fault true b h k = absurd cc
without_fault false true h k = refl
without_fault false false h k = absurd cc

abbrev FewProcesses : List Process → Type 0
FewProcesses v = All IsProcess v × (length v < 2 ^ 16)

cut_passes : (v : Cut) → FewProcesses v → is_cut v ≡ true → IsCut v
cut_passes [] h e = absurd cc
cut_passes (p ∷ ps) h e =
    let c = no_fault (nat_lt 1536 (length (p ∷ ps))) (is_ascending (p ∷ ps)) e in
    record { some = omega arith; few = ltb-false 1536 (length (p ∷ ps)) c.0; processes = h.0; ascending = c.1 }

cut_holds : (v : Cut) → IsCut v → FewProcesses v × (is_cut v ≡ true)
cut_holds [] h = let s = h.some in absurd (omega (arith, s))
cut_holds (p ∷ ps) h =
    let few = h.few in
    ((h.processes, omega (arith, few)), without_fault (nat_lt 1536 (length (p ∷ ps))) (is_ascending (p ∷ ps)) (le-ltb 1536 (length (p ∷ ps)) few) h.ascending)

pub reads_cut : Reads IsCut cut_bytes cut_at
unfolding cut_at
reads_cut =
    reads_only FewProcesses IsCut cut_bytes is_cut (counted number_at process_at) cut_passes cut_holds
    (reads_as FewProcesses FewProcesses (λ v. to_be_bytes w16 (length v) ++ concat (map (λ p. p) v)) cut_bytes (counted number_at process_at)
    (λ v h. h) (λ v h. h) (λ v. ap (λ l. to_be_bytes w16 (length v) ++ concat l) (map_same v))
    (reads_counted IsProcess (λ p. p) process_at (λ n. n < 2 ^ 16) (to_be_bytes w16) number_at reads_number reads_process))

-- ---- ballots

and_parts : (a b : Bool) → (a && b) ≡ true → (a ≡ true) × (b ≡ true)
and_parts true true e = (refl, refl)
and_parts true false e = absurd cc
and_parts false b e = absurd cc

and_whole : (a b : Bool) → a ≡ true → b ≡ true → (a && b) ≡ true
and_whole true true h k = refl
and_whole true false h k = absurd cc
and_whole false b h k = absurd cc

or_parts : (a b : Bool) → (a || b) ≡ true → (a ≡ true) ⊎ (b ≡ true)
or_parts true b e = inl refl
or_parts false b e = inr e

or_first : (a b : Bool) → a ≡ true → (a || b) ≡ true
or_first true b h = refl
or_first false b h = absurd cc

abbrev Numbers : Ballot → Type 0
Numbers b = (b.round < 256) × (b.position < 2 ^ 16)

pub classic_passes : (b : Ballot) → is_classic b ≡ true → IsClassicBallot b
classic_passes b e =
    let one = and_parts (nat_le 2 b.round && nat_le b.round 250) (nat_lt b.position 1024) e in
    let two = and_parts (nat_le 2 b.round) (nat_le b.round 250) one.0 in
    record { from = leb-true 2 b.round two.0; to = leb-true b.round 250 two.1; position = ltb-true b.position 1024 one.1 }

pub classic_holds : (b : Ballot) → IsClassicBallot b → is_classic b ≡ true
classic_holds b h =
    and_whole (nat_le 2 b.round && nat_le b.round 250) (nat_lt b.position 1024)
    (and_whole (nat_le 2 b.round) (nat_le b.round 250) (le-leb 2 b.round h.from) (le-leb b.round 250 h.to)) (lt-ltb b.position 1024 h.position)

classic_numbers : (b : Ballot) → IsClassicBallot b → Numbers b
classic_numbers b h = let to = h.to in let position = h.position in (omega (arith, to), omega (arith, position))

is_fast : (b : Ballot) → b.round ≡ 1 → b.position ≡ 0 → b ≡ fast_ballot
is_fast b h k = λ i. record { round = h i; position = k i }

pub ballot_passes : (b : Ballot) → is_ballot b ≡ true → IsBallot b
ballot_passes b e = elim (or_parts (is_classic b) (eqb b.round 1 && eqb b.position 0) e) [
  | inl c ↦ inr (classic_passes b c)
  | inr f ↦ (let p = and_parts (eqb b.round 1) (eqb b.position 0) f in inl (is_fast b (eqb-true b.round 1 p.0) (eqb-true b.position 0 p.1)))
]

pub ballot_holds : (b : Ballot) → IsBallot b → is_ballot b ≡ true
ballot_holds b (inl f) = ap is_ballot f
ballot_holds b (inr c) = or_first (is_classic b) (eqb b.round 1 && eqb b.position 0) (classic_holds b c)

ballot_numbers : (b : Ballot) → IsBallot b → Numbers b
ballot_numbers b (inl f) = subst Numbers (sym f) (omega arith, omega arith)
ballot_numbers b (inr c) = classic_numbers b c

reads_numbers : Reads Numbers ballot_bytes numbers_at
unfolding numbers_at
reads_numbers =
    reads_made (λ x. (x.0 < 256) × (x.1 < 2 ^ 16)) (λ x. (x.0 ∷ []) ++ to_be_bytes w16 x.1) (both byte_at number_at) ballot_of (λ b. (b.round, b.position)) (λ a. refl) (λ b. refl)
    (reads_both (λ b. b < 256) (λ n. n < 2 ^ 16) (λ b. b ∷ []) (to_be_bytes w16) byte_at number_at reads_byte reads_number)

pub reads_classic : Reads IsClassicBallot ballot_bytes classic_at
unfolding classic_at
reads_classic =
    reads_only Numbers IsClassicBallot ballot_bytes is_classic numbers_at (λ b h e. classic_passes b e) (λ b h. (classic_numbers b h, classic_holds b h)) reads_numbers

pub reads_ballot : Reads IsBallot ballot_bytes ballot_at
unfolding ballot_at
reads_ballot =
    reads_only Numbers IsBallot ballot_bytes is_ballot numbers_at (λ b h e. ballot_passes b e) (λ b h. (ballot_numbers b h, ballot_holds b h)) reads_numbers

-- ---- alternatives by a first byte

-- one case of a chain of tests
pub case : {A : Type 0} (G : Type 0) (k n : ℕ) (x y : Option A) (z : A) → (k ≡ n → x ≡ Some z → G) → (y ≡ Some z → G) → cond (eqb k n) x y ≡ Some z → G
case {A} G k n x y z f g e = by (eqb k n) refl e
  where
    by : (b : Bool) → eqb k n ≡ b → cond b x y ≡ Some z → G
    by true h e = f (eqb-true k n h) e
    by false h e = g e

-- what a first byte leads to
begins : {A : Type 0} (f : ℕ → List ℕ → Option A) (b : ℕ) (rest : List ℕ) → (byte_at (b ∷ rest) >>= λ u. f u.0 u.1) ≡ f b rest
unfolding byte_at
begins f b rest = refl

pub never : {A : Type 0} (G : Type 0) (z : A) → None ≡ Some z → G
never G z e = absurd cc

-- ---- reports

abbrev IsVote : Ballot × Cut → Type 0
IsVote x = IsBallot x.0 × IsCut x.1

reads_vote : Reads IsVote (λ x. ballot_bytes x.0 ++ cut_bytes x.1) (both ballot_at cut_at)
reads_vote = reads_both IsBallot IsCut ballot_bytes cut_bytes ballot_at cut_at reads_ballot reads_cut

pub reads_report : Reads IsReport report_bytes report_at
unfolding report_at
reads_report = (takes, again)
  where
    takes : Takes IsReport report_bytes report_at
    takes bytes x b e =
        let one = bind_some (byte_at bytes) (λ u. report_from u.0 u.1) x e in
        let t = reads_byte.0 bytes one.0 b one.1 in
        let rest = rest_bytes bytes (one.0.0 ∷ []) one.0.1 b t.1 in
        let G : Type 0 = IsReport x.0 × (bytes ≡ report_bytes x.0 ++ x.1) in
        let start : (n : ℕ) → one.0.0 ≡ n → bytes ≡ (n ∷ []) ++ one.0.1 = λ n k. t.1 ∙ ap (λ m. (m ∷ []) ++ one.0.1) k in
        case G one.0.0 0 (Some (None, one.0.1)) (cond (eqb one.0.0 1) (made vote_from (both ballot_at cut_at) one.0.1) None) x
        (λ k h. (let none : Option (Vote Cut) × List ℕ = (None, one.0.1) in
        subst (λ (z : Option (Vote Cut) × List ℕ). IsReport z.0 × (bytes ≡ report_bytes z.0 ++ z.1)) (some_is none x h) (tt, start 0 k)))
        (case G one.0.0 1 (made vote_from (both ballot_at cut_at) one.0.1) None x
        (λ k h. (let two = bind_some (both ballot_at cut_at one.0.1) (λ u. Some (vote_from u.0, u.1)) x h in
        let u = reads_vote.0 one.0.1 two.0 rest two.1 in
        let some : Option (Vote Cut) × List ℕ = (vote_from two.0.0, two.0.1) in
        subst (λ (z : Option (Vote Cut) × List ℕ). IsReport z.0 × (bytes ≡ report_bytes z.0 ++ z.1)) (some_is some x two.2)
        (u.0, start 1 k ∙ ap (λ l. (1 ∷ []) ++ l) u.1)))
        (never G x)) one.2

    again : Again IsReport report_bytes report_at
    again None rest h = begins report_from 0 rest
    again (Some v) rest h =
        begins report_from 1 ((ballot_bytes v.ballot ++ cut_bytes v.value) ++ rest)
        ∙ ap (λ o. o >>= λ u. Some (vote_from u.0, u.1)) (reads_vote.1 (v.ballot, v.value) rest h)

-- ---- alerts

abbrev Any : {A : Type 0} → A → Type 0
Any x = Unit {0}

reads_kind : Reads Any (λ k. kind_byte k ∷ []) kind_at
unfolding kind_at
reads_kind = (takes, again)
  where
    takes : Takes Any (λ k. kind_byte k ∷ []) kind_at
    takes bytes x b e =
        let one = bind_some (byte_at bytes) (λ u. kind_from u.0 >>= λ k. Some (k, u.1)) x e in
        let t = reads_byte.0 bytes one.0 b one.1 in
        let two = bind_some (kind_from one.0.0) (λ k. Some (k, one.0.1)) x one.2 in
        let whole : Kind × List ℕ = (two.0, one.0.1) in
        let same : one.0.0 ≡ kind_byte two.0 = case (one.0.0 ≡ kind_byte two.0) one.0.0 1 (Some Remove) (cond (eqb one.0.0 2) (Some Join) None) two.0
        (λ k h. k ∙ ap kind_byte (some_is Remove two.0 h))
        (case (one.0.0 ≡ kind_byte two.0) one.0.0 2 (Some Join) None two.0 (λ k h. k ∙ ap kind_byte (some_is Join two.0 h)) (never (one.0.0 ≡ kind_byte two.0) two.0)) two.1 in
        subst (λ (z : Kind × List ℕ). Any z.0 × (bytes ≡ (kind_byte z.0 ∷ []) ++ z.1)) (some_is whole x two.2) (tt, t.1 ∙ ap (λ n. (n ∷ []) ++ one.0.1) same)

    again : Again Any (λ k. kind_byte k ∷ []) kind_at
    again Remove rest h = begins (λ b l. kind_from b >>= λ k. Some (k, l)) 1 rest
    again Join rest h = begins (λ b l. kind_from b >>= λ k. Some (k, l)) 2 rest

pub reads_item : Reads IsItem item_bytes item_at
unfolding item_at
reads_item =
    reads_as (λ x. (x.ring < 256) × (Any x.kind × IsProcess x.subject)) IsItem item_bytes item_bytes item_at
    (λ x h. record { ring = h.0; subject = h.1.1 }) (λ x h. (h.ring, (tt, h.subject))) (λ x. refl)
    (reads_made (λ x. (x.0 < 256) × (Any x.1.0 × IsProcess x.1.1)) (λ x. (x.0 ∷ []) ++ ((kind_byte x.1.0 ∷ []) ++ x.1.1)) (both byte_at (both kind_at process_at)) item_from
    (λ x. (x.ring, (x.kind, x.subject))) (λ a. refl) (λ b. refl)
    (reads_both (λ b. b < 256) (λ x. Any x.0 × IsProcess x.1) (λ b. b ∷ []) (λ x. (kind_byte x.0 ∷ []) ++ x.1) byte_at (both kind_at process_at) reads_byte
    (reads_both Any IsProcess (λ k. kind_byte k ∷ []) (λ p. p) kind_at process_at reads_kind reads_process)))

-- a ring and a kind are the first two bytes
byte_first : (bytes : List ℕ) (x : ℕ × List ℕ) → byte_at bytes ≡ Some x → bytes ≡ x.0 ∷ x.1
unfolding byte_at
byte_first [] x e = absurd cc
byte_first (b ∷ bytes) x e = let whole : ℕ × List ℕ = (b, bytes) in ap (λ (z : ℕ × List ℕ). z.0 ∷ z.1) (some_is whole x e)

kind_first : (bytes : List ℕ) (x : Kind × List ℕ) → kind_at bytes ≡ Some x → (b : ℕ) × (bytes ≡ b ∷ x.1)
unfolding kind_at
kind_first bytes x e =
    let one = bind_some (byte_at bytes) (λ u. kind_from u.0 >>= λ k. Some (k, u.1)) x e in
    let two = bind_some (kind_from one.0.0) (λ k. Some (k, one.0.1)) x one.2 in
    let whole : Kind × List ℕ = (two.0, one.0.1) in
    (one.0.0, byte_first bytes one.0 one.1 ∙ ap (λ (z : Kind × List ℕ). one.0.0 ∷ z.1) (some_is whole x two.2))

two_first : (bytes r s : List ℕ) (ring : ℕ) (kind : Kind) → byte_at bytes ≡ Some (ring, r) → kind_at r ≡ Some (kind, s)
    → (b : ℕ) × (bytes ≡ ring ∷ b ∷ s)
two_first bytes r s ring kind e k =
    let two = kind_first r (kind, s) k in
    (two.0, byte_first bytes (ring, r) e ∙ ap (λ l. ring ∷ l) two.1)

-- a process that is read is one that a reader gives, and what is none is not
pub some_process : (bytes : List ℕ) (x : Process × List ℕ) → model.process_at bytes ≡ Ok x → process_at bytes ≡ Some x
unfolding process_at
some_process bytes x h = ap result_ok h

pub no_process : (bytes : List ℕ) (e : TagsFault) → model.process_at bytes ≡ Err e → process_at bytes ≡ None
unfolding process_at
no_process bytes e h = ap result_ok h

-- an alert ends where its subject does
pub item_read : (bytes r s : List ℕ) (ring : ℕ) (kind : Kind) (subject : Process) (n : ℕ) → byte_at bytes ≡ Some (ring, r)
    → kind_at r ≡ Some (kind, s) → process_at s ≡ Some (subject, drop n s)
    → item_at bytes ≡ Some (record { ring = ring; kind = kind; subject = subject }, drop (2 + n) bytes)
unfolding item_at
item_read bytes r s ring kind subject n e k p =
    let item : AlertItem = record { ring = ring; kind = kind; subject = subject } in
    let whole = (two_first bytes r s ring kind e k).1 in
    let after : drop n s ≡ drop (2 + n) bytes = ap (λ l. drop n (drop 2 l)) (sym whole) ∙ drop-drop n 2 bytes in
    rw (e, k, p) (ap (λ l. Some (item, l)) after)

-- without a subject there is no alert
pub no_item : (bytes r s : List ℕ) (ring : ℕ) (kind : Kind) → byte_at bytes ≡ Some (ring, r) → kind_at r ≡ Some (kind, s) → process_at s ≡ None → item_at bytes ≡ None
unfolding item_at
no_item bytes r s ring kind e k p = rw (e, k, p) refl

pub item_within : (bytes r s : List ℕ) (ring : ℕ) (kind : Kind) (n : ℕ) → byte_at bytes ≡ Some (ring, r)
    → kind_at r ≡ Some (kind, s) → n ≤ length s → 2 + n ≤ length bytes
item_within bytes r s ring kind n e k l =
    let first = two_first bytes r s ring kind e k in
    let size : length bytes ≡ length (ring ∷ first.0 ∷ s) = ap length first.1 in
    omega (arith, size, l)

abbrev pub items_bytes : List AlertItem → List ℕ
items_bytes xs = to_be_bytes w16 (length xs) ++ concat (map item_bytes xs)

abbrev FewItems : List AlertItem → Type 0
FewItems xs = All IsItem xs × (length xs < 2 ^ 16)

items_pass : (xs : List AlertItem) → FewItems xs → is_batch xs ≡ true → IsBatch xs
items_pass xs h e =
    let p = and_parts (nat_le 1 (length xs)) (nat_le (length xs) 2048) e in
    record { some = leb-true 1 (length xs) p.0; few = leb-true (length xs) 2048 p.1; items = h.0 }

items_hold : (xs : List AlertItem) → IsBatch xs → FewItems xs × (is_batch xs ≡ true)
items_hold xs h =
    let few = h.few in
    ((h.items, omega (arith, few)), and_whole (nat_le 1 (length xs)) (nat_le (length xs) 2048) (le-leb 1 (length xs) h.some) (le-leb (length xs) 2048 few))

pub reads_items : Reads IsBatch items_bytes items_at
unfolding items_at
reads_items =
    reads_only FewItems IsBatch items_bytes is_batch (counted number_at item_at) items_pass items_hold
    (reads_counted IsItem item_bytes item_at (λ n. n < 2 ^ 16) (to_be_bytes w16) number_at reads_number reads_item)

-- ---- answers

abbrev AreObservers : List Process → Type 0
AreObservers os = (1 ≤ length os) × (length os ≤ 16) × All IsProcess os

abbrev observers_bytes : List Process → List ℕ
observers_bytes os = length os ∷ concat os

observers_pass : (os : List Process) → (All IsProcess os × (length os < 256)) → are_observers os ≡ true → AreObservers os
observers_pass os h e =
    let p = and_parts (nat_le 1 (length os)) (nat_le (length os) 16) e in
    (leb-true 1 (length os) p.0, leb-true (length os) 16 p.1, h.0)

observers_hold : (os : List Process) → AreObservers os → (All IsProcess os × (length os < 256)) × (are_observers os ≡ true)
observers_hold os h =
    let few = h.1 in
    ((h.2, omega (arith, few)), and_whole (nat_le 1 (length os)) (nat_le (length os) 16) (le-leb 1 (length os) h.0) (le-leb (length os) 16 few))

reads_observers : Reads AreObservers observers_bytes observers_at
unfolding observers_at
reads_observers =
    reads_only (λ os. All IsProcess os × (length os < 256)) AreObservers observers_bytes are_observers (counted byte_at process_at) observers_pass observers_hold
    (reads_as (λ os. All IsProcess os × (length os < 256)) (λ os. All IsProcess os × (length os < 256)) (λ os. (length os ∷ []) ++ concat (map (λ p. p) os)) observers_bytes (counted byte_at process_at)
    (λ os h. h) (λ os h. h) (λ os. ap (λ l. length os ∷ concat l) (map_same os))
    (reads_counted IsProcess (λ p. p) process_at (λ n. n < 256) (λ n. n ∷ []) byte_at reads_byte reads_process))

abbrev IsSafe : List ℕ × List Process → Type 0
IsSafe x = IsId x.0 × AreObservers x.1

reads_safe : Reads IsSafe (λ x. x.0 ++ observers_bytes x.1) (both id_at observers_at)
reads_safe = reads_both IsId AreObservers (λ p. p) observers_bytes id_at observers_at reads_id reads_observers

pub reads_answer : Reads IsAnswer answer_bytes answer_at
unfolding answer_at
reads_answer = (takes, again)
  where
    takes : Takes IsAnswer answer_bytes answer_at
    takes bytes x b e =
        let one = bind_some (byte_at bytes) (λ u. answer_from u.0 u.1) x e in
        let t = reads_byte.0 bytes one.0 b one.1 in
        let rest = rest_bytes bytes (one.0.0 ∷ []) one.0.1 b t.1 in
        let G : Type 0 = IsAnswer x.0 × (bytes ≡ answer_bytes x.0 ++ x.1) in
        let Good : Answer × List ℕ → Type 0 = λ z. IsAnswer z.0 × (bytes ≡ answer_bytes z.0 ++ z.1) in
        let start : (n : ℕ) → one.0.0 ≡ n → bytes ≡ (n ∷ []) ++ one.0.1 = λ n k. t.1 ∙ ap (λ m. (m ∷ []) ++ one.0.1) k in
        let in_use : Answer × List ℕ = (EndpointInUse, one.0.1) in
        let changed : Answer × List ℕ = (ConfigurationChanged, one.0.1) in
        let many : Answer × List ℕ = (TooManyJoiners, one.0.1) in
        case G one.0.0 1 (made safe_from (both id_at observers_at) one.0.1) _ x
        (λ k h. (let two = bind_some (both id_at observers_at one.0.1) (λ u. Some (safe_from u.0, u.1)) x h in
        let u = reads_safe.0 one.0.1 two.0 rest two.1 in
        let safe : Answer × List ℕ = (safe_from two.0.0, two.0.1) in
        subst Good (some_is safe x two.2) ((u.0.0, u.0.1.0, u.0.1.1, u.0.1.2), start 1 k ∙ ap (λ l. (1 ∷ []) ++ l) u.1)))
        (case G one.0.0 2 (Some in_use) _ x (λ k h. subst Good (some_is in_use x h) (tt, start 2 k))
        (case G one.0.0 3 (Some changed) _ x (λ k h. subst Good (some_is changed x h) (tt, start 3 k))
        (case G one.0.0 4 (Some many) None x (λ k h. subst Good (some_is many x h) (tt, start 4 k)) (never G x)))) one.2

    again : Again IsAnswer answer_bytes answer_at
    again (Safe id os) rest h =
        begins answer_from 1 ((id ++ observers_bytes os) ++ rest)
        ∙ ap (λ o. o >>= λ u. Some (safe_from u.0, u.1)) (reads_safe.1 (id, os) rest (h.0, (h.1, h.2, h.3)))
    again EndpointInUse rest h = begins answer_from 2 rest
    again ConfigurationChanged rest h = begins answer_from 3 rest
    again TooManyJoiners rest h = begins answer_from 4 rest
