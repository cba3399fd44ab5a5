-- Messages are read exactly if they are spelt.
use Rattle.std.proofs.Common.{◌≡◌, ℕ, ◌<◌, true, cond, eqb, List, [], ◌∷◌, ◌++◌, length, Option, Some, None, refl, sym, ap, subst, ◌∙◌, append_assoc, append-nil}
use Rattle.std.specs.Prelude.{map, is_none}
use Rattle.std.specs.List.{concat}
use Rattle.std.specs.Int.{w16, to_be_bytes}
use Rattle.std.proofs.lemmas.Bool.{eqb-true}
use Rattle.std.proofs.lemmas.List.{nil_from_length}
use Rattle.rapid_model.specs.Process.{Process, IsProcess}
use Rattle.rapid_model.specs.Cut.{IsCut, cut_bytes}
use Rattle.rapid_model.specs.Configuration.{Configuration, IsConfiguration, configuration_bytes}
use Rattle.rapid_model.specs.Reading.{ConfigurationFault, bytes_fault, configuration_in}
use Rattle.rapid_model.specs.Ballot.{Ballot, IsClassicBallot}
use Rattle.rapid_model.specs.Message.{Body, Batch, FastVote, Prepare, Promise, Accept, Accepted, Decision, PreJoin, Reply, JoinRequest, Confirm, Probe, ProbeAck, Leave, Message}
use Rattle.rapid_model.specs.Frame.{IsId, IsBatch, IsReport, IsAnswer, IsBody, IsMessage, ballot_bytes, item_bytes, report_bytes, answer_bytes, kind_number, body_bytes, version, payload}
use Rattle.rapid_model.proofs.Spelled.{spelling_read, spelling_one}
use Rattle.rapid_wire.specs.Reading.{Reader, ◌>>=◌, both, made, all_of, byte_at, process_at, id_at, cut_at, classic_at, report_at, items_at, answer_at, choice_at, confirmed_in, nothing_at, body_in, message_in}
use Rattle.rapid_wire.proofs.Readers.{AreBytes, Takes, Again, Reads, bind_some, some_is, if_some, rest_bytes, reads_both, reads_byte}
use Rattle.rapid_wire.proofs.Parts.{case, never, items_bytes, reads_process, reads_id, reads_cut, reads_classic, reads_report, reads_items, reads_answer}

-- ---- values that take all bytes

all_takes : {A B : Type 0} (P : A → Type 0) (f : A → List ℕ) (r : Reader A) (to : A → B) → Takes P f r → (bytes : List ℕ) (b : B) → AreBytes bytes → all_of (made to r) bytes ≡ Some b →
    (x : A) × (to x ≡ b) × P x × (bytes ≡ f x)
all_takes {A} {B} P f r to h bytes b are e =
    let one = bind_some (made to r bytes) (λ u. cond (eqb (length u.1) 0) (Some u.0) None) b e in
    let two = bind_some (r bytes) (λ u. Some (to u.0, u.1)) one.0 one.1 in
    let t = h bytes two.0 are two.1 in
    let whole : B × List ℕ = (to two.0.0, two.0.1) in
    let same = some_is whole one.0 two.2 in
    let passed = if_some (eqb (length one.0.1) 0) one.0.0 b one.2 in
    let none : one.0.1 ≡ [] = nil_from_length one.0.1 (eqb-true (length one.0.1) 0 passed.0) in
    let rest : two.0.1 ≡ [] = ap (λ u. u.1) same ∙ none in
    (two.0.0, ap (λ u. u.0) same ∙ passed.1, t.0, t.1 ∙ ap (λ l. f two.0.0 ++ l) rest ∙ append-nil (f two.0.0))

all_again : {A B : Type 0} (P : A → Type 0) (f : A → List ℕ) (r : Reader A) (to : A → B) → Again P f r → (x : A) → P x → all_of (made to r) (f x) ≡ Some (to x)
all_again P f r to h x p =
    ap (λ o. o >>= λ u. cond (eqb (length u.1) 0) (Some u.0) None)
    (ap (λ o. o >>= λ u. Some (to u.0, u.1)) (ap r (sym (append-nil (f x))) ∙ h x [] p))

-- ---- the parts of bodies

named : {A : Type 0} (P : A → Type 0) (f : A → List ℕ) (r : Reader A) → Reads P f r → Reads (λ x. IsId x.0 × P x.1) (λ x. x.0 ++ f x.1) (both id_at r)
named P f r h = reads_both IsId P (λ p. p) f id_at r reads_id h

abbrev BallotFor : List ℕ × Ballot → Type 0
BallotFor x = IsId x.0 × IsClassicBallot x.1

abbrev ballot_for : List ℕ × Ballot → List ℕ
ballot_for x = x.0 ++ ballot_bytes x.1

reads_prepare : Reads BallotFor ballot_for (both id_at classic_at)
reads_prepare = named IsClassicBallot ballot_bytes classic_at reads_classic

reads_promise : Reads (λ x. BallotFor x.0 × IsReport x.1) (λ x. ballot_for x.0 ++ report_bytes x.1) (both (both id_at classic_at) report_at)
reads_promise = reads_both BallotFor IsReport ballot_for report_bytes (both id_at classic_at) report_at reads_prepare reads_report

reads_choice : Reads (λ x. BallotFor x.0 × IsCut x.1) (λ x. ballot_for x.0 ++ cut_bytes x.1) choice_at
unfolding choice_at
reads_choice = reads_both BallotFor IsCut ballot_for cut_bytes (both id_at classic_at) cut_at reads_prepare reads_cut

reads_reply : Reads (λ x. IsProcess x.0 × IsAnswer x.1) (λ x. x.0 ++ answer_bytes x.1) (both process_at answer_at)
reads_reply = reads_both IsProcess IsAnswer (λ p. p) answer_bytes process_at answer_at reads_process reads_answer

-- ---- bodies

-- the body is of this kind and spelt by these bytes
abbrev pub Spells : ℕ → List ℕ → Body → Type 0
Spells kind bytes b = (kind_number b ≡ kind) × (bytes ≡ body_bytes b)

-- what is read by one reader
by_reader : {A : Type 0} (P : A → Type 0) (f : A → List ℕ) (r : Reader A) (to : A → Body) → Takes P f r → (kind n : ℕ) (bytes : List ℕ) (b : Body) → AreBytes bytes →
    ((x : A) → kind_number (to x) ≡ n) → ((x : A) → f x ≡ body_bytes (to x)) → kind ≡ n → all_of (made to r) bytes ≡ Some b → Spells kind bytes b
by_reader P f r to h kind n bytes b are number spelt k e =
    let t = all_takes P f r to h bytes b are e in
    subst (Spells kind bytes) t.1 (number t.0 ∙ sym k, t.3 ∙ spelt t.0)

nothing_takes : (kind : ℕ) (bytes : List ℕ) (b : Body) → kind ≡ 8 → all_of nothing_at bytes ≡ Some b → Spells kind bytes b
nothing_takes kind bytes b k e =
    let passed = if_some (eqb (length bytes) 0) PreJoin b e in
    subst (Spells kind bytes) passed.1 (sym k, nil_from_length bytes (eqb-true (length bytes) 0 passed.0))

none_is : (f : Option ConfigurationFault) → is_none f ≡ true → f ≡ None
none_is None e = refl
none_is (Some x) e = absurd cc

confirmed_takes : (kind : ℕ) (bytes : List ℕ) (b : Body) → AreBytes bytes → kind ≡ 11 → confirmed_in bytes ≡ Some b → Spells kind bytes b
unfolding confirmed_in
confirmed_takes kind bytes b are k e =
    let passed = if_some (is_none (bytes_fault bytes)) (Confirm (configuration_in bytes)) b e in
    let none = none_is (bytes_fault bytes) passed.0 in
    subst (Spells kind bytes) passed.1 (sym k, sym (spelling_one bytes are none))

pub body_takes : (kind : ℕ) (bytes : List ℕ) (b : Body) → AreBytes bytes → body_in kind bytes ≡ Some b → Spells kind bytes b
unfolding body_in
body_takes kind bytes b are e =
    let G : Type 0 = Spells kind bytes b in
    case G kind 1 _ _ b (λ k h. by_reader (λ x. IsId x.0 × IsBatch x.1) (λ x. x.0 ++ items_bytes x.1) (both id_at items_at) (λ x. Batch x.0 x.1) (named IsBatch items_bytes items_at reads_items).0 kind 1 bytes b are
    (λ x. refl) (λ x. sym (append_assoc x.0 (to_be_bytes w16 (length x.1)) (concat (map item_bytes x.1)))) k h)
    (case G kind 2 _ _ b (λ k h. by_reader (λ x. IsId x.0 × IsCut x.1) (λ x. x.0 ++ cut_bytes x.1) (both id_at cut_at) (λ x. FastVote x.0 x.1) (named IsCut cut_bytes cut_at reads_cut).0 kind 2 bytes b are (λ x. refl) (λ x. refl) k h)
    (case G kind 3 _ _ b (λ k h. by_reader BallotFor ballot_for (both id_at classic_at) (λ x. Prepare x.0 x.1) reads_prepare.0 kind 3 bytes b are (λ x. refl) (λ x. refl) k h)
    (case G kind 4 _ _ b (λ k h. by_reader (λ x. BallotFor x.0 × IsReport x.1) (λ x. ballot_for x.0 ++ report_bytes x.1) (both (both id_at classic_at) report_at) (λ x. Promise x.0.0 x.0.1 x.1) reads_promise.0 kind 4 bytes b are
    (λ x. refl) (λ x. refl) k h)
    (case G kind 5 _ _ b (λ k h. by_reader (λ x. BallotFor x.0 × IsCut x.1) (λ x. ballot_for x.0 ++ cut_bytes x.1) choice_at (λ x. Accept x.0.0 x.0.1 x.1) reads_choice.0 kind 5 bytes b are
    (λ x. refl) (λ x. refl) k h)
    (case G kind 6 _ _ b (λ k h. by_reader (λ x. BallotFor x.0 × IsCut x.1) (λ x. ballot_for x.0 ++ cut_bytes x.1) choice_at (λ x. Accepted x.0.0 x.0.1 x.1) reads_choice.0 kind 6 bytes b are
    (λ x. refl) (λ x. refl) k h)
    (case G kind 7 _ _ b (λ k h. by_reader (λ x. IsId x.0 × IsCut x.1) (λ x. x.0 ++ cut_bytes x.1) (both id_at cut_at) (λ x. Decision x.0 x.1) (named IsCut cut_bytes cut_at reads_cut).0 kind 7 bytes b are (λ x. refl) (λ x. refl) k h)
    (case G kind 8 _ _ b (λ k h. nothing_takes kind bytes b k h)
    (case G kind 9 _ _ b (λ k h. by_reader (λ x. IsProcess x.0 × IsAnswer x.1) (λ x. x.0 ++ answer_bytes x.1) (both process_at answer_at) (λ x. Reply x.0 x.1) reads_reply.0 kind 9 bytes b are (λ x. refl) (λ x. refl) k h)
    (case G kind 10 _ _ b (λ k h. by_reader (λ x. IsId x.0 × (x.1 < 256)) (λ x. x.0 ++ (x.1 ∷ [])) (both id_at byte_at) (λ x. JoinRequest x.0 x.1) (named (λ b. b < 256) (λ b. b ∷ []) byte_at reads_byte).0 kind 10 bytes b are
    (λ x. refl) (λ x. refl) k h)
    (case G kind 11 _ _ b (λ k h. confirmed_takes kind bytes b are k h)
    (case G kind 12 _ _ b (λ k h. by_reader IsId (λ p. p) id_at Probe reads_id.0 kind 12 bytes b are (λ x. refl) (λ x. refl) k h)
    (case G kind 13 _ _ b (λ k h. by_reader IsId (λ p. p) id_at ProbeAck reads_id.0 kind 13 bytes b are (λ x. refl) (λ x. refl) k h)
    (case G kind 14 _ None b (λ k h. by_reader (λ x. IsId x.0 × (x.1 < 256)) (λ x. x.0 ++ (x.1 ∷ [])) (both id_at byte_at) (λ x. Leave x.0 x.1) (named (λ b. b < 256) (λ b. b ∷ []) byte_at reads_byte).0 kind 14 bytes b are
    (λ x. refl) (λ x. refl) k h)
    (never G b)))))))))))))) e

confirmed_again : (c : Configuration) → IsConfiguration c → confirmed_in (configuration_bytes c) ≡ Some (Confirm c)
unfolding confirmed_in
confirmed_again c h =
    let read = spelling_read c h in
    ap (λ f. cond (is_none f) (Some (Confirm (configuration_in (configuration_bytes c)))) None) read.0 ∙ ap (λ d. Some (Confirm d)) read.1

-- what the spelling of a configuration says, by an equal one
pub near_again : (c d : Configuration) (bytes : List ℕ) → IsConfiguration c → configuration_bytes c ≡ bytes → d ≡ c → confirmed_in bytes ≡ Some (Confirm d)
near_again c d bytes h spelt same = ap confirmed_in (sym spelt) ∙ confirmed_again c h ∙ ap (λ x. Some (Confirm x)) (sym same)

pub body_again : (b : Body) → IsBody b → body_in (kind_number b) (body_bytes b) ≡ Some b
unfolding body_in
body_again (Batch id xs) h =
    ap (body_in 1) (append_assoc id (to_be_bytes w16 (length xs)) (concat (map item_bytes xs)))
    ∙ all_again (λ x. IsId x.0 × IsBatch x.1) (λ x. x.0 ++ items_bytes x.1) (both id_at items_at) (λ x. Batch x.0 x.1) (named IsBatch items_bytes items_at reads_items).1 (id, xs) h
body_again (FastVote id v) h = all_again (λ x. IsId x.0 × IsCut x.1) (λ x. x.0 ++ cut_bytes x.1) (both id_at cut_at) (λ x. FastVote x.0 x.1) (named IsCut cut_bytes cut_at reads_cut).1 (id, v) h
body_again (Prepare id c) h = all_again BallotFor ballot_for (both id_at classic_at) (λ x. Prepare x.0 x.1) reads_prepare.1 (id, c) h
body_again (Promise id c r) h =
    all_again (λ x. BallotFor x.0 × IsReport x.1) (λ x. ballot_for x.0 ++ report_bytes x.1) (both (both id_at classic_at) report_at) (λ x. Promise x.0.0 x.0.1 x.1) reads_promise.1 ((id, c), r) ((h.0, h.1), h.2)
body_again (Accept id c v) h = all_again (λ x. BallotFor x.0 × IsCut x.1) (λ x. ballot_for x.0 ++ cut_bytes x.1) choice_at (λ x. Accept x.0.0 x.0.1 x.1) reads_choice.1 ((id, c), v) ((h.0, h.1), h.2)
body_again (Accepted id c v) h = all_again (λ x. BallotFor x.0 × IsCut x.1) (λ x. ballot_for x.0 ++ cut_bytes x.1) choice_at (λ x. Accepted x.0.0 x.0.1 x.1) reads_choice.1 ((id, c), v) ((h.0, h.1), h.2)
body_again (Decision id v) h = all_again (λ x. IsId x.0 × IsCut x.1) (λ x. x.0 ++ cut_bytes x.1) (both id_at cut_at) (λ x. Decision x.0 x.1) (named IsCut cut_bytes cut_at reads_cut).1 (id, v) h
body_again PreJoin h = refl
body_again (Reply j a) h = all_again (λ x. IsProcess x.0 × IsAnswer x.1) (λ x. x.0 ++ answer_bytes x.1) (both process_at answer_at) (λ x. Reply x.0 x.1) reads_reply.1 (j, a) h
body_again (JoinRequest id k) h =
    all_again (λ x. IsId x.0 × (x.1 < 256)) (λ x. x.0 ++ (x.1 ∷ [])) (both id_at byte_at) (λ x. JoinRequest x.0 x.1) (named (λ b. b < 256) (λ b. b ∷ []) byte_at reads_byte).1 (id, k) h
body_again (Confirm c) h = confirmed_again c h
body_again (Probe id) h = all_again IsId (λ p. p) id_at Probe reads_id.1 id h
body_again (ProbeAck id) h = all_again IsId (λ p. p) id_at ProbeAck reads_id.1 id h
body_again (Leave id k) h =
    all_again (λ x. IsId x.0 × (x.1 < 256)) (λ x. x.0 ++ (x.1 ∷ [])) (both id_at byte_at) (λ x. Leave x.0 x.1) (named (λ b. b < 256) (λ b. b ∷ []) byte_at reads_byte).1 (id, k) h

-- ---- messages

abbrev message_of : Process → Body → Message
message_of s b = record { sender = s; body = b }

pub message_takes : (kind : ℕ) (bytes : List ℕ) (m : Message) → AreBytes bytes → message_in kind bytes ≡ Some m → version ∷ kind ∷ bytes ≡ payload m
unfolding message_in
message_takes kind bytes m are e =
    let one = bind_some (process_at bytes) (λ s. body_in kind s.1 >>= λ b. Some (message_of s.0 b)) m e in
    let two = bind_some (body_in kind one.0.1) (λ b. Some (message_of one.0.0 b)) m one.2 in
    let t = reads_process.0 bytes one.0 are one.1 in
    let u = body_takes kind one.0.1 two.0 (rest_bytes bytes one.0.0 one.0.1 are t.1) two.1 in
    subst (λ (n : Message). version ∷ kind ∷ bytes ≡ payload n) (some_is (message_of one.0.0 two.0) m two.2)
    (ap (λ l. version ∷ kind ∷ l) (t.1 ∙ ap (λ l. one.0.0 ++ l) u.1) ∙ ap (λ k. version ∷ k ∷ (one.0.0 ++ body_bytes two.0)) (sym u.0))

pub message_again : (m : Message) → IsMessage m → message_in (kind_number m.body) (m.sender ++ body_bytes m.body) ≡ Some m
unfolding message_in
message_again m h =
    ap (λ o. o >>= λ s. body_in (kind_number m.body) s.1 >>= λ b. Some (message_of s.0 b)) (reads_process.1 m.sender (body_bytes m.body) h.sender)
    ∙ ap (λ o. o >>= λ b. Some (message_of m.sender b)) (body_again m.body h.body)
