-- Who asks stands at a place, and stays there.
use Rattle.std.proofs.Common.{◌≡◌, ℕ, zero, suc, false, List, [], ◌∷◌, ◌++◌, map, length, All, Contains, Option, Some, None, IsSome, is_some, true≢false, refl, sym, ap, subst, ◌∙◌, slice_get, unwrap_or, position}
use Rattle.std.proofs.lemmas.List.Elements.{All-head, All-tail, All-weaker, All-contains}
use Rattle.rapid_model.specs.Process.{Process, same_bytes, is_in}
use Rattle.rapid_repeats.specs.declared.said.Asked.{Asked}
use Rattle.rapid_repeats.specs.Askers.{asker_at, question_of, questions_in, ArePlaces, StaysIn}
use Rattle.rapid_repeats.specs.Parts.{Adds}
use Rattle.rapid_repeats.proofs.Tables.{mapped, in_map, adds_map, adds_all}
use Rattle.rapid_roster.specs.Once.{StandOnce}
use Rattle.rapid_roster.proofs.Indexing.{no_place}
use Rattle.rapid_config.proofs.Places.{in_by_place}

-- who stands at a place
at_there : (askers : List Process) (place : ℕ) (p : Process) → slice_get askers place ≡ Some p → asker_at askers place ≡ p
at_there askers place p h = ap (λ o. unwrap_or o []) h

-- somebody does
who_there : (askers : List Process) (place : ℕ) → IsSome (slice_get askers place) → slice_get askers place ≡ Some (asker_at askers place)
who_there askers place h = by (slice_get askers place) h
  where
    by : (o : Option Process) → IsSome o → o ≡ Some (unwrap_or o [])
    by None h = absurd (true≢false (sym h))
    by (Some p) h = refl

-- one that was not found
pub not_there : (o : Option ℕ) → ((x : ℕ) → o ≡ Some x → ⊥) → o ≡ None
not_there None h = refl
not_there (Some x) h = absurd (h x refl)

-- is not there
pub is_new : (askers : List Process) (p : Process) → position (same_bytes p) askers ≡ None → is_in askers p ≡ false
is_new askers p none = sym (in_by_place (same_bytes p) askers) ∙ ap is_some none

-- and stands nowhere
pub nowhere : (askers : List Process) (p : Process) → position (same_bytes p) askers ≡ None → (i : ℕ) → slice_get askers i ≡ Some p → ⊥
nowhere askers p none i at = no_place askers p i (is_new askers p none) at

-- ---- one more

pub last_there : (askers : List Process) (p : Process) → slice_get (askers ++ p ∷ []) (length askers) ≡ Some p
last_there [] p = refl
last_there (q ∷ qs) p = last_there qs p

pub stays_more : (askers : List Process) (p : Process) → StaysIn askers (askers ++ p ∷ [])
stays_more [] p i q h = cc
stays_more (r ∷ rs) p zero q h = h
stays_more (r ∷ rs) p (suc i) q h = stays_more rs p i q h

-- ---- all stay

-- all is as before
pub same_questions : (old new : List Process) (times : List ((ℕ × Asked) × ℕ)) → StaysIn old new → ArePlaces old times → questions_in new times ≡ questions_in old times
same_questions old new [] stays placed = refl
same_questions old new (e ∷ es) stays placed =
    let here = who_there old e.0.0 (All-head (λ d. IsSome (slice_get old d.0.0)) e es placed) in
    let same : asker_at new e.0.0 ≡ asker_at old e.0.0 = at_there new e.0.0 (asker_at old e.0.0) (stays e.0.0 (asker_at old e.0.0) here) in
    let later = same_questions old new es stays (All-tail (λ d. IsSome (slice_get old d.0.0)) e es placed) in
    λ i. ((same i, e.0.1), e.1) ∷ later i

-- and somebody stands at each place
pub places_stay : (old new : List Process) (times : List ((ℕ × Asked) × ℕ)) → StaysIn old new → ArePlaces old times → ArePlaces new times
places_stay old new times stays placed = All-weaker (λ d. IsSome (slice_get old d.0.0)) (λ d. IsSome (slice_get new d.0.0)) stay times placed
  where
    stay : (e : (ℕ × Asked) × ℕ) → IsSome (slice_get old e.0.0) → IsSome (slice_get new e.0.0)
    stay e h = subst IsSome (sym (stays e.0.0 (asker_at old e.0.0) (who_there old e.0.0 h))) refl

-- ---- one question

-- what the process at the place asked
pub asked_there : (askers : List Process) (times : List ((ℕ × Asked) × ℕ)) (place : ℕ) (p : Process) (a : Asked) (t : ℕ) → slice_get askers place ≡ Some p → Contains times ((place, a), t) → Contains (questions_in askers times) ((p, a), t)
asked_there askers times place p a t at h =
    subst (λ q. Contains (questions_in askers times) ((q, a), t)) (at_there askers place p at) (in_map (question_of askers) times ((place, a), t) h)

-- it stands at that place
pub asked_here : (askers : List Process) (times : List ((ℕ × Asked) × ℕ)) (place : ℕ) (p : Process) (a : Asked) (t : ℕ) → StandOnce askers → ArePlaces askers times → slice_get askers place ≡ Some p → Contains (questions_in askers times) ((p, a), t) → Contains times ((place, a), t)
asked_here askers times place p a t once placed at h =
    let d = mapped (question_of askers) times ((p, a), t) h in
    let who : asker_at askers d.0.0.0 ≡ p = ap (λ (x : (Process × Asked) × ℕ). x.0.0) d.2 in
    let there = who_there askers d.0.0.0 (All-contains (λ e. IsSome (slice_get askers e.0.0)) times d.0 placed d.1) in
    let same : d.0.0.0 ≡ place = once d.0.0.0 place p (there ∙ ap Some who) at in
    let what : d.0.0.1 ≡ a = ap (λ (x : (Process × Asked) × ℕ). x.0.1) d.2 in
    let when : d.0.1 ≡ t = ap (λ (x : (Process × Asked) × ℕ). x.1) d.2 in
    subst (Contains times) (λ i. ((same i, what i), when i)) d.1

-- who stands nowhere asked nothing
pub nobody_asked : (askers : List Process) (times : List ((ℕ × Asked) × ℕ)) (p : Process) (a : Asked) (t : ℕ) → ArePlaces askers times → ((i : ℕ) → slice_get askers i ≡ Some p → ⊥) → Contains (questions_in askers times) ((p, a), t) → ⊥
nobody_asked askers times p a t placed nowhere h =
    let d = mapped (question_of askers) times ((p, a), t) h in
    let who : asker_at askers d.0.0.0 ≡ p = ap (λ (x : (Process × Asked) × ℕ). x.0.0) d.2 in
    let there = who_there askers d.0.0.0 (All-contains (λ e. IsSome (slice_get askers e.0.0)) times d.0 placed d.1) in
    nowhere d.0.0.0 (there ∙ ap Some who)

-- ---- one question more

pub adds_question : (old new : List Process) (times more : List ((ℕ × Asked) × ℕ)) (place : ℕ) (p : Process) (a : Asked) (now : ℕ) → StaysIn old new → ArePlaces old times → slice_get new place ≡ Some p → Adds times ((place, a), now) more → Adds (questions_in old times) ((p, a), now) (questions_in new more)
adds_question old new times more place p a now stays placed at adds =
    subst (λ qs. Adds qs ((p, a), now) (questions_in new more)) (same_questions old new times stays placed)
    (subst (λ q. Adds (questions_in new times) ((q, a), now) (questions_in new more)) (at_there new place p at) (adds_map (question_of new) times ((place, a), now) more adds))

pub places_more : (old new : List Process) (times more : List ((ℕ × Asked) × ℕ)) (place : ℕ) (p : Process) (a : Asked) (now : ℕ) → StaysIn old new → ArePlaces old times → slice_get new place ≡ Some p → Adds times ((place, a), now) more → ArePlaces new more
places_more old new times more place p a now stays placed at adds =
    adds_all (λ e. IsSome (slice_get new e.0.0)) times ((place, a), now) more adds (places_stay old new times stays placed) (subst IsSome (sym at) refl)
