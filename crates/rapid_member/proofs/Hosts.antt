-- What a host's answers leave as it is, and that they can be said.
use Rattle.std.proofs.Common.{◌≡◌, ℕ, zero, suc, ◌≤◌, true, false, not, List, [], ◌∷◌, length, map, All, arith, refl, sym, ap, subst, ◌∙◌, Some}
use Rattle.std.specs.Prelude.{if◌then◌else◌, is_some}
use Rattle.rapid_model.specs.Process.{Process, ProcessSet, process_cmp, same_bytes}
use Rattle.rapid_model.specs.InOrder.{in_order}
use Rattle.std.specs.FinSet as set
use Rattle.rapid_model.specs.Configuration.{Configuration, configuration_id, is_member, position_of}
use Rattle.rapid_model.specs.Apply.{collides}
use Rattle.rapid_model.specs.Message.{Safe, EndpointInUse, ConfigurationChanged, TooManyJoiners}
use Rattle.rapid_model.specs.Ring.{observers_of, observes}
use Rattle.rapid_model.specs.Host.{HostAnswer, Nothing, Replies, Confirms, Raises, pre_join, join_request, confirms, pending_after, is_full_for, observers_for}
use Rattle.rapid_config.proofs.Places.{in_by_place}
use Rattle.rapid_join.specs.declared.reply.Reply.TheVariants as answer
use Rattle.rapid_join.specs.declared.answers.HostAnswer as code
use Rattle.rapid_join.specs.declared.answers.HostAnswer.TheVariants as given
use Rattle.rapid_join.specs.Answers.{host_answer_of, answered_of}
use Rattle.rapid_join.specs.Answers.{AnswersObservers}

-- the first question makes no joiner pending
pub pre_join_keeps : (c : Configuration) (pending : ProcessSet) (j : Process) → pending_after (pre_join c pending j) pending j ≡ pending
unfolding pre_join
pre_join_keeps c pending j =
    elim (is_member c j) as (λ b. pending_after (if b then Confirms c else if collides c.members j then Replies EndpointInUse else if is_full_for pending j then Replies TooManyJoiners else Replies (Safe (configuration_id c) (observers_for c j))) pending j ≡ pending) [
      | true ↦ refl
      | false ↦ elim (collides c.members j) as (λ b. pending_after (if b then Replies EndpointInUse else if is_full_for pending j then Replies TooManyJoiners else Replies (Safe (configuration_id c) (observers_for c j))) pending j ≡ pending) [
        | true ↦ refl
        | false ↦ elim (is_full_for pending j) as (λ b. pending_after (if b then Replies TooManyJoiners else Replies (Safe (configuration_id c) (observers_for c j))) pending j ≡ pending) [
          | true ↦ refl
          | false ↦ refl
        ]
      ]
    ]

-- an answer Safe names an observer
abbrev Names : HostAnswer → Type 0
Names Nothing = Unit {0}
Names (Replies (Safe id os)) = 1 ≤ length os
Names (Replies EndpointInUse) = Unit {0}
Names (Replies ConfigurationChanged) = Unit {0}
Names (Replies TooManyJoiners) = Unit {0}
Names (Confirms c) = Unit {0}
Names Raises = Unit {0}

names : (a : code.HostAnswer) → Names (host_answer_of a) → AnswersObservers a
names given.Nothing h = tt
names (given.Reply (answer.Safe id os)) h = h
names (given.Reply answer.EndpointInUse) h = tt
names (given.Reply answer.ConfigurationChanged) h = tt
names (given.Reply answer.TooManyJoiners) h = tt
names (given.Confirm c) h = tt
names given.Raise h = tt

-- who has a place is a member
pub member_at : (c : Configuration) (me : Process) (place : ℕ) → position_of c me ≡ Some place → is_member c me ≡ true
member_at c me place e = sym (in_by_place (same_bytes me) c.members) ∙ ap is_some e

join_request_names : (c : Configuration) (me j : Process) (pending : ProcessSet) (id : List ℕ) (k : ℕ) → Names (join_request c me pending j id k)
unfolding join_request
join_request_names c me j pending id k =
    elim (is_member c j) as (λ b. Names (if b then Confirms c else if not (same_bytes id (configuration_id c)) then Replies ConfigurationChanged else if collides c.members j then Replies EndpointInUse else if not (observes (observers_of c) me k j) then Nothing else if is_full_for pending j then Replies TooManyJoiners else Raises)) [
      | true ↦ tt
      | false ↦ elim (not (same_bytes id (configuration_id c))) as (λ b. Names (if b then Replies ConfigurationChanged else if collides c.members j then Replies EndpointInUse else if not (observes (observers_of c) me k j) then Nothing else if is_full_for pending j then Replies TooManyJoiners else Raises)) [
        | true ↦ tt
        | false ↦ elim (collides c.members j) as (λ b. Names (if b then Replies EndpointInUse else if not (observes (observers_of c) me k j) then Nothing else if is_full_for pending j then Replies TooManyJoiners else Raises)) [
          | true ↦ tt
          | false ↦ elim (not (observes (observers_of c) me k j)) as (λ b. Names (if b then Nothing else if is_full_for pending j then Replies TooManyJoiners else Raises)) [
            | true ↦ tt
            | false ↦ elim (is_full_for pending j) as (λ b. Names (if b then Replies TooManyJoiners else Raises)) [
              | true ↦ tt
              | false ↦ tt
            ]
          ]
        ]
      ]
    ]

-- what a member answers to a request can be said
pub join_request_gives : (c : Configuration) (me j : Process) (pending : ProcessSet) (id : List ℕ) (k : ℕ) (a : code.HostAnswer) →
    host_answer_of a ≡ join_request c me pending j id k → AnswersObservers a
join_request_gives c me j pending id k a e = names a (subst Names (sym e) (join_request_names c me j pending id k))

told : (next : Configuration) (p : Process) → Names (if is_member next p then Confirms next else Replies ConfigurationChanged)
told next p = elim (is_member next p) as (λ b. Names (if b then Confirms next else Replies ConfigurationChanged)) [ true ↦ tt | false ↦ tt ]

first_same : {A : Type 0} (x y : A) (xs ys : List A) → x ∷ xs ≡ y ∷ ys → x ≡ y
first_same x y xs ys e = cc

rest_same : {A : Type 0} (x y : A) (xs ys : List A) → x ∷ xs ≡ y ∷ ys → xs ≡ ys
rest_same x y xs ys e = cc

abbrev given_to : Configuration → Process → Process × HostAnswer
given_to next j = (j, if is_member next j then Confirms next else Replies ConfigurationChanged)

each_given : (next : Configuration) (xs : List (Process × code.HostAnswer)) (ps : List Process) →
    map answered_of xs ≡ map (given_to next) ps → All (λ x. AnswersObservers x.1) xs
each_given next [] ps e i d l = absurd (omega (arith, l))
each_given next (x ∷ xs) [] e i d l = cc
each_given next (x ∷ xs) (p ∷ ps) e zero d l =
    let same : host_answer_of x.1 ≡ (given_to next p).1 = ap (λ (z : Process × HostAnswer). z.1) (first_same (answered_of x) (given_to next p) (map answered_of xs) (map (given_to next) ps) e) in
    names x.1 (subst Names (sym same) (told next p))
each_given next (x ∷ xs) (p ∷ ps) e (suc i) d l =
    each_given next xs ps (rest_same (answered_of x) (given_to next p) (map answered_of xs) (map (given_to next) ps) e) i d (omega (arith, l))

-- what a member answers to the joiners that waited can be said
pub confirms_give : (next : Configuration) (pending : ProcessSet) (xs : List (Process × code.HostAnswer)) →
    map answered_of xs ≡ confirms next pending → All (λ x. AnswersObservers x.1) xs
unfolding confirms
confirms_give next pending xs e = each_given next xs (in_order process_cmp (set.items pending)) e
