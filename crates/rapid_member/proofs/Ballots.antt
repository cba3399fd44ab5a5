-- The ballot that is begun next is a classic one, and why a promise is refused.
use Rattle.std.proofs.Common.{◌≡◌, ℕ, ◌≤◌, Bool, true, false, max, Option, Some, None, Result, Ok, Err, inl, inr, refl, ap, arith}
use Rattle.std.specs.Prelude.{if◌then◌else◌, nat_le}
use Rattle.rapid_model.specs.Acceptor.{Acceptor, AcceptorRefusal, Promised, promise_answer}
use Rattle.rapid_model.specs.Ballot.{Ballot, Vote, IsBallot, IsClassicBallot, is_below}
use Rattle.rapid_model.specs.Cut.{Cut}
use Rattle.rapid_model.specs.Coordinator.{Coordinator, next_ballot, next_round}

at_least_two : (n : ℕ) → 2 ≤ max 2 n
at_least_two n = omega arith

this_one : (t : Bool) (a b : Ballot) → (if t then Some a else None) ≡ Some b → a ≡ b
this_one true a b e = cc
this_one false a b e = cc

pub next_is_classic : (c : Coordinator) (above b : Ballot) → next_ballot c above ≡ Some b → IsBallot b → IsClassicBallot b
unfolding next_ballot
next_is_classic c above b e (inr classic) = classic
next_is_classic c above b e (inl fast) =
    let same : next_round c above ≡ b.round = ap (λ (x : Ballot). x.round) (this_one (nat_le (next_round c above) 250) (record { round = next_round c above; position = c.position }) b e) in
    let first : b.round ≡ 1 = ap (λ (x : Ballot). x.round) fast in
    let two : 2 ≤ next_round c above = at_least_two _ in
    absurd (omega (arith, same, first, two))

abbrev Answer : Type 0
Answer = Result (Option (Vote Cut)) AcceptorRefusal

abbrev answer_at : Bool → Ballot → Option (Vote Cut) → Answer
answer_at t r v = if t then Ok v else Err (Promised r)

refused_at : (t : Bool) (r x : Ballot) (v : Option (Vote Cut)) → answer_at t r v ≡ Err (Promised x) → answer_at t r v ≡ Err (Promised r)
refused_at true r x v e = cc
refused_at false r x v e = refl

-- a promise is refused for the ballot at which one was given
pub refused_for : (a : Acceptor Cut) (b x : Ballot) → promise_answer a b ≡ Err (Promised x) → promise_answer a b ≡ Err (Promised a.rnd)
unfolding promise_answer
refused_for a b x e = refused_at (is_below a.rnd b) a.rnd x a.last e
