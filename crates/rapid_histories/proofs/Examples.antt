-- Small histories, by the laws.
use Rattle.std.proofs.Common.{◌≡◌, ℕ, ◌<◌, Bool, true, false, List, [], ◌∷◌, ◌++◌, length, refl, sym, ap, ◌∙◌, ◌&&◌, ◌||◌, ◌==◌, arith, Option, Some, None, nat_lt}
use Rattle.std.specs.List.{list_all}
use Rattle.std.proofs.lemmas.Bool.{and_parts, ltb-true}
use Rattle.std.proofs.lemmas.List.Elements.{All-nil, All-cons}
use Rattle.rapid_model.specs.Cut.{Cut, same_cut}
use Rattle.rapid_model.specs.Quorum.{size, IsClassic}
use Rattle.rapid_model.specs.Ballot.{Ballot, same_ballot}
use Rattle.rapid_model.specs.FastRound.{fast_decision}
use Rattle.rapid_model.specs.Learner.{Notice, learnt}
use Rattle.rapid_model.proofs.Orders.{ballots_decided}
use Rattle.rapid_agreement.specs.Positions.{positions}
use Rattle.rapid_histories.specs.Examples.{one_cut, other_cut, low_ballot, high_ballot, three_of_five, two_and_two, two_promises}
use Rattle.rapid_histories.specs.Firsts.{OfMembers}
use Rattle.rapid_histories.specs.Votes.{round_after, voters, HasFastQuorum}
use Rattle.rapid_histories.specs.Notices.{learner_after, AreOfMembers, givers, HasClassicQuorum}
use Rattle.rapid_histories.specs.Promises.{promisers, HasMajority}
use Rattle.rapid_histories.proofs.Voting.{votes_complete}
use Rattle.rapid_histories.proofs.Noticing.{notices_complete}
use Rattle.rapid_model.proofs.Logic.{none_if}

within : {X : Type 0} (n : ℕ) (xs : List (ℕ × X)) → list_all (λ (x : ℕ × X). nat_lt x.0 n) xs ≡ true → OfMembers n xs
within n [] h = All-nil _
within {X} n (x ∷ xs) h =
    let parts = and_parts (nat_lt x.0 n) (list_all (λ (y : ℕ × X). nat_lt y.0 n) xs) h in
    All-cons (λ (y : ℕ × X). y.0 < n) x xs (ltb-true x.0 n parts.0) (within n xs parts.1)

given_by : (n : ℕ) (xs : List Notice) → list_all (λ (x : Notice). nat_lt x.1 n) xs ≡ true → AreOfMembers n xs
given_by n [] h = All-nil _
given_by n (x ∷ xs) h =
    let parts = and_parts (nat_lt x.1 n) (list_all (λ (y : Notice). nat_lt y.1 n) xs) h in
    All-cons (λ (y : Notice). y.1 < n) x xs (ltb-true x.1 n parts.0) (given_by n xs parts.1)

five : length (positions 5) ≡ 5
five = refl

not_fast : HasFastQuorum 5 three_of_five one_cut → ⊥
not_fast h = let s : size (positions 5) (voters three_of_five one_cut) ≡ 3 = refl in omega (arith, five, s, h)

pub fourth : fast_decision (round_after 5 three_of_five) 3 one_cut ≡ Some one_cut
fourth =
    (votes_complete 5 three_of_five 3 one_cut one_cut (within 5 three_of_five refl) (omega arith)).1
    (refl, ((let s : size (positions 5) (voters (three_of_five ++ (3, one_cut) ∷ []) one_cut) ≡ 4 = refl in omega (arith, five, s)), not_fast))

pub other_vote : fast_decision (round_after 5 three_of_five) 3 other_cut ≡ None
other_vote =
    none_if _
    (λ z e.
    let h = (votes_complete 5 three_of_five 3 other_cut z (within 5 three_of_five refl) (omega arith)).0 e in
    let s : size (positions 5) (voters (three_of_five ++ (3, other_cut) ∷ []) other_cut) ≡ 2 = refl in omega (arith, five, s, h.1.0))

pub second_vote : fast_decision (round_after 5 three_of_five) 0 one_cut ≡ None
second_vote =
    none_if _
    (λ z e.
    let h = (votes_complete 5 three_of_five 0 one_cut z (within 5 three_of_five refl) (omega arith)).0 e in
    let s : size (positions 5) (voters (three_of_five ++ (0, one_cut) ∷ []) one_cut) ≡ 3 = refl in omega (arith, five, s, h.1.0))

-- ---- notices

-- who gave notice, by whether the ballot and the cut are those of the first or of the last notices
abbrev who : Bool → Bool → ℕ → Bool
who a b p = ((p == 0) && a) || (((p == 0) && a) || (((p == 3) && a) || (((p == 3) && b) || (((p == 4) && b) || false))))

no_quorum : (c : Ballot) (u : Cut) → HasClassicQuorum 5 two_and_two c u → ⊥
no_quorum c u quorum = by (same_ballot c low_ballot && same_cut u one_cut) refl (same_ballot c high_ballot && same_cut u other_cut) refl quorum
  where
    by : (a : Bool) → (same_ballot c low_ballot && same_cut u one_cut) ≡ a → (b : Bool) → (same_ballot c high_ballot && same_cut u other_cut) ≡ b → IsClassic (positions 5) (who a b) → ⊥
    by false e false f h = let s : size (positions 5) (who false false) ≡ 0 = refl in omega (arith, five, s, h)
    by true e false f h = let s : size (positions 5) (who true false) ≡ 2 = refl in omega (arith, five, s, h)
    by false e true f h = let s : size (positions 5) (who false true) ≡ 2 = refl in omega (arith, five, s, h)
    by true e true f h =
        let low : c ≡ low_ballot = (ballots_decided c low_ballot).0 (and_parts _ _ e).0 in
        let high : c ≡ high_ballot = (ballots_decided c high_ballot).0 (and_parts _ _ f).0 in
        let position : 0 ≡ 1 = ap (λ (x : Ballot). x.position) (sym low ∙ high) in
        omega (arith, position)

pub low_third : learnt (learner_after 5 two_and_two) 1 low_ballot one_cut ≡ Some one_cut
low_third =
    (notices_complete 5 two_and_two 1 low_ballot one_cut one_cut (given_by 5 two_and_two refl) (omega arith)).1
    (refl, ((let s : size (positions 5) (givers (two_and_two ++ ((low_ballot, one_cut), 1) ∷ []) low_ballot one_cut) ≡ 3 = refl in omega (arith, five, s)), no_quorum))

pub high_third : learnt (learner_after 5 two_and_two) 0 high_ballot other_cut ≡ Some other_cut
high_third =
    (notices_complete 5 two_and_two 0 high_ballot other_cut other_cut (given_by 5 two_and_two refl) (omega arith)).1
    (refl, ((let s : size (positions 5) (givers (two_and_two ++ ((high_ballot, other_cut), 0) ∷ []) high_ballot other_cut) ≡ 3 = refl in omega (arith, five, s)), no_quorum))

pub neither : learnt (learner_after 5 two_and_two) 0 high_ballot one_cut ≡ None
neither =
    none_if _
    (λ z e.
    let h = (notices_complete 5 two_and_two 0 high_ballot one_cut z (given_by 5 two_and_two refl) (omega arith)).0 e in
    let s : size (positions 5) (givers (two_and_two ++ ((high_ballot, one_cut), 0) ∷ []) high_ballot one_cut) ≡ 1 = refl in omega (arith, five, s, h.1.0))

-- ---- promises

pub two_promised : HasMajority 5 low_ballot two_promises → ⊥
two_promised h = let s : size (positions 5) (promisers low_ballot two_promises) ≡ 2 = refl in omega (arith, five, s, h)

pub second_promise : HasMajority 5 low_ballot (two_promises ++ (0, (low_ballot, None)) ∷ []) → ⊥
second_promise h = let s : size (positions 5) (promisers low_ballot (two_promises ++ (0, (low_ballot, None)) ∷ [])) ≡ 2 = refl in omega (arith, five, s, h)

pub third_promise : HasMajority 5 low_ballot (two_promises ++ (4, (low_ballot, None)) ∷ [])
third_promise = let s : size (positions 5) (promisers low_ballot (two_promises ++ (4, (low_ballot, None)) ∷ [])) ≡ 3 = refl in omega (arith, five, s)
