-- Clauses of public calls cite this file.
-- A learner over all notices that it was given.
use Rattle.std.specs.Prelude.{◌≡◌, ℕ, ◌<◌, ◌↔◌, Bool, ◌&&◌, ◌==◌, List, [], ◌∷◌, ◌++◌, All, Some, None}
use Rattle.std.specs.List.{list_any}
use Rattle.rapid_model.specs.Cut.{Cut, same_cut}
use Rattle.rapid_model.specs.Quorum.{size, IsClassic}
use Rattle.rapid_model.specs.Ballot.{Ballot, same_ballot}
use Rattle.rapid_model.specs.Learner.{Learner, Notice, fresh_learner, after_notice, learnt, notice_count}
use Rattle.rapid_agreement.specs.Positions.{positions}

-- The learner after notices, in order.
abbrev pub after_notices : Learner → List Notice → Learner
after_notices l [] = l
after_notices l (x ∷ xs) = after_notices (after_notice l x.1 x.0.0 x.0.1) xs

-- The learner among n members after notices.
abbrev pub learner_after : ℕ → List Notice → Learner
learner_after n notices = after_notices (fresh_learner n) notices

-- Each notice is of one of n members.
abbrev pub AreOfMembers : ℕ → List Notice → Type 0
AreOfMembers n notices = All (λ x. x.1 < n) notices

-- The positions that gave notice of the cut at the ballot.
abbrev pub givers : List Notice → Ballot → Cut → ℕ → Bool
givers notices b v p = list_any (λ x. (p == x.1) && (same_ballot b x.0.0 && same_cut v x.0.1)) notices

-- Those that gave notice of the cut at the ballot are a classic quorum.
abbrev pub HasClassicQuorum : ℕ → List Notice → Ballot → Cut → Type 0
HasClassicQuorum n notices b v = IsClassic (positions n) (givers notices b v)

-- The count of a cut at a ballot is the number of positions that gave notice of it, however often each did.
abbrev pub GiversCount : Type 0
GiversCount =
    (n : ℕ) (notices : List Notice) (b : Ballot) (v : Cut) → AreOfMembers n notices →
    notice_count (learner_after n notices).notices b v ≡ size (positions n) (givers notices b v)

-- A notice teaches exactly its own cut. It does so if it completes a classic quorum for its ballot and cut, and none
-- was complete for any ballot and cut before.
abbrev pub NoticesComplete : Type 0
NoticesComplete =
    (n : ℕ) (notices : List Notice) (p : ℕ) (b : Ballot) (v w : Cut) → AreOfMembers n notices → p < n →
    (learnt (learner_after n notices) p b v ≡ Some w)
    ↔ ((w ≡ v) × (HasClassicQuorum n (notices ++ ((b, v), p) ∷ []) b v × ((c : Ballot) (u : Cut) → HasClassicQuorum n notices c u → ⊥)))

-- After a notice that teaches, none does.
abbrev pub LearnsOnce : Type 0
LearnsOnce =
    (n : ℕ) (notices later : List Notice) (p q : ℕ) (b c : Ballot) (v w u : Cut) → AreOfMembers n notices → AreOfMembers n later → p < n →
    q < n → learnt (learner_after n notices) p b v ≡ Some w →
    learnt (learner_after n (notices ++ ((b, v), p) ∷ later)) q c u ≡ None
