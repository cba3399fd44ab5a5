-- Codes of a coordinator and of a learner, by which a proof tells their values apart.
use Rattle.std.specs.Prelude.{ℕ, Bool, Option, refl}
use Rattle.std.specs.Ordering.{nat_cmp}
use Rattle.std.specs.Coded.{Coded, code_by, coded×, coded_ℕ, coded_bool, coded_option}
use Rattle.std.specs.FinSet as set
use Rattle.rapid_model.specs.Ballot.{Ballot}
use Rattle.rapid_model.specs.FastRound.{Counts}
use Rattle.rapid_model.specs.Coordinator.{Coordinator}
use Rattle.rapid_model.specs.Learner.{Learner, notice_cmp}
use Rattle.rapid_model.specs.Codes.{ballot_code, positions_code, counts_code, notices_code}

-- Coordinators.
abbrev pub coordinator_code : Coded Coordinator
coordinator_code =
    code_by ((ℕ × ℕ) × (Option Ballot × (set.FinSet nat_cmp × (Option Ballot × Counts))))
    (coded× (coded× coded_ℕ coded_ℕ) (coded× (coded_option ballot_code) (coded× positions_code (coded× (coded_option ballot_code) counts_code))))
    (λ c. ((c.size, c.position), (c.ballot, (c.heard, (c.top, c.counts)))))
    (λ p. record { size = p.0.0; position = p.0.1; ballot = p.1.0; heard = p.1.1.0; top = p.1.1.1.0; counts = p.1.1.1.1 })
    (λ _. refl)

-- Learners.
abbrev pub learner_code : Coded Learner
learner_code =
    code_by (ℕ × (set.FinSet notice_cmp × Bool))
    (coded× coded_ℕ (coded× notices_code coded_bool))
    (λ l. (l.size, (l.notices, l.decided)))
    (λ p. record { size = p.0; notices = p.1.0; decided = p.1.1 })
    (λ _. refl)
