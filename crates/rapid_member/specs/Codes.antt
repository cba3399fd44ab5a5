-- Codes of members, by which a proof tells their values apart.
use Rattle.std.specs.Prelude.{ℕ, Bool, Option, refl}
use Rattle.std.specs.Coded.{Coded, code_by, coded×, coded_ℕ, coded_bool, coded_option}
use Rattle.std.specs.FinMap as map
use Rattle.rapid_model.specs.Process.{Process, ProcessSet, process_cmp}
use Rattle.rapid_model.specs.Cut.{Cut}
use Rattle.rapid_model.specs.Configuration.{Configuration}
use Rattle.rapid_model.specs.Ballot.{Ballot, Vote}
use Rattle.rapid_model.specs.Outbox.{Outbox}
use Rattle.rapid_model.specs.Detector.{Detector}
use Rattle.rapid_model.specs.FastRound.{FastRound}
use Rattle.rapid_model.specs.Acceptor.{Acceptor}
use Rattle.rapid_model.specs.Coordinator.{Coordinator}
use Rattle.rapid_model.specs.Learner.{Learner}
use Rattle.rapid_model.specs.Node.{MemberState}
use Rattle.rapid_model.specs.Codes.{bytes_code, cut_code, ballot_code, processes_code, ages_code, fast_code, detector_code}
use Rattle.rapid_alerts.specs.Outboxes.{outbox_code}
use Rattle.rapid_paxos.specs.Codes.{coordinator_code, learner_code}
use Rattle.rapid_join.specs.Hosts.{configuration_code}

-- Votes.
abbrev pub vote_code : Coded (Vote Cut)
vote_code = code_by (Ballot × Cut) (coded× ballot_code cut_code) (λ v. (v.ballot, v.value)) (λ p. record { ballot = p.0; value = p.1 }) (λ _. refl)

-- Acceptors.
abbrev pub acceptor_code : Coded (Acceptor Cut)
acceptor_code =
    code_by (Ballot × Option (Vote Cut)) (coded× ballot_code (coded_option vote_code)) (λ a. (a.rnd, a.last)) (λ p. record { rnd = p.0; last = p.1 }) (λ _. refl)

-- The two halves of what a member keeps.
abbrev Parts : Type 0
Parts = (Configuration × (Process × (Outbox × Detector))) × ((FastRound × Acceptor Cut) × (Coordinator × Learner))

abbrev Rest : Type 0
Rest = (ProcessSet × (Option Cut × Bool)) × (ℕ × (Option ℕ × map.FinMap process_cmp ℕ))

abbrev parts_code : Coded Parts
parts_code =
    coded× (coded× configuration_code (coded× bytes_code (coded× outbox_code detector_code))) (coded× (coded× fast_code acceptor_code) (coded× coordinator_code learner_code))

abbrev rest_code : Coded Rest
rest_code = coded× (coded× processes_code (coded× (coded_option cut_code) coded_bool)) (coded× coded_ℕ (coded× (coded_option coded_ℕ) ages_code))

-- Members.
abbrev pub member_code : Coded MemberState
member_code =
    code_by (Parts × Rest) (coded× parts_code rest_code)
    (λ s. (((s.config, (s.me, (s.outbox, s.detector))), ((s.fast, s.acceptor), (s.coordinator, s.learner))), ((s.pending, (s.proposal, s.voted)), (s.tick, (s.first_vote, s.ages)))))
    (λ p. record {
      config = p.0.0.0;
      me = p.0.0.1.0;
      outbox = p.0.0.1.1.0;
      detector = p.0.0.1.1.1;
      fast = p.0.1.0.0;
      acceptor = p.0.1.0.1;
      coordinator = p.0.1.1.0;
      learner = p.0.1.1.1;
      pending = p.1.0.0;
      proposal = p.1.0.1.0;
      voted = p.1.0.1.1;
      tick = p.1.1.0;
      first_vote = p.1.1.1.0;
      ages = p.1.1.1.1;
    })
    (λ _. refl)
