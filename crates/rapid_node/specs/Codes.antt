-- Codes of nodes, by which a proof tells their values apart.
use Rattle.std.specs.Prelude.{◌≡◌, ◌⊎◌, ℕ, List, Option, refl}
use Rattle.std.proofs.Common.{inl, inr}
use Rattle.std.specs.Coded.{Coded, code_by, coded×, coded⊎, coded_ℕ, coded_list, coded_option}
use Rattle.rapid_model.specs.Bytes.{Endpoint, ConfigurationId}
use Rattle.rapid_model.specs.Process.{Process}
use Rattle.rapid_model.specs.Configuration.{Configuration, Stamp}
use Rattle.rapid_model.specs.Joiner.{Joiner}
use Rattle.rapid_model.specs.Node.{MemberState, Phase, Joining, Member, Removed, Halted, Decisions, Node}
use Rattle.rapid_model.specs.Codes.{bytes_code, cut_code}
use Rattle.rapid_join.specs.Hosts.{configuration_code}
use Rattle.rapid_member.specs.Codes.{member_code}

-- Joiners.
abbrev pub joiner_code : Coded Joiner
joiner_code = code_by (Endpoint × ℕ) (coded× bytes_code coded_ℕ) (λ j. (j.seed, j.ticks)) (λ p. record { seed = p.0; ticks = p.1 }) (λ _. refl)

abbrev Cases : Type 0
Cases = (Joiner ⊎ MemberState) ⊎ (Configuration ⊎ Option Configuration)

abbrev cases : Phase → Cases
cases (Joining j) = inl (inl j)
cases (Member s) = inl (inr s)
cases (Removed c) = inr (inl c)
cases (Halted shown) = inr (inr shown)

abbrev phase_from : Cases → Phase
phase_from (inl (inl j)) = Joining j
phase_from (inl (inr s)) = Member s
phase_from (inr (inl c)) = Removed c
phase_from (inr (inr shown)) = Halted shown

-- A phase is got back from its case.
pub phase_back : (p : Phase) → phase_from (cases p) ≡ p
phase_back (Joining j) = refl
phase_back (Member s) = refl
phase_back (Removed c) = refl
phase_back (Halted shown) = refl

-- Phases.
abbrev pub phase_code : Coded Phase
phase_code =
    code_by Cases (coded⊎ (coded⊎ joiner_code member_code) (coded⊎ configuration_code (coded_option configuration_code))) cases phase_from phase_back

-- Stamps.
abbrev pub stamp_code : Coded Stamp
stamp_code =
    code_by (ℕ × (ConfigurationId × ℕ)) (coded× coded_ℕ (coded× bytes_code coded_ℕ)) (λ s. (s.height, (s.id, s.members))) (λ p. record { height = p.0; id = p.1.0; members = p.1.1 }) (λ _. refl)

-- Nodes.
abbrev pub node_code : Coded Node
node_code =
    code_by ((Process × Phase) × (List Stamp × Decisions))
    (coded× (coded× bytes_code phase_code) (coded× (coded_list stamp_code) (coded_list (coded× bytes_code cut_code))))
    (λ n. ((n.me, n.phase), (n.installed, n.decisions)))
    (λ p. record { me = p.0.0; phase = p.0.1; installed = p.1.0; decisions = p.1.1 })
    (λ _. refl)
