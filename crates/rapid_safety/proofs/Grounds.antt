-- Each configuration was installed on grounds: it is the founding one, it was confirmed, or a cut was decided.
use Rattle.std.proofs.Common.{◌≡◌, ◌⊎◌, inl, inr, List, ◌++◌, refl, sym, ap, subst, ◌∙◌, arith}
use Rattle.rapid_safety.proofs.Basics.{filter_map-append, In, in_left, in_from, contains_from}
use Rattle.rapid_safety.proofs.Values.{Process, Configuration, configuration_id, AreMembers, Before, fast_ballot, Body, Accepted, Decision, Confirm}
use Rattle.rapid_safety.proofs.Working.{member_config}
use Rattle.rapid_safety.proofs.Worlds.{World, Installed, Entry, MarkedEvent, entry, acts_of, run, founded, Sent, sent, taken_by, received, Received, acts_in, Chosen}
use Rattle.rapid_safety.specs.Evidence.{Evidence}
use Rattle.rapid_safety.specs.Grounds.{HasGrounds, founds, joins, decides, InstallsGrounded, EvidenceChosen}
use Rattle.rapid_safety.specs.Evidence as evidence
use Rattle.rapid_safety.proofs.Atoms.{taken_in, message}
use Rattle.rapid_safety.proofs.Histories.{acts_at, acts-append, acts_here, here_from, Lived}
use Rattle.rapid_safety.proofs.Lived.{lived_founded, lived_kept, lived_run}
use Rattle.rapid_safety.proofs.News.{none_sent, SaidIn, PacketsSaid, sent_kept, said_more, said_sent, TookSaid, took_said, known_said, Moves, installed_new, sent_said}
use Rattle.rapid_safety.proofs.Speaking.{Asides, asides_run, accepted_above}
use Rattle.rapid_safety.proofs.Nodes.{acts_then, InstallKind, by_member, by_joiner, install_kind_of}
use Rattle.rapid_safety.proofs.Deciding.{evidence_more, lives_evidence}
use Rattle.rapid_safety.proofs.Steps.{Steps, run_keeps, log_grows, founding_stays}
use Rattle.rapid_safety.proofs.Members.{of_map, exists_counted}

grounds_grow : (w v : World) → v.founding ≡ w.founding → (more : List Entry) → v.log ≡ w.log ++ more → (e : Entry) (d : Configuration) → HasGrounds w e d → HasGrounds v e d
grounds_grow w v same more g e d (founds at first) = founds at (first ∙ sym same)
grounds_grow w v same more g e d (joins at p s member) = joins at p (said_sent v p (Confirm d) (subst (λ l. SaidIn l p (Confirm d)) (sym g) (said_more w.log more p (Confirm d) (sent_said w.log p (Confirm d) (in_from (sent w) (message p (Confirm d)) s))))) member
grounds_grow w v same more g e d (decides c u at is k) =
    decides c u at is (subst (λ a. Evidence c e.who a u) (sym (ap (λ l. acts_at l e.who c) g ∙ acts-append w.log more e.who c)) (evidence_more c e.who (acts_at w.log e.who c) (acts_at w.log e.who c ++ acts_at more e.who c) u
    (λ m h. subst (λ l. In l m) (sym (filter_map-append (taken_by e.who) (acts_at w.log e.who c) (acts_at more e.who c))) (in_left (taken_in e.who (acts_at w.log e.who c)) _ m h)) k))

abbrev Grounded : World → Type 0
Grounded w = (e : Entry) (d : Configuration) → In w.log e → e.act ≡ Installed d → HasGrounds w e d

ground_kept : (w v : World) → Steps w v → Lived w → PacketsSaid w → Grounded w → Grounded v
ground_kept w v s lives said k e d h is = elim (installed_new w v s e d h is) [
  | inl old ↦ grows e d (k e d old is)
  | inr x ↦ subst (λ y. HasGrounds v y d) x.by (kind x.move d (install_kind_of w v x.move lives said d x.act))
]
  where
    g : (more : List Entry) × (v.log ≡ w.log ++ more)
    g = log_grows w v s

    grows : (e : Entry) (d : Configuration) → HasGrounds w e d → HasGrounds v e d
    grows = grounds_grow w v (founding_stays w v s) g.0 g.1

    kind : (m : Moves w v) (c : Configuration) → InstallKind w v m c → HasGrounds v (entry m.peer.node (Installed c)) c
    kind m _ (by_member t heard x u at life) =
        decides t.config u (ap member_config at) refl
        (subst (λ a. Evidence t.config m.peer.node.me a u)
        (sym (acts_here w.log m.peer.node.me t.config m.peer.node (acts_of m.before m.peer.node m.outcome) (here_from t.config m.peer.node (ap member_config at))) ∙ ap (λ (y : World). acts_at y.log m.peer.node.me t.config) (sym m.is))
        (lives_evidence t.config m.peer.node.me (acts_then w v m t.config) heard x u life))
    kind m c (by_joiner j from _ at s' member) = joins (ap member_config at) from (said_sent v from (Confirm c) (subst (λ l. SaidIn l from (Confirm c)) (sym g.1) (said_more w.log g.0 from (Confirm c) s'))) member

pub installs_have_grounds : (c : Configuration) (es : List MarkedEvent) → AreMembers c.members → InstallsGrounded (run es (founded c))
installs_have_grounds c es are e d there is =
    (run_keeps (λ w. Lived w × PacketsSaid w × Grounded w) (λ w v s h. (lived_kept w v s h.0, sent_kept w v s h.1, ground_kept w v s h.0 h.1 h.2)) es (founded c)
    (lived_founded c are, none_sent c, λ e d h is. let r = of_map _ c.members e h in founds (ap (λ (x : Entry). x.at) (sym r.2)) (let z : Installed c ≡ Installed d = ap (λ (x : Entry). x.act) r.2 ∙ is in cc))).2
    e d (in_from (run es (founded c)).log e there) is

-- ---- with evidence it is chosen

pub evidence_chosen : (w : World) → Lived w → TookSaid w → Asides w → EvidenceChosen w
evidence_chosen w lives took asides n d v e = by e
  where
    sent_by : (p : Process) (b : Body) → Received w n d p b → Sent w p b
    sent_by p b h = said_sent w p b (known_said w took n p d b (in_from (received w n d) (message p b) h))

    by : Evidence d n (acts_in w n d) v → Chosen w d v ⊎ ((p : Process) × Received w n d p (Decision (configuration_id d) v))
    by (evidence.by_votes q enough each) = inl (fast_ballot, record { quorum = q; enough = inl (refl, enough); votes = λ a m h. inl (refl, sent_by a _ (each a m h)) })
    by (evidence.by_notices b q enough each) =
        let one = exists_counted q d.members (omega (arith, enough)) in
        let took_one : Received w n d one.0 (Accepted (configuration_id d) b v) = each one.0 (contains_from d.members one.0 one.1) one.2 in
        let above : Before fast_ballot b = accepted_above w lives took asides _ b v one.0 (known_said w took n one.0 d _ (in_from (received w n d) _ took_one)) in
        inl (b, record { quorum = q; enough = inr (above, enough); votes = λ a m h. inr (above, sent_by a _ (each a m h)) })
    by (evidence.by_decision p h) = inr (p, h)

pub evidence_is_chosen : (c : Configuration) (es : List MarkedEvent) → AreMembers c.members → EvidenceChosen (run es (founded c))
evidence_is_chosen c es are = evidence_chosen (run es (founded c)) (lived_run c es are) (took_said c es) (asides_run c es)
