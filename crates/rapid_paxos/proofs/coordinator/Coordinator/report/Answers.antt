use Rattle.std.proofs.Common.{◌≤◌, ◌∙◌, ap, subst, sym, Some}
use Rattle.std.specs.FinSet as set
use Rattle.rapid_model.specs.Coordinator.{Coordinator}
use Rattle.rapid_paxos.specs.Invariants.{IsCoordinator}
use Rattle.rapid_paxos.proofs.Coordinating.{room_for, nothing_counted, kept_same, kept_more, kept_higher}
use Rattle.rapid_paxos.proofs.coordinator.Coordinator.report.Goals as goal
use Rattle.rapid_paxos.proofs.coordinator.Coordinator.report.Goals.{in-Some+then-eq+in_ok-add, in-Some+else-eq+then-lt+in_ok-add-2, in-Some+else-eq+else-lt, in_default}

pub add-requires : goal.add-requires
add-requires c =
    record {
      room = room_for c.self.inside.counts c.self.inside.heard c.self.invariant.counted (subst (λ k. set.len k.heard ≤ 1024) (sym c.self.view_is) c.requires.few) c.in-Some.cut;
    }

pub add-requires-then-lt : goal.add-requires-then-lt
add-requires-then-lt c =
    record {
      room = room_for c.new-counts.result c.self.inside.heard (nothing_counted c.new-counts.result c.self.inside.heard c.new-counts.ensures) (subst (λ k. set.len k.heard ≤ 1024) (sym c.self.view_is) c.requires.few) c.in-Some.cut;
    }

pub invariant_of-self-2 : goal.invariant_of-self-2
invariant_of-self-2 c =
    let k : Coordinator = record { size = c.self.inside.size; position = c.self.inside.position; ballot = c.self.inside.ballot; heard = c.self.inside.heard; top = c.self.inside.top; counts = c.self.inside.counts } in
    let new = ap (λ q. set.contains q.heard c.args.position) c.self.view_is ∙ c.requires.new in
    elim c.match-vote.branch [
      | in-Some+then-eq+in_ok-add w ↦
          subst (λ r. IsCoordinator (record { size = r.size; position = r.position; ballot = r.ballot; heard = c.insert.new.self; top = r.top; counts = r.counts })) (sym w.self-inside-is)
          (kept_more k c.self.invariant c.args.position new c.insert.new.self (c.insert.ensures ∙ ap (λ r. set.insert r.heard c.args.position) w.self-inside-is) w.add.new.self w.in-Some.cut w.in_ok-add.ensures.ok)
      | in-Some+else-eq+then-lt+in_ok-add-2 w ↦
          subst (λ r. IsCoordinator (record { size = r.size; position = r.position; ballot = r.ballot; heard = c.insert.new.self; top = r.top; counts = r.counts })) (sym w.self-inside-is)
          (kept_higher k c.self.invariant c.args.position new c.insert.new.self (c.insert.ensures ∙ ap (λ r. set.insert r.heard c.args.position) w.self-inside-is) (Some w.in-Some.ballot) w.new-counts.result w.add-then-lt.new.self w.in-Some.cut w.new-counts.ensures w.in_ok-add-2.ensures.ok)
      | in-Some+else-eq+else-lt w ↦
          subst (λ r. IsCoordinator (record { size = r.size; position = r.position; ballot = r.ballot; heard = c.insert.new.self; top = r.top; counts = r.counts })) (sym w.self-inside-is)
          (kept_same k c.self.invariant c.args.position new c.insert.new.self (c.insert.ensures ∙ ap (λ r. set.insert r.heard c.args.position) w.self-inside-is))
      | in_default w ↦
          subst (λ r. IsCoordinator (record { size = r.size; position = r.position; ballot = r.ballot; heard = c.insert.new.self; top = r.top; counts = r.counts })) (sym w.self-inside-is)
          (kept_same k c.self.invariant c.args.position new c.insert.new.self (c.insert.ensures ∙ ap (λ r. set.insert r.heard c.args.position) w.self-inside-is))
    ]
