use Rattle.std.proofs.Common.{[], refl, ◌∙◌}
use Rattle.std.proofs.lemmas.Result.{err_from_is_err_and}
use Rattle.rapid_model.specs.Node.{EdgeDown}
use Rattle.rapid_world.specs.Events.{event_of}
use Rattle.rapid_world.specs.Handed.{told}
use Rattle.rapid_world.proofs.Doing.{told_marks, told_needed}
use Rattle.rapid_world.proofs.Finding.{told_me}
use Rattle.rapid_world.proofs.Giving.{at_place, named_at, kept_run, given_run, given_stored, one_report, none_more, none_framed}
use Rattle.rapid_world.proofs.world.World.probe_at.Goals as goal

pub invariant_of-self : goal.invariant_of-self
invariant_of-self c = rw c.reserve.ensures.world c.self.invariant

pub returns-in_err-reserve-clause-unchanged : goal.returns-in_err-reserve-clause-unchanged
returns-in_err-reserve-clause-unchanged c =
    let p = err_from_is_err_and c.from_residual.result c.from_residual.ensures.1 in
    rw (p.1) (c.reserve.ensures.world ∙ c.self.view_is)

pub invariant_of-self-in_err-reserve-2 : goal.invariant_of-self-in_err-reserve-2
invariant_of-self-in_err-reserve-2 c = rw c.reserve.ensures.world c.self.invariant

pub returns-in_err-reserve-2-clause-unchanged : goal.returns-in_err-reserve-2-clause-unchanged
returns-in_err-reserve-2-clause-unchanged c =
    let p = err_from_is_err_and c.from_residual-in_err-reserve-2.result c.from_residual-in_err-reserve-2.ensures.1 in
    rw (p.1) (c.reserve.ensures.world ∙ c.self.view_is)

pub probe-requires : goal.probe-requires
probe-requires c =
    record {
      peer = c.requires.0;
      at = at_place _ _ _ _ _ _ c.self.invariant c.self.view_is c.requires.1.does.at;
      up = c.requires.1.up;
      member = c.requires.1.member;
      edge = c.requires.1.edge;
      keeps = c.requires.1.keeps;
    }

pub push-requires-clause-names : goal.push-requires-clause-names
push-requires-clause-names c = named_at _ _ _ _ _ _ _ _ c.self.invariant c.self.view_is c.reserve.ensures.world c.requires.1.does.at c.requires.1.does.names

pub invariant_of-self-2 : goal.invariant_of-self-2
invariant_of-self-2 c =
    let at = at_place _ _ _ _ _ _ c.self.invariant c.self.view_is c.requires.1.does.at in
    given_run c.args.self.now _ _ _ (record { event = event_of c.args.event.now; halts = c.in_ok-told.told.halts }) _ _ _ _ _ _ (told c.requires.0 c.args.ring c.args.ok (EdgeDown c.args.observed.0 c.args.ring c.args.observed.1))
    c.self.view_is c.reserve.ensures.world c.push.ensures c.self.invariant c.requires.1.does
    (told_me c.requires.0 c.args.ring c.args.ok (EdgeDown c.args.observed.0 c.args.ring c.args.observed.1) c.in_ok-told.told.halts c.requires.1.keeps)
    (c.in_ok-told.ensures.peers c.requires.0 at) (none_more _ _ (c.in_ok-told.ensures.packets c.requires.0 at)) (none_framed _ (c.in_ok-told.ensures.packets c.requires.0 at))

pub returns-clause-stored : goal.returns-clause-stored
returns-clause-stored c =
    let at = at_place _ _ _ _ _ _ c.self.invariant c.self.view_is c.requires.1.does.at in
    given_stored c.args.self.now _ _ _ (record { event = event_of c.args.event.now; halts = c.in_ok-told.told.halts }) _ _ (told c.requires.0 c.args.ring c.args.ok (EdgeDown c.args.observed.0 c.args.ring c.args.observed.1)) _
    c.self.view_is c.reserve.ensures.world c.push.ensures c.requires.1.does
    (one_report [] _ _ c.take.ensures refl ∙ c.in_ok-told.ensures.reports c.requires.0 at)
    (told_marks c.requires.0 c.args.ring c.args.ok (EdgeDown c.args.observed.0 c.args.ring c.args.observed.1) c.in_ok-told.told.halts (c.in_ok-told.ensures.quiet c.requires.0 at))
    (λ t. told_needed c.requires.0 c.args.ring c.args.ok c.args.observed.0 c.args.observed.1)

pub invariant_of-self-in_err-told : goal.invariant_of-self-in_err-told
invariant_of-self-in_err-told c =
    kept_run _ _ _ _ _ _ c.self.invariant c.reserve.ensures.world c.in_err-told.ensures.unchanged refl

pub returns-in_err-told-clause-unchanged : goal.returns-in_err-told-clause-unchanged
returns-in_err-told-clause-unchanged c =
    let p = err_from_is_err_and c.from_residual-in_err-told.result c.from_residual-in_err-told.ensures.1 in
    rw (p.1) (c.reserve.ensures.world ∙ c.self.view_is)
