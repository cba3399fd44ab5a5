use Rattle.std.proofs.Common.{false, refl, ◌∙◌}
use Rattle.std.proofs.lemmas.Result.{err_from_is_err_and}
use Rattle.std.proofs.lemmas.List.Elements.{All-nil}
use Rattle.std.proofs.lemmas.Option.{slice_get_within}
use Rattle.rapid_world.specs.Events.{event_of}
use Rattle.rapid_world.specs.Framed.{HasFrame}
use Rattle.rapid_world.specs.Handed.{crash_of}
use Rattle.rapid_world.proofs.Giving.{at_place, named_at, given_run, given_stored, no_reports, nothing_more}
use Rattle.rapid_world.proofs.world.World.crash_at.Goals as goal

pub invariant_of-self : goal.invariant_of-self
invariant_of-self c = rw c.reserve.ensures.world c.self.invariant

pub returns-in_err-reserve-clause-unchanged : goal.returns-in_err-reserve-clause-unchanged
returns-in_err-reserve-clause-unchanged c =
    let p = err_from_is_err_and c.from_residual.result c.from_residual.ensures.1 in
    rw (p.1) (c.reserve.ensures.world ∙ c.self.view_is)

pub crash-requires : goal.crash-requires
crash-requires c = slice_get_within _ _ _ (at_place _ _ _ _ _ _ c.self.invariant c.self.view_is c.requires.1.at)

pub push-requires-clause-names : goal.push-requires-clause-names
push-requires-clause-names c = named_at _ _ _ _ _ _ _ _ c.self.invariant c.self.view_is c.reserve.ensures.world c.requires.1.at c.requires.1.names

pub invariant_of-self-2 : goal.invariant_of-self-2
invariant_of-self-2 c =
    let at = at_place _ _ _ _ _ _ c.self.invariant c.self.view_is c.requires.1.at in
    given_run c.args.self.now _ _ _ (record { event = event_of c.args.event.now; halts = false }) _ _ _ _ _ _ (crash_of c.requires.0)
    c.self.view_is c.reserve.ensures.world c.push.ensures c.self.invariant c.requires.1 refl
    (c.crash.ensures c.requires.0 at) (nothing_more c.self.inside.mail.packets) (All-nil HasFrame)

pub returns-clause-stored : goal.returns-clause-stored
returns-clause-stored c =
    given_stored c.args.self.now _ _ _ (record { event = event_of c.args.event.now; halts = false }) _ _ (crash_of c.requires.0) _
    c.self.view_is c.reserve.ensures.world c.push.ensures c.requires.1 (no_reports _ c.new.ensures.items) (λ t. cc) (λ t. cc)
