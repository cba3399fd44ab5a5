use Rattle.std.proofs.Common.{◌≢◌, subst}
use Rattle.std.proofs.lemmas.Result.{MatchResult-from_err}
use Rattle.rapid_model.specs.Configuration.{Stamp}
use Rattle.rapid_model.specs.PublishedList.{IsBeginning}
use Rattle.rapid_view.specs.Seen.{Watched, IsOutdated}
use Rattle.rapid_view.proofs.Beginnings.{begins_longer}
use Rattle.rapid_view.proofs.Outdated.{outdated, last_was_seen}
use Rattle.rapid_view.proofs.Same.{not_same}
use Rattle.rapid_view.proofs.seat.ViewSeat.refresh.Goals as goal

pub returns-in_err-self-inside-clause-later : goal.returns-in_err-self-inside-clause-later
returns-in_err-self-inside-clause-later g c =
    subst (λ (v : Watched). IsBeginning v.seen c.look_up.new.stamps.seen) c.self.view_is (begins_longer _ _ _ c.stamp-stamp.ensures.later c.look_up.ensures.later)

pub returns-in_err-self-inside-clause-outdated : goal.returns-in_err-self-inside-clause-outdated
returns-in_err-self-inside-clause-outdated g c =
    let differ = subst (λ (s : Stamp). s ≢ c.stamp-stamp.result) c.stamp.ensures (not_same _ _ _ c.if-is_same.false c.is_same.ensures) in
    MatchResult-from_err c.from_residual.result _ _ c.from_residual.ensures.0
    (λ _. subst (λ (v : Watched). IsOutdated c.look_up.new.stamps.seen v.kept) c.self.view_is
    (outdated _ _ _ _ _ c.self.invariant c.stamp-stamp.ensures.later c.stamp-stamp.ensures.last differ c.look_up.ensures.later c.look_up.ensures.rises))

pub returns-clause-later : goal.returns-clause-later
returns-clause-later g c =
    subst (λ (v : Watched). IsBeginning v.seen c.look_up.new.stamps.seen) c.self.view_is (begins_longer _ _ _ c.stamp-stamp.ensures.later c.look_up.ensures.later)

pub invariant_of-self-2 : goal.invariant_of-self-2
invariant_of-self-2 g c = last_was_seen _ _ c.in_ok-self-inside.ensures.last
